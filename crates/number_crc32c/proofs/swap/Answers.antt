-- `number_crc32c::swap` meets its contract: the four bytes are the digits of the number, most significant first.
use mathlib.Core.Path.{sym}
use Rattle.number_crc32c.proofs.Laws.{swapped-digits}
use Rattle.number_crc32c.proofs.swap.Goals as goal

pub returns : goal.returns
returns c = sym (swapped-digits c.args.n c.ranges.n.fits)
