-- `number_octets::put_u16` meets its contract: the two stores lay the number's two bytes over the slice (`overlay-two`).
use native.Mathlib.Omega.{arith}
use lib.ListN.{length-set}
use Rattle.number_octets.proofs.Laws.{overlay-two}
use Rattle.number_octets.proofs.put_u16.Goals as goal

pub returns : goal.returns
returns c = overlay-two c.args.bytes.now c.args.at c.args.value c.ranges.value.fits c.requires
