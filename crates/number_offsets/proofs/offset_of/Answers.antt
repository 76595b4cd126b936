-- `number_offsets::offset_of` meets its contract: the sum is the definition's.
use mathlib.Core.Path.{refl}
use Rattle.number_offsets.specs.Offsets.{offset_of, udp_header}
use Rattle.number_offsets.proofs.offset_of.Goals as goal

pub returns : goal.returns
unfolding offset_of udp_header
returns c = refl
