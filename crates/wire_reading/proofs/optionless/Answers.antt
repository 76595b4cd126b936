-- `wire_reading::optionless` meets its contract: each field is the definition's.
use mathlib.Core.Path.{refl}
use Rattle.number_offsets.specs.Offsets.{udp_header}
use Rattle.wire_reading.proofs.optionless.Goals as goal

pub returns : goal.returns
unfolding udp_header
returns c = refl
