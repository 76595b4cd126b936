-- `program_printout::input_room` meets its contract: the constant is the limit.
use Prim.Native.Nat.{zero}
use lib.ListN.{length-replicate}
use Rattle.wire_reading.specs.Reading.{payload_limit}
use Rattle.program_printout.specs.Input.{input_limit}
use Rattle.program_printout.proofs.input_room.Goals as goal

pub returns : goal.returns
unfolding input_limit payload_limit
returns c = length-replicate _ zero
