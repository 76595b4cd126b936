use Rattle.number_varint.proofs.Partly.{Partly}
use Rattle.number_varint.proofs.decode.Given as goal

abbrev pub invariant-loop-i : goal.invariant-loop-i
invariant-loop-i l = Partly l.bytes l.at l.value l.weight l.room l.i
