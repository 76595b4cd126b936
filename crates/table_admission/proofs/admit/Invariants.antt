use Rattle.table_admission.proofs.Surveys.{Surveyed}
use Rattle.table_admission.proofs.admit.Given as goal

abbrev pub invariant-loop-i : goal.invariant-loop-i
invariant-loop-i l = Surveyed l.records l.k l.i l.before l.places
