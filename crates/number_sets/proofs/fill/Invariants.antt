use Prim.Native.Nat.{◌*◌}
use lib.Dec.{eqb}
use Rattle.number_sets.specs.Sets.{Included}
use Rattle.number_sets.proofs.fill.Given as goal

abbrev pub invariant-loop-w : goal.invariant-loop-w
invariant-loop-w l = Included l.initial.words (64 * l.from) (64 * l.w) (eqb l.seen 0) l.words
