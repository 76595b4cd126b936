use mathlib.Core.Path.{◌≡◌}
use mathlib.Core.List.{List}
use Prim.Native.Nat.{ℕ, ◌+◌, ◌-◌, ◌≤◌}
use lib.ListN.{length}
use Rattle.wire_options.specs.Walk.{Located}
use Rattle.wire_options.proofs.Rests.{Rest}
use Rattle.list_options.proofs.Rests.{whole, code}
use Rattle.list_options.proofs.options_size.Given as goal

-- what was counted, and what is still to come
pub record Counted (l : List ℕ) (at total : ℕ) : Type 0 where
  pub options : List Located
  pub rest : Rest l at options
  pub sum : total + length (code options) ≡ length (whole l)

abbrev pub invariant-loop-at : goal.invariant-loop-at
invariant-loop-at l = (l.at ≤ length l.options) × Counted l.options l.at l.total

abbrev pub decreases-loop-at : goal.decreases-loop-at
decreases-loop-at l = length l.options - l.at
