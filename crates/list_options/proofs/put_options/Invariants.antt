use mathlib.Core.Path.{◌≡◌}
use mathlib.Core.List.{List, ◌++◌}
use Prim.Native.Nat.{ℕ, ◌-◌, ◌≤◌}
use lib.ListN.{length}
use Rattle.wire_options.specs.Walk.{Located}
use Rattle.wire_options.proofs.Rests.{Rest}
use Rattle.list_options.specs.Listing.{WrittenAt}
use Rattle.list_options.proofs.Rests.{whole, code}
use Rattle.list_options.proofs.put_options.Given as goal

-- what was written, and what is still to come
pub record PutSoFar (l buffer₀ : List ℕ) (start at out : ℕ) (buffer : List ℕ) : Type 0 where
  pub done : List ℕ
  pub options : List Located
  pub rest : Rest l at options
  pub sum : done ++ code options ≡ whole l
  pub written : WrittenAt done buffer₀ start out buffer

abbrev pub invariant-loop-at : goal.invariant-loop-at
invariant-loop-at l = (l.at ≤ length l.options) × PutSoFar l.options l.initial.buffer l.start l.at l.out l.buffer

abbrev pub decreases-loop-at : goal.decreases-loop-at
decreases-loop-at l = length l.options - l.at
