use Prim.Native.Nat.{ℕ, ◌*◌, ◌≤◌}
use mathlib.Core.Bool.{Bool, true}
use mathlib.Core.Path.{◌≡◌}
use mathlib.Core.List.{List}
use lib.ListN.{take}
use Rattle.client_record.specs.declared.Fragment.{Fragment}
use Rattle.client_record.specs.Lists.{any, sum}
use Rattle.client_record.specs.Record.{is_last, end, last_of, held_fragments}
use Rattle.client_fragments.proofs.whole.Given as goal

pub record Passed (fs : List Fragment) (i total : ℕ) (known : Bool) (past : ℕ) : Type 0 where
  pub sum_is : total ≡ sum (λ f. f.length) (take i fs)
  pub marked : known ≡ any is_last (take i fs)
  pub ends : known ≡ true → past ≡ end (last_of fs)

abbrev pub invariant-loop-i : goal.invariant-loop-i
invariant-loop-i l = Passed (held_fragments l.a) l.i l.total l.known l.past × (l.total ≤ l.i * 65536)
