use Prim.Native.Nat.{ℕ, ◌*◌, ◌^◌, ◌≤◌}
use mathlib.Core.Bool.{Bool, not}
use mathlib.Core.Path.{◌≡◌}
use mathlib.Core.List.{List}
use lib.Dec.{eqb}
use lib.ListN.{take}
use Rattle.client_record.specs.declared.Fragment.{Fragment}
use Rattle.client_record.specs.Lists.{all, any, sum}
use Rattle.client_record.specs.Record.{is_last, non_empty, held_fragments}
use Rattle.client_held_test.specs.Held.{rises_from, behind}
use Rattle.client_held_test.proofs.sweep.Given as goal

pub record Sofar (fs : List Fragment) (empty falls : Bool) (marks far total : ℕ) : Type 0 where
  pub empty_is : empty ≡ not (all non_empty fs)
  pub falls_is : falls ≡ not (rises_from 0 fs)
  pub marks_is : eqb marks 0 ≡ not (any is_last fs)
  pub far_is : far ≡ behind 0 fs
  pub total_is : total ≡ sum (λ f. f.length) fs

abbrev pub invariant-loop-i : goal.invariant-loop-i
invariant-loop-i l = Sofar (take l.i (held_fragments l.a)) l.empty l.falls l.marks l.behind l.total × (l.total ≤ l.i * 2 ^ 16)
