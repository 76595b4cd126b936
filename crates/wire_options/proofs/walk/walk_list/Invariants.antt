use mathlib.Core.Path.{◌≡◌}
use Prim.Native.Nat.{◌+◌, ◌-◌, ◌≤◌}
use lib.ListN.{length, drop}
use Rattle.wire_options.specs.Walk.{walk_answer}
use Rattle.wire_options.specs.Strict.{walk_by}
use Rattle.wire_options.proofs.Walks.{behind}
use Rattle.wire_options.proofs.walk.walk_list.Given as goal

abbrev pub invariant-loop-at : goal.invariant-loop-at
invariant-loop-at l = (l.at ≤ length l.list) × (l.left ≤ l.room)
    × (walk_answer (l.base.0 + length l.list) (walk_by l.strictness l.room 0 l.list)
    ≡ behind (l.room - l.left) l.apcs (walk_answer (l.base.0 + length l.list) (walk_by l.strictness l.left 0 (drop l.at l.list))))

abbrev pub decreases-loop-at : goal.decreases-loop-at
decreases-loop-at l = length l.list - l.at
