use Prim.Native.Nat.{◌-◌}
use lib.ListN.{length}
use Rattle.program_lines.proofs.Items.{Saying}
use Rattle.program_lines.proofs.put_items.Given as goal

abbrev pub invariant-loop-found : goal.invariant-loop-found
invariant-loop-found l = Saying l.base.0 l.list l.initial.text l.at l.text l.end l.from

abbrev pub decreases-loop-found : goal.decreases-loop-found
decreases-loop-found l = length l.list - l.from
