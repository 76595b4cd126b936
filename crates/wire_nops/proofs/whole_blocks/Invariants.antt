use mathlib.Core.Path.{◌≡◌}
use Prim.Native.Nat.{◌+◌, ◌-◌, ◌≤◌}
use lib.ListN.{length, drop}
use Rattle.wire_nops.specs.Nops.{nops_of}
use Rattle.wire_nops.proofs.whole_blocks.Given as goal

abbrev pub invariant-loop-n : goal.invariant-loop-n
invariant-loop-n l = (l.n ≤ length l.list) × (nops_of l.list ≡ l.n + nops_of (drop l.n l.list))

abbrev pub decreases-loop-n : goal.decreases-loop-n
decreases-loop-n l = length l.list - l.n
