use mathlib.Core.Path.{◌≡◌}
use Prim.Native.Nat.{◌+◌, ◌*◌}
use lib.ListN.{drop}
use Rattle.wire_nops.specs.Nops.{nops_of}
use Rattle.wire_nops.proofs.block_difference.Given as goal

abbrev pub invariant-loop-k : goal.invariant-loop-k
invariant-loop-k l = l.different ≡ 0 → nops_of (drop l.at l.list) ≡ 4 * l.k + nops_of (drop (l.at + 4 * l.k) l.list)
