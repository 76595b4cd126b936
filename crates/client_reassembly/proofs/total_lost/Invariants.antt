-- The loop's invariant: `total` is the sum over the first assemblies, each below 2 ^ 32.
use Prim.Native.Nat.{◌*◌, ◌^◌, ◌≤◌}
use mathlib.Core.Path.{◌≡◌}
use lib.ListN.{take}
use Rattle.client_record.specs.Lists.{sum}
use Rattle.client_reassembly.specs.Advance.{lost}
use Rattle.client_reassembly.proofs.total_lost.Given as goal

abbrev pub invariant-loop-a : goal.invariant-loop-a
invariant-loop-a l = (l.total ≡ sum (lost l.time) (take l.a-index l.a-items)) × (l.total ≤ l.a-index * 2 ^ 32)
