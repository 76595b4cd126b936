use Rattle.client_record.specs.Record.{held_fragments}
use Rattle.client_record.specs.Lists.{sum}
use lib.ListN.{take}
use Prim.Native.Nat.{◌*◌, ◌≤◌}
use mathlib.Core.Path.{◌≡◌}
use Rattle.client_fragments.proofs.bytes_held.Given as goal

abbrev pub invariant-loop-i : goal.invariant-loop-i
invariant-loop-i l = (l.total ≡ sum (λ f. f.length) (take l.i (held_fragments l.a))) × (l.total ≤ l.i * 65536)
