use Prim.Native.Nat.{◌*◌, ◌^◌, ◌≤◌}
use mathlib.Core.Path.{◌≡◌}
use lib.ListN.{take}
use Rattle.client_record.specs.Record.{held_fragments}
use Rattle.client_held_test.specs.Held.{lasts_of, last_end, last_start}
use Rattle.client_held_test.proofs.last_ones.Given as goal

abbrev pub invariant-loop-i : goal.invariant-loop-i
invariant-loop-i l = (l.count ≡ lasts_of (take l.i (held_fragments l.a))) × (l.past ≡ last_end (take l.i (held_fragments l.a))) × (l.options ≡ last_start (take l.i (held_fragments l.a)))
    × (l.count ≤ l.i) × (l.past ≤ l.i * 2 ^ 17) × (l.options ≤ l.i * 2 ^ 16)
