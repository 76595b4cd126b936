use Rattle.client_record.specs.declared.Assembly.{Assembly}
use Rattle.client_record.specs.Record.{live, bytes_held, sound_assembly}
use Rattle.client_record.specs.Lists.{all, sum}
use lib.ListN.{take, drop}
use Prim.Native.Nat.{◌*◌, ◌^◌, ◌≤◌}
use mathlib.Core.Bool.{Bool, true, not}
use mathlib.Core.List.{List}
use mathlib.Core.Path.{◌≡◌}
use Rattle.client_record_test.proofs.assemblies_tested.Given as goal

-- none of them is live
abbrev pub free : List Assembly → Bool
free xs = all (λ a. not (live a)) xs

abbrev pub invariant-loop-i : goal.invariant-loop-i
invariant-loop-i l = (all (sound_assembly l.c.time) (take l.i l.c.assemblies) ≡ true)
    × (free (drop l.c.plan (take l.i l.c.assemblies)) ≡ true)
    × (l.total ≡ sum bytes_held (take l.i l.c.assemblies))
    × (l.total ≤ l.i * 2 ^ 32)
