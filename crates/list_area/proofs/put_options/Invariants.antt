use mathlib.Core.Path.{◌≡◌}
use mathlib.Core.List.{List, ◌++◌}
use Prim.Native.Nat.{ℕ, ◌-◌}
use lib.ListN.{drop}
use Rattle.list_wire.specs.Parts.{Laid, wires_read}
use Rattle.list_area.proofs.put_options.Given as goal

abbrev pub invariant-loop : goal.invariant-loop
invariant-loop l = (done : List ℕ) × Laid l.initial.buffer l.at done l.buffer l.end × (done ++ wires_read l.crc (l.count - l.counter) (drop l.from l.list) ≡ wires_read l.crc l.count (drop l.start l.list))
