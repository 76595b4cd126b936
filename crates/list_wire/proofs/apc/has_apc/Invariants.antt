use mathlib.Core.Path.{◌≡◌}
use Prim.Native.Nat.{◌-◌}
use lib.ListN.{drop}
use Rattle.list_wire.specs.Parts.{apcs_read}
use Rattle.list_wire.proofs.apc.has_apc.Given as goal

abbrev pub invariant-loop : goal.invariant-loop
invariant-loop l = apcs_read l.count (drop l.start l.list) ≡ apcs_read (l.count - l.counter) (drop l.from l.list)
