use mathlib.Core.Path.{◌≡◌}
use Prim.Native.Nat.{◌-◌, ◌*◌, ◌≤◌}
use lib.ListN.{drop}
use Rattle.list_encoding.proofs.Checks.{checked, passed}
use Rattle.list_encoding.proofs.check.check_options.Given as goal

abbrev pub invariant-loop : goal.invariant-loop
invariant-loop l = (l.size ≤ 65535 * l.counter) × (checked l.count (drop l.start l.list) ≡ passed l.counter l.size (checked (l.count - l.counter) (drop l.at l.list)))
