-- The loop's invariant: the first assemblies are replaced, and the rest are as they were.
use mathlib.Core.Path.{◌≡◌}
use mathlib.Core.List.{◌++◌, map}
use lib.ListN.{take, drop}
use Rattle.client_reassembly.specs.Advance.{expire}
use Rattle.client_reassembly.proofs.expire_all.Given as goal

abbrev pub invariant-loop-i : goal.invariant-loop-i
invariant-loop-i l = l.kept ≡ map (expire l.time) (take l.i l.fn.c.assemblies) ++ drop l.i l.fn.c.assemblies
