use Rattle.client_record.specs.Record.{keys_differ}
use lib.ListN.{take}
use mathlib.Core.Path.{◌≡◌}
use Rattle.client_record_test.proofs.keys_differ.Given as goal

abbrev pub invariant-loop-i : goal.invariant-loop-i
invariant-loop-i l = l.ok ≡ keys_differ (take l.i l.c.assemblies)
