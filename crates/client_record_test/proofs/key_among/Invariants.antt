use Rattle.client_record.specs.Record.{same_live_key}
use Rattle.client_record.specs.Lists.{any}
use lib.ListN.{take}
use mathlib.Core.Path.{◌≡◌}
use Rattle.client_record_test.proofs.key_among.Given as goal

abbrev pub invariant-loop-i : goal.invariant-loop-i
invariant-loop-i l = l.found ≡ any (λ b. same_live_key b l.a) (take l.i l.c.assemblies)
