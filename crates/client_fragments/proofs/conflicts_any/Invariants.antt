use Rattle.client_record.specs.Record.{held_fragments, conflicts}
use Rattle.client_record.specs.Lists.{any}
use lib.ListN.{take}
use mathlib.Core.Path.{◌≡◌}
use Rattle.client_fragments.proofs.conflicts_any.Given as goal

abbrev pub invariant-loop-i : goal.invariant-loop-i
invariant-loop-i l = l.found ≡ any (λ g. conflicts g l.f) (take l.i (held_fragments l.a))
