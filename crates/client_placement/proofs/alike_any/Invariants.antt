use Rattle.client_reassembly.specs.Offer.{alike}
use Rattle.client_record.specs.Record.{held_fragments}
use Rattle.client_record.specs.Lists.{any}
use lib.ListN.{take}
use mathlib.Core.Path.{◌≡◌}
use Rattle.client_placement.proofs.alike_any.Given as goal

abbrev pub invariant-loop-i : goal.invariant-loop-i
invariant-loop-i l = l.found ≡ any (alike l.f) (take l.i (held_fragments l.a))
