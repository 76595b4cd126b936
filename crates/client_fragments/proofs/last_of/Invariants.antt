use Rattle.client_record.specs.Record.{held_fragments, last_of}
use lib.ListN.{drop}
use mathlib.Core.Path.{◌≡◌}
use Rattle.client_fragments.proofs.last_of.Given as goal

abbrev pub invariant-loop-i : goal.invariant-loop-i
invariant-loop-i l = last_of (drop l.i (held_fragments l.a)) ≡ last_of (held_fragments l.a)
