use Rattle.client_record.specs.Record.{spare_slots, is_fresh_fragment}
use Rattle.client_record.specs.Lists.{all}
use lib.Dec.{eqb}
use lib.ListN.{drop}
use mathlib.Core.Bool.{◌&&◌}
use mathlib.Core.Path.{◌≡◌}
use Rattle.client_record_test.proofs.spare_fresh.Given as goal

abbrev pub invariant-loop-i : goal.invariant-loop-i
invariant-loop-i l = (eqb l.stray 0 && all is_fresh_fragment (drop l.i l.a.fragments)) ≡ all is_fresh_fragment (spare_slots l.a)
