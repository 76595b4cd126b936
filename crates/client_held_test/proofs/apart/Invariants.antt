use Prim.Native.Nat.{◌+◌, ◌/◌}
use mathlib.Core.Bool.{true}
use mathlib.Core.Path.{◌≡◌}
use lib.Dec.{leb}
use lib.ListN.{length, take}
use Rattle.client_record.specs.Limits.{datagram_limit}
use Rattle.client_record.specs.Lists.{all}
use Rattle.client_record.specs.Record.{end, held_fragments}
use Rattle.client_held_test.proofs.OnePass.{apart_all}
use Rattle.client_held_test.proofs.Places.{Marks}
use Rattle.client_held_test.proofs.apart.Given as goal

abbrev pub invariant-loop-k : goal.invariant-loop-k
invariant-loop-k l = (all (λ f. leb (end f) l.most) (take l.k (held_fragments l.a)) ≡ true) × (apart_all (take l.k (held_fragments l.a)) ≡ true)
    × Marks l.places (take l.k (held_fragments l.a)) × (length l.places ≡ (datagram_limit + 63) / 64)
