-- What an offer is known to have once 22 to 28 let it pass.
-- Assumes nothing.
use mathlib.Core.Path.{◌≡◌}
use mathlib.Core.Bool.{true, not, ◌&&◌}
use mathlib.Core.Option.{none}
use Prim.Native.Nat.{ℕ, ◌+◌, ◌≤◌}
use lib.Dec.{eqb, ltb}
use borrow.Author.Tests.{ltb-false, not-false, eqb-false}
use Rattle.number_tests.proofs.Tests.{first-none}
use Rattle.number_tests.specs.Tests.{first_of}
use Rattle.client_record.specs.declared.Client.{Client}
use Rattle.client_record.specs.Limits.{datagram_limit, offered_limit}
use Rattle.client_record.specs.Record.{sound_record}
use Rattle.client_reassembly.specs.declared.Arrival.{Arrival}
use Rattle.client_reassembly.specs.Offer.{offer_tests}
use Rattle.client_reassembly.specs.Post.{Sized}

pub record Passes (c : Client) (m : ℕ) (o : Arrival) (n : ℕ) : Type 0 where
  pub sound : sound_record c ≡ true
  pub out : datagram_limit ≤ m
  pub some_bytes : n ≡ 0 → ⊥
  pub sized : Sized o n
  pub time : c.time ≤ o.time
  pub offered : c.offered + n ≤ offered_limit

pub passes : (c : Client) (m : ℕ) (o : Arrival) (n : ℕ) → first_of (offer_tests c m o n) ≡ none → Passes c m o n
unfolding offer_tests
passes c m o n e =
    let end : ℕ = o.offset.0 + n in
    let t22 = first-none (not (sound_record c), 22) _ e in
    let t23 = first-none (ltb m datagram_limit, 23) _ t22.1 in
    let t24 = first-none (eqb n 0, 24) _ t23.1 in
    let t25 = first-none (ltb datagram_limit end, 25) _ t24.1 in
    let t26 = first-none (o.last && ltb end o.option_start.0, 26) _ t25.1 in
    let t27 = first-none (ltb o.time c.time, 27) _ t26.1 in
    let t28 = first-none (ltb offered_limit (c.offered + n), 28) _ t27.1 in
    record {
      sound = not-false (sound_record c) t22.0;
      out = ltb-false m datagram_limit t23.0;
      some_bytes = eqb-false n 0 t24.0;
      sized = record { ends = ltb-false datagram_limit end t25.0; starts = t26.0 };
      time = ltb-false o.time c.time t27.0;
      offered = ltb-false offered_limit (c.offered + n) t28.0;
    }
