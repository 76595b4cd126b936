-- No call of a client changes its plan: only a set-up reads one (document 02, R-8).
-- Assumes nothing.
use Prim.Native.Nat.{ℕ}
use mathlib.Core.Path.{◌≡◌, refl, ◌∙◌}
use mathlib.Core.Bool.{Bool, true, false, not, cond}
use mathlib.Core.List.{List, [], ◌∷◌}
use mathlib.Core.Option.{Option, none, some}
use lib.Dec.{ltb}
use lib.ListN.{length}
use Rattle.number_tests.specs.Tests.{first_of}
use Rattle.number_octets.specs.Octets.{part, overlay}
use Rattle.client_record.specs.declared.Fragment.{Fragment}
use Rattle.client_record.specs.declared.Assembly.{Assembly}
use Rattle.client_record.specs.declared.Client.{Client}
use Rattle.client_record.specs.Record.{whole, held_fragments, sound_record}
use Rattle.client_reassembly.specs.declared.Arrival.{Arrival}
use Rattle.client_reassembly.specs.Advance
use Rattle.client_reassembly.specs.Advance.{CallResult, elapse, advance_on, figures, account_on}
use Rattle.client_reassembly.specs.Answer.{refused, stored, repeated, conflict, advanced, account}
use Rattle.client_reassembly.specs.Offer.{
  offer_tests,
  fragment_of,
  no_room,
  place_for,
  assembly_for,
  repeats,
  is_conflict,
  is_full,
  added,
  rejecting,
  repeating,
  conflicting,
  storing,
  delivering,
  leaving,
  start_of,
  handed_out,
  joined,
  placed,
  taken,
  refuse_or,
  fragment_on,
}

pub elapse-plan : (t : ℕ) (c : Client) → (elapse t c).plan ≡ c.plan
unfolding elapse
elapse-plan t c = refl

placed-plan : (c : Client) (share out : List ℕ) (p : ℕ) (a : Assembly) (f : Fragment) (bytes : List ℕ)
    → (placed c share out p a f bytes).client.plan ≡ c.plan
unfolding placed joined handed_out rejecting repeating conflicting storing delivering
placed-plan c share out p a f bytes =
    go (repeats a f (part (start_of p f) f.length share) bytes) (is_conflict a f) (is_full a) (whole (held_fragments (added a f)))
  where
    laid : List ℕ
    laid = overlay share (start_of p f) bytes

    go : (x y z w : Bool)
        → (cond x (leaving (repeating f.length c) share out repeated)
        (cond y (leaving (conflicting p a f.length c) share out conflict)
        (cond z (leaving (rejecting f.length c) share out (refused 30))
        (cond w (handed_out c laid out p a f) (leaving (storing p (added a f) f.length c) laid out stored))))).client.plan
        ≡ c.plan
    go true y z w = refl
    go false true z w = refl
    go false false true w = refl
    go false false false true = refl
    go false false false false = refl

taken-plan : (c : Client) (share out : List ℕ) (o : Arrival) (bytes : List ℕ) → (taken c share out o bytes).client.plan ≡ c.plan
unfolding taken rejecting
taken-plan c share out o bytes = go (no_room c.plan o c.assemblies)
  where
    p : ℕ
    p = place_for o c.assemblies

    a : Assembly
    a = assembly_for o p c.assemblies

    go : (b : Bool)
        → (cond b (leaving (rejecting (length bytes) c) share out (refused 29)) (placed c share out p a (fragment_of o (length bytes)) bytes)).client.plan
        ≡ c.plan
    go true = refl
    go false = placed-plan c share out p a (fragment_of o (length bytes)) bytes

pub fragment-plan : (c : Client) (share out : List ℕ) (o : Arrival) (bytes : List ℕ) → (fragment_on c share out o bytes).client.plan ≡ c.plan
unfolding fragment_on
fragment-plan c share out o bytes = go (first_of (offer_tests c (length out) o (length bytes)))
  where
    go : (r : Option ℕ) → (refuse_or c share out r (taken (elapse o.time c) share out o bytes)).client.plan ≡ c.plan
    go none = taken-plan (elapse o.time c) share out o bytes ∙ elapse-plan o.time c
    go (some n) = refl

kept-or : (c : Client) (r : Option ℕ) (t : CallResult) → t.client.plan ≡ c.plan → (Advance.refuse_or c r t).client.plan ≡ c.plan
kept-or c none t e = e
kept-or c (some n) t e = refl

pub advance-plan : (c : Client) (t : ℕ) → (advance_on c t).client.plan ≡ c.plan
unfolding advance_on
advance-plan c t =
    kept-or c (first_of ((not (sound_record c), 22) ∷ (ltb t c.time, 27) ∷ [])) (record { client = elapse t c; reply = advanced }) (elapse-plan t c)

pub account-plan : (c : Client) → (account_on c).client.plan ≡ c.plan
unfolding account_on
account-plan c = kept-or c (first_of ((not (sound_record c), 22) ∷ [])) (record { client = c; reply = account (figures c) }) refl
