-- The fragment call does what the book does, for every record that stands for a book: refusals 23 to 28 by the same tests, and then the
-- fates in the same order by the same tests. It asks that the record test passes again after the call.
-- Assumes nothing.
use Prim.Native.Nat.{ℕ, ◌+◌, ◌≤◌}
use mathlib.Core.Path.{◌≡◌, refl, sym, ap, ap₂, ◌∙◌, subst}
use mathlib.Core.Bool.{Bool, true, false, not, ◌&&◌}
use mathlib.Core.List.{List, [], ◌∷◌, ◌++◌}
use mathlib.Core.Option.{Option, none, some}
use lib.Dec.{eqb, ltb}
use lib.ListN.{length, drop}
use borrow.Author.Tests.{le-leb}
use Rattle.number_tests.proofs.Tests.{cond_yes, cond_no}
use Rattle.number_tests.specs.Tests.{first_of}
use Rattle.number_octets.specs.Octets.{part}
use Rattle.client_record.specs.declared.Fragment.{Fragment}
use Rattle.client_record.specs.declared.Assembly.{Assembly}
use Rattle.client_record.specs.declared.Client.{Client}
use Rattle.client_record.specs.Limits.{datagram_limit, offered_limit}
use Rattle.client_record.specs.Record.{is_last, end, fits, covered_to, last_of, whole, held_fragments, sound_record}
use Rattle.client_reassembly.specs.declared.Arrival.{Arrival}
use Rattle.client_reassembly.specs.Answer.{refused, stored, repeated, conflict, delivered}
use Rattle.client_reassembly.specs.Advance.{elapse}
use Rattle.client_reassembly.specs.Offer
use Rattle.client_reassembly.specs.Offer.{Outcome, fragment_of, place_for, assembly_for, added, start_of, handed_out, placed, taken, fragment_on}
use Rattle.client_reassembly.proofs.Fates.{placed-repeated, placed-conflict, placed-full, placed-joined, taken-rejected, taken-placed}
use Rattle.client_reassembly.proofs.Passes.{passes}
use Rattle.client_ledger.specs.Book
use Rattle.client_ledger.specs.Book.{
  Content,
  Entry,
  Book,
  size,
  end_of,
  complete,
  last_one,
  bytes_to,
  Result,
  with,
  finished,
  taking,
  fate,
  entry,
  advance,
  fragment,
  call,
}
use Rattle.client_ledger.specs.Stands.{content_of, Stands, offer_of, Fulfils}
use Rattle.client_ledger.proofs.Changes.{unmoved-itself}
use Rattle.client_ledger.proofs.Clock.{elapse-stands}
use Rattle.client_ledger.proofs.Delivery.{last_none, last_some}
use Rattle.client_ledger.proofs.Fates.{
  rejecting-stands,
  repeating-stands,
  conflicting-stands,
  fulfil-of,
  held-as,
  entered-as,
  laid,
  new-size,
  joins,
  stored-fulfils,
  final-cover,
  delivered-fulfils,
}
use Rattle.client_ledger.proofs.Home.{Home, home, same-room}
use Rattle.client_ledger.proofs.Tests.{repeat-same, conflict-same, full-same}

-- ---- the fragment joins

module _ (c : Client) (share : List ℕ) (b : Book) (st : Stands c share b) (out : List ℕ) (o : Arrival) (bytes : List ℕ)
    (fit : fits (fragment_of o (length bytes)) ≡ true) (p : ℕ) (a : Assembly) (at_home : Home c share b (entry (offer_of o bytes)) p a)
    (free : Offer.is_conflict a (fragment_of o (length bytes)) ≡ false) (slot : Offer.is_full a ≡ false) where
  joined-fulfils : sound_record (Offer.joined c (laid share p o bytes) out p a (held-as o bytes)).client ≡ true
      → Fulfils (Offer.joined c (laid share p o bytes) out p a (held-as o bytes)) (taking (entered-as o bytes) out b)
  unfolding Offer.joined whole taking handed_out fragment_of
  joined-fulfils s = go (is_last (last_of fs)) refl
    where
      fs : List Fragment
      fs = held_fragments (added a (held-as o bytes))

      s' : List ℕ
      s' = laid share p o bytes

      e : Entry
      e = entered-as o bytes

      keep-on : Outcome
      keep-on = Offer.leaving (Offer.storing p (added a (held-as o bytes)) (length bytes) c) s' out stored

      hand-out : Outcome
      hand-out = handed_out c s' out p a (held-as o bytes)

      l : Content
      l = content_of s' p (last_of fs)

      listed : Result
      listed = Book.leaving stored out (Book.storing e b)

      handed : Result
      handed =
          Book.leaving (delivered (end_of l) l.start) (bytes_to (end_of l) (with e b) ++ drop (end_of l) out) (Book.delivering e.key (size e.content) b)

      cover : (t : is_last (last_of fs) ≡ true) → (u : Bool) → covered_to (end (last_of fs)) fs ≡ u
          → Fulfils (Offer.joined c s' out p a (held-as o bytes)) (taking e out b)
      cover t true u =
          fulfil-of (Offer.joined c s' out p a (held-as o bytes)) hand-out (taking e out b) handed
          (cond_yes (is_last (last_of fs) && covered_to (end (last_of fs)) fs) hand-out keep-on (ap₂ ◌&&◌ t u))
          (ap (finished e out b) (ap last_one (joins c share b st out o bytes fit p a at_home free slot) ∙ last_some s' p fs t)
          ∙ cond_yes (complete (end_of l) (with e b)) handed listed (final-cover c share b st out o bytes fit p a at_home free slot t ∙ u)) s
          (delivered-fulfils c share b st out o bytes fit p a at_home free slot t u)
      cover t false u =
          fulfil-of (Offer.joined c s' out p a (held-as o bytes)) keep-on (taking e out b) listed
          (cond_no (is_last (last_of fs) && covered_to (end (last_of fs)) fs) hand-out keep-on (ap₂ ◌&&◌ t u))
          (ap (finished e out b) (ap last_one (joins c share b st out o bytes fit p a at_home free slot) ∙ last_some s' p fs t)
          ∙ cond_no (complete (end_of l) (with e b)) handed listed (final-cover c share b st out o bytes fit p a at_home free slot t ∙ u)) s
          (stored-fulfils c share b st out o bytes fit p a at_home free slot)

      go : (t : Bool) → is_last (last_of fs) ≡ t → Fulfils (Offer.joined c s' out p a (held-as o bytes)) (taking e out b)
      go true t = cover t (covered_to (end (last_of fs)) fs) refl
      go false t =
          fulfil-of (Offer.joined c s' out p a (held-as o bytes)) keep-on (taking e out b) listed
          (cond_no (is_last (last_of fs) && covered_to (end (last_of fs)) fs) hand-out keep-on (ap (λ (x : Bool). x && covered_to (end (last_of fs)) fs) t))
          (ap (finished e out b) (ap last_one (joins c share b st out o bytes fit p a at_home free slot) ∙ last_none s' p fs t)) s
          (stored-fulfils c share b st out o bytes fit p a at_home free slot)

-- ---- the book's fate by the tests that decide it

module _ (e : Entry) (out : List ℕ) (b : Book) where
  book-no-room : Book.no_room e b ≡ true → fate e out b ≡ Book.leaving (refused 29) out (Book.rejecting (size e.content) b)
  unfolding fate
  book-no-room r = cond_yes (Book.no_room e b) _ _ r

  book-repeat : Book.no_room e b ≡ false → Book.is_repeat e b ≡ true → fate e out b ≡ Book.leaving repeated out (Book.repeating (size e.content) b)
  unfolding fate
  book-repeat r k = cond_no (Book.no_room e b) _ _ r ∙ cond_yes (Book.is_repeat e b) _ _ k

  book-conflict : Book.no_room e b ≡ false → Book.is_repeat e b ≡ false → Book.is_conflict e b ≡ true
      → fate e out b ≡ Book.leaving conflict out (Book.conflicting e.key (size e.content) b)
  unfolding fate
  book-conflict r k q = cond_no (Book.no_room e b) _ _ r ∙ cond_no (Book.is_repeat e b) _ _ k ∙ cond_yes (Book.is_conflict e b) _ _ q

  book-full : Book.no_room e b ≡ false → Book.is_repeat e b ≡ false → Book.is_conflict e b ≡ false → Book.is_full e b ≡ true
      → fate e out b ≡ Book.leaving (refused 30) out (Book.rejecting (size e.content) b)
  unfolding fate
  book-full r k q m =
      cond_no (Book.no_room e b) _ _ r ∙ cond_no (Book.is_repeat e b) _ _ k ∙ cond_no (Book.is_conflict e b) _ _ q ∙ cond_yes (Book.is_full e b) _ _ m

  pub book-taken : Book.no_room e b ≡ false → Book.is_repeat e b ≡ false → Book.is_conflict e b ≡ false → Book.is_full e b ≡ false
      → fate e out b ≡ taking e out b
  unfolding fate
  book-taken r k q m =
      cond_no (Book.no_room e b) _ _ r ∙ cond_no (Book.is_repeat e b) _ _ k ∙ cond_no (Book.is_conflict e b) _ _ q ∙ cond_no (Book.is_full e b) _ _ m

-- ---- the fates in order

module _ (c : Client) (share : List ℕ) (b : Book) (st : Stands c share b) (out : List ℕ) (o : Arrival) (bytes : List ℕ)
    (fit : fits (fragment_of o (length bytes)) ≡ true) where
  -- turned away or repeated
  rejected-fulfils : (n : ℕ) → sound_record (Offer.rejecting (length bytes) c) ≡ true
      → Fulfils (Offer.leaving (Offer.rejecting (length bytes) c) share out (refused n))
      (Book.leaving (refused n) out (Book.rejecting (size (entered-as o bytes).content) b))
  rejected-fulfils n s = record {
    reply = refl;
    out = refl;
    stands =
        subst (λ (m : ℕ). Stands (Offer.rejecting (length bytes) c) share (Book.rejecting m b)) (new-size o bytes)
        (rejecting-stands c share b st (length bytes) s);
  }

  repeated-fulfils : sound_record (Offer.repeating (length bytes) c) ≡ true
      → Fulfils (Offer.leaving (Offer.repeating (length bytes) c) share out repeated)
      (Book.leaving repeated out (Book.repeating (size (entered-as o bytes).content) b))
  repeated-fulfils s = record {
    reply = refl;
    out = refl;
    stands =
        subst (λ (m : ℕ). Stands (Offer.repeating (length bytes) c) share (Book.repeating m b)) (new-size o bytes)
        (repeating-stands c share b st (length bytes) s);
  }

  module _ (p : ℕ) (a : Assembly) (at_home : Home c share b (entry (offer_of o bytes)) p a) (roomy : Book.no_room (entered-as o bytes) b ≡ false) where
    conflict-fulfils : sound_record (Offer.conflicting p a (length bytes) c) ≡ true
        → Fulfils (Offer.leaving (Offer.conflicting p a (length bytes) c) share out conflict)
        (Book.leaving conflict out (Book.conflicting (entered-as o bytes).key (size (entered-as o bytes).content) b))
    conflict-fulfils s = record {
      reply = refl;
      out = refl;
      stands =
          subst (λ (m : ℕ). Stands (Offer.conflicting p a (length bytes) c) share (Book.conflicting (entered-as o bytes).key m b)) (new-size o bytes)
          (conflicting-stands c share b st (entered-as o bytes) p a at_home share st.shape.size (unmoved-itself share p) (length bytes) s);
    }

    placed-fulfils : sound_record (placed c share out p a (held-as o bytes) bytes).client ≡ true
        → Fulfils (placed c share out p a (held-as o bytes) bytes) (fate (entered-as o bytes) out b)
    unfolding fragment_of
    placed-fulfils s = repeat (Offer.repeats a f kept bytes) refl
      where
        f : Fragment
        f = held-as o bytes

        e : Entry
        e = entered-as o bytes

        kept : List ℕ
        kept = part (start_of p f) (length bytes) share

        same-repeat : Offer.repeats a f kept bytes ≡ Book.is_repeat e b
        same-repeat = repeat-same c share b o bytes p a st.shape.size at_home

        same-conflict : Offer.is_conflict a f ≡ Book.is_conflict e b
        same-conflict = conflict-same c share b o bytes p a st.shape.size at_home

        same_full : Offer.is_full a ≡ Book.is_full e b
        same_full = full-same c share b o bytes p a st.shape.size at_home

        full : Offer.repeats a f kept bytes ≡ false → Offer.is_conflict a f ≡ false → (t : Bool) → Offer.is_full a ≡ t
            → Fulfils (placed c share out p a f bytes) (fate e out b)
        full r k true t =
            fulfil-of (placed c share out p a f bytes) _ (fate e out b) _ (placed-full c share out p a f bytes r k t)
            (book-full e out b roomy (sym same-repeat ∙ r) (sym same-conflict ∙ k) (sym same_full ∙ t)) s (rejected-fulfils 30)
        full r k false t =
            fulfil-of (placed c share out p a f bytes) _ (fate e out b) _ (placed-joined c share out p a f bytes r k t)
            (book-taken e out b roomy (sym same-repeat ∙ r) (sym same-conflict ∙ k) (sym same_full ∙ t)) s
            (joined-fulfils c share b st out o bytes fit p a at_home k t)

        clash : Offer.repeats a f kept bytes ≡ false → (t : Bool) → Offer.is_conflict a f ≡ t → Fulfils (placed c share out p a f bytes) (fate e out b)
        clash r true t =
            fulfil-of (placed c share out p a f bytes) _ (fate e out b) _ (placed-conflict c share out p a f bytes r t)
            (book-conflict e out b roomy (sym same-repeat ∙ r) (sym same-conflict ∙ t)) s conflict-fulfils
        clash r false t = full r t (Offer.is_full a) refl

        repeat : (t : Bool) → Offer.repeats a f kept bytes ≡ t → Fulfils (placed c share out p a f bytes) (fate e out b)
        repeat true t =
            fulfil-of (placed c share out p a f bytes) _ (fate e out b) _ (placed-repeated c share out p a f bytes t)
            (book-repeat e out b roomy (sym same-repeat ∙ t)) s repeated-fulfils
        repeat false t = clash t (Offer.is_conflict a f) refl

  taken-fulfils : sound_record (taken c share out o bytes).client ≡ true → Fulfils (taken c share out o bytes) (fate (entered-as o bytes) out b)
  taken-fulfils s = go (Offer.no_room c.plan o c.assemblies) refl
    where
      e : Entry
      e = entered-as o bytes

      go : (t : Bool) → Offer.no_room c.plan o c.assemblies ≡ t → Fulfils (taken c share out o bytes) (fate e out b)
      go true t =
          fulfil-of (taken c share out o bytes) _ (fate e out b) _ (taken-rejected c share out o bytes t)
          (book-no-room e out b (sym (same-room c share b st o bytes) ∙ t)) s (rejected-fulfils 29)
      go false t =
          fulfil-of (taken c share out o bytes) _ (fate e out b) _ (taken-placed c share out o bytes t) refl s
          (placed-fulfils (place_for o c.assemblies) (assembly_for o (place_for o c.assemblies) c.assemblies) (home c share b st o bytes t)
          (sym (same-room c share b st o bytes) ∙ t))

-- ---- the call

arrival-fits : (o : Arrival) (n : ℕ) → o.offset.0 + n ≤ datagram_limit → fits (fragment_of o n) ≡ true
unfolding fits end fragment_of
arrival-fits o n h = le-leb _ _ h

module _ (c : Client) (share : List ℕ) (b : Book) (st : Stands c share b) (out : List ℕ) (o : Arrival) (bytes : List ℕ) where
  -- the record test does not refuse, and the other tests are the book's
  same_tests : first_of (Offer.offer_tests c (length out) o (length bytes)) ≡ first_of (Book.offer_tests (offer_of o bytes) (length out) b)
  unfolding first_of Offer.offer_tests Book.offer_tests offer_of
  same_tests =
      let end : ℕ = o.offset.0 + length bytes in
      λ i.
      first_of
      ((not (st.sound i), 22)
      ∷ (ltb (length out) datagram_limit, 23)
      ∷ (eqb (length bytes) 0, 24)
      ∷ (ltb datagram_limit end, 25)
      ∷ (o.last && ltb end o.option_start.0, 26)
      ∷ (ltb o.time (st.time i), 27) ∷ (ltb offered_limit (st.offered i + length bytes), 28) ∷ [])

  pub fragment-stands : sound_record (fragment_on c share out o bytes).client ≡ true
      → Fulfils (fragment_on c share out o bytes) (call (fragment (offer_of o bytes) out) b)
  unfolding fragment_on offer_of
  fragment-stands s =
      subst
      (λ (r : Option ℕ). Fulfils (fragment_on c share out o bytes) (Book.refuse_or out b r (fate (entered-as o bytes) out (advance o.time b))))
      same_tests (go (first_of (Offer.offer_tests c (length out) o (length bytes))) refl s)
    where
      go : (r : Option ℕ) → first_of (Offer.offer_tests c (length out) o (length bytes)) ≡ r
          → sound_record (Offer.refuse_or c share out r (taken (elapse o.time c) share out o bytes)).client ≡ true
          → Fulfils (Offer.refuse_or c share out r (taken (elapse o.time c) share out o bytes))
          (Book.refuse_or out b r (fate (entered-as o bytes) out (advance o.time b)))
      go none q s =
          let passed = passes c (length out) o (length bytes) q in
          taken-fulfils (elapse o.time c) share (advance o.time b) (elapse-stands o.time c share b st passed.time) out o bytes
          (arrival-fits o (length bytes) passed.sized.ends) s
      go (some n) q s = record { reply = refl; out = refl; stands = st }
