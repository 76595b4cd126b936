-- The record test passes again after a fragment is stored, and so after every fragment call.
-- Assumes nothing.
use mathlib.Core.Path.{◌≡◌, refl, sym, ap, ap₂, ◌∙◌}
use mathlib.Core.Bool.{Bool, true, false, not, ◌&&◌, ◌||◌, cond}
use mathlib.Core.List.{List, [], ◌∷◌}
use Prim.Native.Nat.{ℕ, ◌+◌, ◌<◌, ◌≤◌}
use native.Mathlib.Omega.{arith}
use lib.Dec.{eqb, leb, ltb}
use lib.ListN.{length, drop, get_or}
use lib.Seq.{drop-set-lt}
use borrow.Author.Tests.{eqb-true, eqb-false, ltb-false, eq-eqb, ne_eqb, le-leb, lt-ltb}
use Rattle.number_tests.proofs.Tests.{both_true}
use Rattle.client_record.specs.declared.Fragment.{Fragment}
use Rattle.client_record.specs.declared.Flow.{Flow}
use Rattle.client_record.specs.declared.Assembly.{Assembly}
use Rattle.client_record.specs.Limits.{datagram_limit, fragment_limit, lifetime}
use Rattle.client_record.specs.Lists.{same_bytes, all, pairs, sum}
use Rattle.client_record.specs.Record.{
  fresh_fragment,
  fresh_assembly,
  is_last,
  end,
  non_empty,
  fits,
  starts_options_inside,
  sound_fragment,
  is_fresh_fragment,
  compatible,
  last_of,
  whole,
  live,
  held_fragments,
  spare_slots,
  bytes_held,
  same_flow,
  has_key,
  opened_within,
  same_live_key,
}
use Rattle.client_record.proofs.Lists.{all_append, all_left, sum-append}
use Rattle.client_record.proofs.Held.{marks-last}
use Rattle.client_reassembly.specs.declared.Arrival.{Arrival}
use Rattle.client_reassembly.specs.Offer.{fragment_of, opening, is_conflict, added}
use Rattle.client_reassembly.specs.Post.{Sized}
use Rattle.client_reassembly.proofs.Joins.{held-added, added-compatible}
use Rattle.client_reassembly.proofs.Kept.{LiveParts}

-- ---- the fragment that is stored

pub fragment-sound : (o : Arrival) (n : ℕ) → Sized o n → (n ≡ 0 → ⊥) → sound_fragment (fragment_of o n) ≡ true
unfolding fragment_of sound_fragment non_empty fits end starts_options_inside
fragment-sound o n s some =
    ap₂ ◌&&◌ (ap not (ne_eqb n 0 some))
    (ap₂ ◌&&◌ (le-leb (o.offset.0 + n) datagram_limit s.ends)
    (ap (λ (b : Bool). not b || leb (cond o.last o.option_start.0 0) (o.offset.0 + n)) (marks-last (fragment_of o n) o.last refl)
    ∙ inside o.last s.starts))
  where
    inside : (b : Bool) → b && ltb (o.offset.0 + n) o.option_start.0 ≡ false
        → not b || leb (cond b o.option_start.0 0) (o.offset.0 + n) ≡ true
    inside true e = le-leb o.option_start.0 (o.offset.0 + n) (ltb-false (o.offset.0 + n) o.option_start.0 e)
    inside false e = refl

-- ---- an assembly with one more fragment

pub added-live : (a : Assembly) (f : Fragment) → live (added a f) ≡ true
unfolding added live
added-live a f = ap not (ne_eqb (a.count + 1) 0 (λ q. omega arith))

pub added-bytes : (a : Assembly) (f : Fragment) → a.count < length a.fragments → bytes_held (added a f) ≡ bytes_held a + f.length
unfolding bytes_held sum
added-bytes a f h =
    ap (sum (λ (g : Fragment). g.length)) (held-added a f h) ∙ sum-append (λ (g : Fragment). g.length) (held_fragments a) (f ∷ []) ∙ omega arith

added-spare : (a : Assembly) (f : Fragment) → a.count < length a.fragments → all is_fresh_fragment (spare_slots a) ≡ true
    → all is_fresh_fragment (spare_slots (added a f)) ≡ true
unfolding spare_slots added
added-spare a f h e =
    ap (all is_fresh_fragment) (drop-set-lt (a.count + 1) a.fragments a.count f (omega arith))
    ∙ (both_true (is_fresh_fragment (get_or a.fragments a.count f)) (all is_fresh_fragment (drop (a.count + 1) a.fragments))
    (sym (all_left a.fragments a.count f h is_fresh_fragment) ∙ e)).1

count-after : (a : Assembly) (f : Fragment) → a.count < fragment_limit → (added a f).count ≤ fragment_limit
unfolding added
count-after a f h = omega arith

opened_after : (t : ℕ) (a : Assembly) (f : Fragment) → opened_within t a ≡ true → opened_within t (added a f) ≡ true
unfolding opened_within added
opened_after t a f e = e

pub added-parts : (t : ℕ) (a : Assembly) (f : Fragment) → LiveParts t a → a.count < fragment_limit → length a.fragments ≡ fragment_limit
    → sound_fragment f ≡ true → is_conflict a f ≡ false → whole (held_fragments (added a f)) ≡ false → LiveParts t (added a f)
unfolding all
added-parts t a f k free slots ok apart open-still =
    let h : a.count < length a.fragments = omega arith in
    let held = held_fragments a in
    record {
      slots = count-after a f free;
      each = ap (all sound_fragment) (held-added a f h) ∙ all_append sound_fragment held (f ∷ []) ∙ ap₂ (λ (x y : Bool). x && (y && true)) k.each ok;
      two = added-compatible a f h k.two apart;
      unfinished = ap not open-still;
      opened = opened_after t a f k.opened;
      spare = added-spare a f h k.spare;
    }

-- ---- an assembly that the fragment opens

no-fragment : whole [] ≡ false
unfolding whole is_last last_of fresh_fragment
no-fragment = refl

lifetime-positive : 0 < lifetime
unfolding lifetime
lifetime-positive = omega arith

slots-fresh : all is_fresh_fragment fresh_assembly.fragments ≡ true
unfolding fresh_assembly fragment_limit is_fresh_fragment fresh_fragment all
slots-fresh = refl

pub opening-parts : (o : Arrival) → LiveParts o.time (opening o)
unfolding opening held_fragments spare_slots opened_within all compatible pairs
opening-parts o =
    record {
      slots = omega arith;
      each = refl;
      two = refl;
      unfinished = ap not no-fragment;
      opened = ap₂ ◌&&◌ (le-leb o.time o.time (omega arith)) (lt-ltb o.time (o.time + lifetime) (omega (arith, lifetime-positive)));
      spare = slots-fresh;
    }

-- ---- keys

eqb-sym : (m n : ℕ) → eqb m n ≡ eqb n m
eqb-sym m n = go (eqb m n) refl
  where
    go : (b : Bool) → eqb m n ≡ b → eqb m n ≡ eqb n m
    go true e = e ∙ sym (eq-eqb n m (sym (eqb-true m n e)))
    go false e = e ∙ sym (ne_eqb n m (λ q. eqb-false m n e (sym q)))

bytes-sym : (a b : List ℕ) → same_bytes a b ≡ same_bytes b a
unfolding same_bytes
bytes-sym [] [] = refl
bytes-sym [] (y ∷ b) = refl
bytes-sym (x ∷ a) [] = refl
bytes-sym (x ∷ a) (y ∷ b) = ap₂ ◌&&◌ (eqb-sym x y) (bytes-sym a b)

flow-sym : (x y : Flow) → same_flow x y ≡ same_flow y x
unfolding same_flow
flow-sym x y =
    ap₂ ◌&&◌ (bytes-sym x.source y.source)
    (ap₂ ◌&&◌ (bytes-sym x.destination y.destination)
    (ap₂ ◌&&◌ (eqb-sym x.source_port y.source_port) (eqb-sym x.destination_port y.destination_port)))

-- the key is told in either order
pub key-sym : (a b : Assembly) → has_key a.flow a.identification b ≡ has_key b.flow b.identification a
unfolding has_key
key-sym a b = ap₂ ◌&&◌ (flow-sym a.flow b.flow) (eqb-sym a.identification b.identification)

-- an assembly with one more fragment has its key
key-after : (flow : Flow) (id : ℕ) (a : Assembly) (f : Fragment) → has_key flow id (added a f) ≡ has_key flow id a
unfolding has_key added
key-after flow id a f = refl

key_of : (a : Assembly) (f : Fragment) (x : Assembly) → has_key (added a f).flow (added a f).identification x ≡ has_key a.flow a.identification x
unfolding added
key_of a f x = refl

pub same-key-before : (x a : Assembly) (f : Fragment) → live a ≡ true → same_live_key x (added a f) ≡ same_live_key x a
unfolding same_live_key
same-key-before x a f l =
    ap₂ (λ (b : Bool) (k : Bool). live x && (b && k)) (added-live a f ∙ sym l) (key-after x.flow x.identification a f)

pub same-key-behind : (a x : Assembly) (f : Fragment) → live a ≡ true → same_live_key (added a f) x ≡ same_live_key a x
unfolding same_live_key
same-key-behind a x f l = ap₂ (λ (b : Bool) (k : Bool). b && (live x && k)) (added-live a f ∙ sym l) (key_of a f x)
