-- The record test passes again after every call on a record that passes it, and a fresh record passes it: so 22 never comes again.
-- A record's lists are as long as the code's arrays are (`Shaped`); that lasts too.
-- Assumes nothing.
use mathlib.Core.Path.{◌≡◌, refl, sym, ap, ap₂, ◌∙◌, subst}
use mathlib.Core.Bool.{Bool, true, false, not, ◌&&◌, cond, and-false}
use mathlib.Core.List.{List, [], ◌∷◌}
use mathlib.Core.Option.{Option, none, some}
use Prim.Native.Nat.{ℕ, zero, suc, ◌+◌, ◌<◌, ◌≤◌}
use native.Mathlib.Omega.{arith}
use lib.Dec.{eqb, ltb}
use lib.ListN.{length, get_or, set, drop, length-set, length-map, length-replicate, replicate}
use lib.Seq.{drop-set-lt}
use borrow.Author.Tests.{eqb-true, eqb-false, leb-false, ltb-false, eq-eqb, not-false}
use Rattle.number_tests.proofs.Tests.{both_true, cond_yes, cond_no}
use Rattle.number_tests.specs.Tests.{first_of}
use Rattle.number_octets.specs.Octets.{part, overlay}
use Rattle.client_record.specs.declared.Fragment.{Fragment}
use Rattle.client_record.specs.declared.Assembly.{Assembly}
use Rattle.client_record.specs.declared.Client.{Client}
use Rattle.client_record.specs.Limits.{fragment_limit, assembly_limit, offered_limit}
use Rattle.client_record.specs.Lists.{all, any, pairs, sum}
use Rattle.client_record.specs.Record.{
  fresh_fragment,
  fresh_assembly,
  fresh_client,
  sound_fragment,
  whole,
  live,
  held_fragments,
  bytes_held,
  has_key,
  is_fresh_assembly,
  sound_live,
  sound_assembly,
  same_live_key,
  keys_differ,
  figure_sum,
  sound_record,
}
use Rattle.client_record.proofs.SoundParts.{sound-parts, all-at, all_weaker, all_map}
use Rattle.client_reassembly.specs.Shapes.{slotted, Shaped}
use Rattle.client_reassembly.specs.declared.Arrival.{Arrival}
use Rattle.client_reassembly.specs.Answer.{refused, stored, repeated, conflict, advanced}
use Rattle.client_reassembly.specs.Advance
use Rattle.client_reassembly.specs.Advance.{old, expire, elapse, advance_on}
use Rattle.client_reassembly.specs.Offer.{
  Outcome,
  leaving,
  offer_tests,
  fragment_of,
  matches,
  place_for,
  no_room,
  opening,
  assembly_for,
  repeats,
  is_conflict,
  is_full,
  added,
  rejecting,
  repeating,
  conflicting,
  storing,
  delivering,
  start_of,
  handed_out,
  joined,
  placed,
  taken,
  refuse_or,
  fragment_on,
}
use Rattle.client_reassembly.specs.Post.{Sized}
use Rattle.client_reassembly.proofs.Fates.{placed-repeated, placed-conflict, placed-full, placed-joined, taken-rejected, taken-placed}
use Rattle.client_reassembly.proofs.Kept.{
  LiveParts,
  fresh-not-live,
  fresh-sound,
  fresh-first,
  live-parts,
  live-from,
  sound-from,
  sound-by,
  all_set,
  sum-set,
  pairs_set,
  pairs-at,
  any_at,
  elapse-sound,
  rejecting-sound,
  repeating-sound,
  conflicting-sound,
  delivering-sound,
}
use Rattle.client_reassembly.proofs.Laws.{get_d_any}
use Rattle.client_reassembly.proofs.Passes.{passes}
use Rattle.client_reassembly.proofs.Places.{room-place, room_within, live_at}
use Rattle.client_reassembly.proofs.Steady.{empty-bytes, fresh-count}
use Rattle.client_reassembly.proofs.Stored.{fragment-sound, added-live, added-bytes, added-parts, opening-parts, key-sym, same-key-before, same-key-behind}

-- ---- shapes

pub slots-of : (a : Assembly) → slotted a ≡ true → length a.fragments ≡ fragment_limit
unfolding slotted
slots-of a e = eqb-true _ _ e

pub fresh-slotted : slotted fresh_assembly ≡ true
unfolding slotted fresh_assembly
fresh-slotted = eq-eqb _ _ (length-replicate fragment_limit fresh_fragment)

opening-slotted : (o : Arrival) → slotted (opening o) ≡ true
unfolding opening slotted
opening-slotted o = eq-eqb _ _ (slots-of fresh_assembly fresh-slotted)

pub added-slotted : (a : Assembly) (f : Fragment) → slotted a ≡ true → slotted (added a f) ≡ true
unfolding slotted added
added-slotted a f e = ap (λ (n : ℕ). eqb n fragment_limit) (length-set a.fragments a.count f) ∙ e

-- ---- the assembly that a fragment belongs to

-- what is known of the assembly a that a fragment at place p of xs belongs to, at the time t
record Home (t p : ℕ) (xs : List Assembly) (a : Assembly) : Type 0 where
  parts : LiveParts t a
  slots : slotted a ≡ true
  bytes : bytes_held a ≡ bytes_held (get_or xs p fresh_assembly)
  before : (f : Fragment) (j : ℕ) (d : Assembly) → j < length xs → j < p → not (same_live_key (get_or xs j d) (added a f)) ≡ true
  behind : (f : Fragment) (j : ℕ) (d : Assembly) → j < length xs → p < j → not (same_live_key (added a f) (get_or xs j d)) ≡ true

sound-live-of : (t : ℕ) (a : Assembly) → live a ≡ true → sound_assembly t a ≡ true → sound_live t a ≡ true
unfolding sound_assembly
sound-live-of t a l e = sym (cond_yes (live a) (sound_live t a) (is_fresh_assembly a) l) ∙ e

not-live-empty : (a : Assembly) → live a ≡ false → a.count ≡ 0
unfolding live
not-live-empty a e = eqb-true a.count 0 (not-false _ e)

module _ (t p : ℕ) (xs : List Assembly) (h : p < length xs) (each : all (sound_assembly t) xs ≡ true) (keys : keys_differ xs ≡ true)
    (slots : all slotted xs ≡ true) where
  home-live : live (get_or xs p fresh_assembly) ≡ true → Home t p xs (get_or xs p fresh_assembly)
  unfolding keys_differ
  home-live l =
      let a = get_or xs p fresh_assembly in
      record {
        parts = live-parts t a (sound-live-of t a l (all-at (sound_assembly t) xs p fresh_assembly h each));
        slots = all-at slotted xs p fresh_assembly h slots;
        bytes = refl;
        before = λ f j d k n.
            ap not (same-key-before (get_or xs j d) a f l) ∙ ap (λ (x : Assembly). not (same_live_key x a)) (get_d_any xs j d fresh_assembly k)
            ∙ pairs-at (λ x y. not (same_live_key x y)) xs j p fresh_assembly keys n h;
        behind = λ f j d k n.
            ap not (same-key-behind a (get_or xs j d) f l) ∙ ap (λ (x : Assembly). not (same_live_key a x)) (get_d_any xs j d fresh_assembly k)
            ∙ pairs-at (λ x y. not (same_live_key x y)) xs p j fresh_assembly keys n k;
      }

-- nobody has the key of an offer that opens an assembly
opened-behind : (o : Arrival) (f : Fragment) (x : Assembly) → matches o x ≡ false → not (same_live_key (added (opening o) f) x) ≡ true
unfolding same_live_key matches added opening
opened-behind o f x e = ap not (ap (λ (b : Bool). live (added (opening o) f) && b) e ∙ and-false (live (added (opening o) f)))

key-of-opened : (o : Arrival) (f : Fragment) (x : Assembly)
    → has_key (added (opening o) f).flow (added (opening o) f).identification x ≡ has_key o.flow o.identification x
unfolding added opening
key-of-opened o f x = refl

opened-before : (o : Arrival) (f : Fragment) (x : Assembly) → matches o x ≡ false → not (same_live_key x (added (opening o) f)) ≡ true
unfolding same_live_key matches
opened-before o f x e =
    ap not
    (ap₂ (λ (b k : Bool). live x && (b && k)) (added-live (opening o) f) (key-sym x (added (opening o) f) ∙ key-of-opened o f x) ∙ e)

opening-count : (o : Arrival) → (opening o).count ≡ 0
unfolding opening
opening-count o = refl

home-opened : (o : Arrival) (p : ℕ) (xs : List Assembly) → p < length xs → any (matches o) xs ≡ false
    → live (get_or xs p fresh_assembly) ≡ false → Home o.time p xs (opening o)
home-opened o p xs h e l =
    record {
      parts = opening-parts o;
      slots = opening-slotted o;
      bytes = empty-bytes (opening o) (opening-count o)
          ∙ sym (empty-bytes (get_or xs p fresh_assembly) (not-live-empty (get_or xs p fresh_assembly) l));
      before = λ f j d k n. opened-before o f (get_or xs j d) (any_at (matches o) xs j d k e);
      behind = λ f j d k n. opened-behind o f (get_or xs j d) (any_at (matches o) xs j d k e);
    }

-- the assembly at the offer's place is at home there
home : (o : Arrival) (p : ℕ) (xs : List Assembly) → p ≡ place_for o xs → p < length xs → all (sound_assembly o.time) xs ≡ true
    → keys_differ xs ≡ true → all slotted xs ≡ true → Home o.time p xs (assembly_for o p xs)
unfolding assembly_for
home o p xs place h each keys slots = go (any (matches o) xs) refl
  where
    go : (b : Bool) → any (matches o) xs ≡ b → Home o.time p xs (cond (any (matches o) xs) (get_or xs p fresh_assembly) (opening o))
    go true e =
        subst (Home o.time p xs) (sym (cond_yes (any (matches o) xs) (get_or xs p fresh_assembly) (opening o) e))
        (home-live o.time p xs h each keys slots (live_at o xs p fresh_assembly place h ∙ e))
    go false e =
        subst (Home o.time p xs) (sym (cond_no (any (matches o) xs) (get_or xs p fresh_assembly) (opening o) e))
        (home-opened o p xs h e (live_at o xs p fresh_assembly place h ∙ e))

-- ---- one fragment

not_full : (a : Assembly) → a.count ≤ fragment_limit → is_full a ≡ false → a.count < fragment_limit
unfolding is_full
not_full a h e = let n = eqb-false a.count fragment_limit e in omega (arith, n)

module _ (c : Client) (p : ℕ) (a : Assembly) (f : Fragment) (sound : sound_record c ≡ true) (shape : Shaped c)
    (h : p < length c.assemblies) (inside : p < c.plan) (at : Home c.time p c.assemblies a) (room : c.offered + f.length ≤ offered_limit) where
  storing-sound : sound_fragment f ≡ true → is_conflict a f ≡ false → is_full a ≡ false → whole (held_fragments (added a f)) ≡ false
      → sound_record (storing p (added a f) f.length c) ≡ true
  unfolding storing figure_sum keys_differ
  storing-sound ok apart full still =
      let s = sound-parts c sound in
      let free = not_full a at.parts.slots full in
      let slots = slots-of a at.slots in
      let fits : a.count < length a.fragments = omega arith in
      let parts = added-parts c.time a f at.parts free slots ok apart still in
      let total = sum-set bytes_held c.assemblies p (added a f) fresh_assembly h in
      let more = added-bytes a f fits in
      sound-from (storing p (added a f) f.length c)
      (record {
        each = all_set (sound_assembly c.time) c.assemblies p (added a f) s.each
            (sound-by c.time (added a f) true (added-live a f) (live-from c.time (added a f) parts));
        keys = pairs_set (λ x y. not (same_live_key x y)) c.assemblies p (added a f) s.keys (at.before f) (at.behind f);
        held = omega (arith, s.held, total, more, at.bytes);
        balance = omega (arith, s.balance);
        limit = room;
        planned = ap (all (λ x. not (live x))) (drop-set-lt c.plan c.assemblies p (added a f) inside) ∙ s.planned;
      })

  joined-sound : (share out : List ℕ) → sound_fragment f ≡ true → is_conflict a f ≡ false → is_full a ≡ false
      → sound_record (joined c share out p a f).client ≡ true
  unfolding joined handed_out
  joined-sound share out ok apart full = go (whole (held_fragments (added a f))) refl
    where
      go : (b : Bool) → whole (held_fragments (added a f)) ≡ b
          → sound_record (cond b (handed_out c share out p a f) (leaving (storing p (added a f) f.length c) share out stored)).client ≡ true
      go true e = delivering-sound c p a fresh_assembly f.length sound h at.bytes room
      go false e = storing-sound ok apart full e

  placed-sound : (share out bytes : List ℕ) → sound_fragment f ≡ true → sound_record (placed c share out p a f bytes).client ≡ true
  placed-sound share out bytes ok = one (repeats a f (part (start_of p f) f.length share) bytes) refl
    where
      Kept : Outcome → Type 0
      Kept o = sound_record o.client ≡ true

      three : (b : Bool) → is_full a ≡ b → repeats a f (part (start_of p f) f.length share) bytes ≡ false → is_conflict a f ≡ false
          → Kept (placed c share out p a f bytes)
      three true e r k = subst Kept (sym (placed-full c share out p a f bytes r k e)) (rejecting-sound c f.length sound room)
      three false e r k =
          subst Kept (sym (placed-joined c share out p a f bytes r k e)) (joined-sound (overlay share (start_of p f) bytes) out ok k e)

      two : (b : Bool) → is_conflict a f ≡ b → repeats a f (part (start_of p f) f.length share) bytes ≡ false
          → Kept (placed c share out p a f bytes)
      two true e r =
          subst Kept (sym (placed-conflict c share out p a f bytes r e)) (conflicting-sound c p a fresh_assembly f.length sound h at.bytes room)
      two false e r = three (is_full a) refl r e

      one : (b : Bool) → repeats a f (part (start_of p f) f.length share) bytes ≡ b → Kept (placed c share out p a f bytes)
      one true e = subst Kept (sym (placed-repeated c share out p a f bytes e)) (repeating-sound c f.length sound room)
      one false e = two (is_conflict a f) refl e

-- ---- the fragment call

fragment-length : (o : Arrival) (n : ℕ) → (fragment_of o n).length ≡ n
unfolding fragment_of
fragment-length o n = refl

taken-sound : (c : Client) (share out : List ℕ) (o : Arrival) (bytes : List ℕ) → sound_record c ≡ true → Shaped c → c.time ≡ o.time
    → Sized o (length bytes) → (length bytes ≡ 0 → ⊥) → c.offered + length bytes ≤ offered_limit
    → sound_record (taken c share out o bytes).client ≡ true
taken-sound c share out o bytes sound shape time sized some_bytes room = go (no_room c.plan o c.assemblies) refl
  where
    n : ℕ
    n = length bytes

    xs : List Assembly
    xs = c.assemblies

    p : ℕ
    p = place_for o xs

    Kept : Outcome → Type 0
    Kept r = sound_record r.client ≡ true

    inside : no_room c.plan o xs ≡ false → p < c.plan
    inside e = leb-false c.plan p (sym (room-place o xs c.plan (sound-parts c sound).planned) ∙ e)

    within : no_room c.plan o xs ≡ false → p < length xs
    within e = omega (arith, inside e, shape.plan, shape.places)

    at_home : p < length xs → Home c.time p xs (assembly_for o p xs)
    at_home h =
        let s = sound-parts c sound in
        subst (λ (t : ℕ). Home t p xs (assembly_for o p xs)) (sym time)
        (home o p xs refl h (subst (λ (t : ℕ). all (sound_assembly t) xs ≡ true) time s.each) s.keys shape.slots)

    go : (b : Bool) → no_room c.plan o xs ≡ b → Kept (taken c share out o bytes)
    go true e = subst Kept (sym (taken-rejected c share out o bytes e)) (rejecting-sound c n sound room)
    go false e =
        subst Kept (sym (taken-placed c share out o bytes e))
        (placed-sound c p (assembly_for o p xs) (fragment_of o n) sound shape (within e) (inside e) (at_home (within e))
        (subst (λ (k : ℕ). c.offered + k ≤ offered_limit) (sym (fragment-length o n)) room) share out bytes (fragment-sound o n sized some_bytes))

expire-slotted : (t : ℕ) (a : Assembly) → slotted a ≡ true → slotted (expire t a) ≡ true
unfolding expire
expire-slotted t a e = go (old t a)
  where
    go : (b : Bool) → slotted (cond b fresh_assembly a) ≡ true
    go true = fresh-slotted
    go false = e

pub elapse-shaped : (t : ℕ) (c : Client) → Shaped c → Shaped (elapse t c)
unfolding elapse
elapse-shaped t c s =
    record {
      places = length-map c.assemblies (expire t) ∙ s.places;
      slots = all_map slotted (expire t) c.assemblies
          ∙ all_weaker slotted (λ a. slotted (expire t a)) (expire-slotted t) c.assemblies s.slots;
      plan = s.plan;
    }

elapse-time : (t : ℕ) (c : Client) → (elapse t c).time ≡ t
unfolding elapse
elapse-time t c = refl

elapse-offered : (t : ℕ) (c : Client) → (elapse t c).offered ≡ c.offered
unfolding elapse
elapse-offered t c = refl

-- a fragment call leaves a sound record sound
pub fragment-call-sound : (c : Client) (share out : List ℕ) (o : Arrival) (bytes : List ℕ) → sound_record c ≡ true → Shaped c
    → sound_record (fragment_on c share out o bytes).client ≡ true
unfolding fragment_on
fragment-call-sound c share out o bytes sound shape = go (first_of (offer_tests c (length out) o (length bytes))) refl
  where
    go : (r : Option ℕ) → first_of (offer_tests c (length out) o (length bytes)) ≡ r
        → sound_record (refuse_or c share out r (taken (elapse o.time c) share out o bytes)).client ≡ true
    go none e =
        let k = passes c (length out) o (length bytes) e in
        taken-sound (elapse o.time c) share out o bytes (elapse-sound o.time c sound k.time) (elapse-shaped o.time c shape)
        (elapse-time o.time c) k.sized k.some_bytes
        (subst (λ (m : ℕ). m + length bytes ≤ offered_limit) (sym (elapse-offered o.time c)) k.offered)
    go (some n) e = sound

-- ---- the shape after a fragment call

set-shaped : (p : ℕ) (b : Assembly) (xs : List Assembly) → length xs ≡ assembly_limit → all slotted xs ≡ true → slotted b ≡ true
    → (length (set xs p b) ≡ assembly_limit) × (all slotted (set xs p b) ≡ true)
set-shaped p b xs n e k = (length-set xs p b ∙ n, all_set slotted xs p b e k)

module _ (c : Client) (p : ℕ) (a : Assembly) (f : Fragment) (shape : Shaped c) (own : slotted a ≡ true) where
  conflicting-shaped : Shaped (conflicting p a f.length c)
  unfolding conflicting
  conflicting-shaped = let k = set-shaped p fresh_assembly c.assemblies shape.places shape.slots fresh-slotted in record { places = k.0; slots = k.1; plan = shape.plan }

  delivering-shaped : Shaped (delivering p a f.length c)
  unfolding delivering
  delivering-shaped = let k = set-shaped p fresh_assembly c.assemblies shape.places shape.slots fresh-slotted in record { places = k.0; slots = k.1; plan = shape.plan }

  storing-shaped : Shaped (storing p (added a f) f.length c)
  unfolding storing
  storing-shaped =
      let k = set-shaped p (added a f) c.assemblies shape.places shape.slots (added-slotted a f own) in record { places = k.0; slots = k.1; plan = shape.plan }

  rejecting-shaped : (n : ℕ) → Shaped (rejecting n c)
  unfolding rejecting
  rejecting-shaped n = record { places = shape.places; slots = shape.slots; plan = shape.plan }

  repeating-shaped : (n : ℕ) → Shaped (repeating n c)
  unfolding repeating
  repeating-shaped n = record { places = shape.places; slots = shape.slots; plan = shape.plan }

  joined-shaped : (share out : List ℕ) → Shaped (joined c share out p a f).client
  unfolding joined handed_out
  joined-shaped share out = go (whole (held_fragments (added a f)))
    where
      go : (b : Bool) → Shaped (cond b (handed_out c share out p a f) (leaving (storing p (added a f) f.length c) share out stored)).client
      go true = delivering-shaped
      go false = storing-shaped

  placed-shaped : (share out bytes : List ℕ) → Shaped (placed c share out p a f bytes).client
  unfolding placed
  placed-shaped share out bytes = one (repeats a f (part (start_of p f) f.length share) bytes) (is_conflict a f) (is_full a)
    where
      one : (x y z : Bool)
          → Shaped (cond x (leaving (repeating f.length c) share out repeated)
          (cond y (leaving (conflicting p a f.length c) share out conflict)
          (cond z (leaving (rejecting f.length c) share out (refused 30)) (joined c (overlay share (start_of p f) bytes) out p a f)))).client
      one true y z = repeating-shaped f.length
      one false true z = conflicting-shaped
      one false false true = rejecting-shaped f.length
      one false false false = joined-shaped (overlay share (start_of p f) bytes) out

assembly-slotted : (o : Arrival) (p : ℕ) (xs : List Assembly) → p < length xs → all slotted xs ≡ true → slotted (assembly_for o p xs) ≡ true
unfolding assembly_for
assembly-slotted o p xs h e = go (any (matches o) xs)
  where
    go : (b : Bool) → slotted (cond b (get_or xs p fresh_assembly) (opening o)) ≡ true
    go true = all-at slotted xs p fresh_assembly h e
    go false = opening-slotted o

taken-shaped : (c : Client) (share out : List ℕ) (o : Arrival) (bytes : List ℕ) → Shaped c → Shaped (taken c share out o bytes).client
taken-shaped c share out o bytes shape = go (no_room c.plan o c.assemblies) refl
  where
    xs : List Assembly
    xs = c.assemblies

    p : ℕ
    p = place_for o xs

    Kept : Outcome → Type 0
    Kept r = Shaped r.client

    within : no_room c.plan o xs ≡ false → p < length xs
    within e = room_within o xs c.plan (omega (arith, shape.plan, shape.places)) e

    go : (b : Bool) → no_room c.plan o xs ≡ b → Kept (taken c share out o bytes)
    go true e = subst Kept (sym (taken-rejected c share out o bytes e)) (rejecting-shaped c p fresh_assembly (fragment_of o 0) shape fresh-slotted (length bytes))
    go false e =
        subst Kept (sym (taken-placed c share out o bytes e))
        (placed-shaped c p (assembly_for o p xs) (fragment_of o (length bytes)) shape (assembly-slotted o p xs (within e) shape.slots) share out bytes)

pub fragment-call-shaped : (c : Client) (share out : List ℕ) (o : Arrival) (bytes : List ℕ) → Shaped c
    → Shaped (fragment_on c share out o bytes).client
unfolding fragment_on
fragment-call-shaped c share out o bytes shape = go (first_of (offer_tests c (length out) o (length bytes)))
  where
    go : (r : Option ℕ) → Shaped (refuse_or c share out r (taken (elapse o.time c) share out o bytes)).client
    go none = taken-shaped (elapse o.time c) share out o bytes (elapse-shaped o.time c shape)
    go (some n) = shape

-- ---- the clock

-- the clock leaves a sound record sound; the account changes nothing
pub advance-call-sound : (c : Client) (t : ℕ) → sound_record c ≡ true → sound_record (advance_on c t).client ≡ true
unfolding advance_on first_of
advance-call-sound c t sound = rw sound (go (ltb t c.time) refl)
  where
    go : (b : Bool) → ltb t c.time ≡ b
        → sound_record (Advance.refuse_or c (cond b (some 27) none) (record { client = elapse t c; reply = advanced })).client ≡ true
    go true e = sound
    go false e = elapse-sound t c sound (ltb-false t c.time e)

-- ---- a fresh record

module _ {ℓ} {A : Type ℓ} where
  all_alike : (p : A → Bool) (n : ℕ) (x : A) → p x ≡ true → all p (replicate n x) ≡ true
  unfolding all
  all_alike p zero x e = refl
  all_alike p (suc n) x e = ap₂ ◌&&◌ e (all_alike p n x e)

  all_drop : (p : A → Bool) (n : ℕ) (l : List A) → all p l ≡ true → all p (drop n l) ≡ true
  unfolding all
  all_drop p zero l e = e
  all_drop p (suc n) [] e = e
  all_drop p (suc n) (x ∷ l) e = all_drop p n l (both_true (p x) (all p l) e).1

  pairs-alike : (q : A → A → Bool) (n : ℕ) (x : A) → q x x ≡ true → pairs q (replicate n x) ≡ true
  unfolding pairs
  pairs-alike q zero x e = refl
  pairs-alike q (suc n) x e = ap₂ ◌&&◌ (all_alike (q x) n x e) (pairs-alike q n x e)

  sum_alike : (f : A → ℕ) (n : ℕ) (x : A) → f x ≡ 0 → 0 ≡ sum f (replicate n x)
  unfolding sum
  sum_alike f zero x e = refl
  sum_alike f (suc n) x e = omega (arith, e, sum_alike f n x e)

-- a fresh record is sound, whatever its plan
pub fresh-client-sound : (plan : ℕ) → sound_record (fresh_client plan) ≡ true
unfolding fresh_client figure_sum keys_differ
fresh-client-sound plan =
    sound-from (fresh_client plan)
    (record {
      each = all_alike (sound_assembly 0) assembly_limit fresh_assembly (fresh-sound 0);
      keys = pairs-alike (λ a b. not (same_live_key a b)) assembly_limit fresh_assembly (fresh-first fresh_assembly);
      held = sum_alike bytes_held assembly_limit fresh_assembly (empty-bytes fresh_assembly fresh-count);
      balance = refl;
      limit = omega arith;
      planned = all_drop (λ a. not (live a)) plan (replicate assembly_limit fresh_assembly)
          (all_alike (λ a. not (live a)) assembly_limit fresh_assembly (ap not fresh-not-live));
    })

pub fresh-client-shaped : (plan : ℕ) → plan ≤ assembly_limit → Shaped (fresh_client plan)
unfolding fresh_client
fresh-client-shaped plan h = record {
  places = length-replicate assembly_limit fresh_assembly;
  slots = all_alike slotted assembly_limit fresh_assembly fresh-slotted;
  plan = h;
}
