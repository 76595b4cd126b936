-- The assembly that an offered fragment belongs to holds what the book has open of the fragment's key, and no other place has that key.
-- So there is no room in the record exactly where the book has as many other keys open as the plan allows.
-- Assumes nothing.
use Prim.Native.Nat.{ℕ, ◌<◌, ◌≤◌}
use mathlib.Core.Path.{◌≡◌, refl, sym, ap, ap₂, ◌∙◌, subst}
use mathlib.Core.Bool.{Bool, true, false, not, ◌&&◌, cond}
use mathlib.Core.List.{List, [], ◌∷◌, ◌++◌, map}
use native.Mathlib.Omega.{arith}
use native.Mathlib.Nat.{not-suc-le-zero}
use lib.Dec.{eqb, leb, ltb}
use lib.ListN.{length, length-map}
use lib.Seq.{length-take-le}
use borrow.Author.Tests.{ltb-true, ltb-false, leb-false, eqb-true, ne_eqb, not-true}
use Rattle.number_tests.proofs.Tests.{both_true, cond_yes, cond_no}
use Rattle.client_record.specs.declared.Assembly.{Assembly}
use Rattle.client_record.specs.declared.Client.{Client}
use Rattle.client_record.specs.Limits.{fragment_limit}
use Rattle.client_record.specs.Lists.{all, any}
use Rattle.client_record.specs.Record.{fresh_assembly, fits, live, held_fragments, has_key, same_live_key, keys_differ, sound_assembly, live_count}
use Rattle.client_record.proofs.SoundParts.{sound-parts, all-at}
use Rattle.client_reassembly.specs.declared.Arrival.{Arrival}
use Rattle.client_reassembly.specs.Offer
use Rattle.client_reassembly.specs.Offer.{matches, first_index, place_for, opening, assembly_for}
use Rattle.client_reassembly.proofs.Kept.{LiveParts, any_at, pairs-at}
use Rattle.client_reassembly.proofs.Places.{any-first, first_passes, place-of-key, room-place, live_at}
use Rattle.client_reassembly.proofs.Steady.{empty-held}
use Rattle.client_reassembly.specs.Shapes.{slotted}
use Rattle.client_reassembly.proofs.Lasting.{slots-of, fresh-slotted}
use Rattle.client_ledger.specs.Book
use Rattle.client_ledger.specs.Book.{Key, Content, Entry, Book, same_key, mine, opened_at, keys, entry}
use Rattle.client_ledger.specs.Stands.{key_of, owns, at, content_of, Stands, offer_of}
use Rattle.client_ledger.proofs.Keys.{same_key_lem, own_key, opened-first, opened-later, some, keys-split}
use Rattle.client_ledger.proofs.Agreement.{parts-sum, sum-at, differs, not-owned, not-live-owned, not-same-owned, live-count, live-sound, parts-fit}

-- the key that an arrival has
abbrev pub key_for : Arrival → Key
key_for o = record { flow = o.flow; identification = o.identification }

same-match : (o : Arrival) (xs : List Assembly) → any (matches o) xs ≡ any (owns (key_for o)) xs
unfolding matches has_key owns same_key key_of
same-match o xs = refl

match-owns : (o : Arrival) (a : Assembly) → matches o a ≡ owns (key_for o) a
unfolding matches has_key owns same_key key_of
match-owns o a = refl

pub owned-live : (k : Key) (a : Assembly) → owns k a ≡ true → live a ≡ true
unfolding owns
owned-live k a e = (both_true (live a) (same_key k (key_of a)) e).0

pub owned-key : (k : Key) (a : Assembly) → owns k a ≡ true → k ≡ key_of a
unfolding owns
owned-key k a e = same_key_lem k (key_of a) (both_true (live a) (same_key k (key_of a)) e).1

pub held-length : (a : Assembly) → slotted a ≡ true → a.count ≤ fragment_limit → length (held_fragments a) ≡ a.count
unfolding held_fragments
held-length a s h = length-take-le a.count a.fragments (omega (arith, slots-of a s))

pub below : (i n : ℕ) → i ≤ n → (i ≡ n → ⊥) → i < n
below i n le m = go (ltb i n) refl
  where
    go : (t : Bool) → ltb i n ≡ t → i < n
    go true t = ltb-true i n t
    go false t = let k = ltb-false i n t in absurd (m (omega arith))

-- a key that has entries counts once
some_one : (fs : List Content) → 0 < length fs → some fs ≡ 1
some_one [] h = absurd (not-suc-le-zero h)
some_one (f ∷ fs) h = refl

-- ---- the client stands for the book

module _ (c : Client) (share : List ℕ) (b : Book) (st : Stands c share b) where
  pub parts_at : (p : ℕ) → p < length c.assemblies → live (at c.assemblies p) ≡ true → LiveParts c.time (at c.assemblies p)
  parts_at p h l =
      live-sound c.time (at c.assemblies p) l (all-at (sound_assembly c.time) c.assemblies p fresh_assembly h (sound-parts c st.sound).each)

  slotted-at : (p : ℕ) → p < length c.assemblies → slotted (at c.assemblies p) ≡ true
  slotted-at p h = all-at slotted c.assemblies p fresh_assembly h st.shape.lists.slots

  -- a live assembly has entries
  has-entries : (p : ℕ) → p < length c.assemblies → live (at c.assemblies p) ≡ true → 0 < length (mine (key_of (at c.assemblies p)) b.open_ones)
  has-entries p h l =
      let a = at c.assemblies p in
      omega (
        arith,
        ap length (st.agrees.each p h l).fragments,
        length-map (held_fragments a) (content_of share p),
        held-length a (slotted-at p h) (parts_at p h l).slots,
        live-count a l,
      )

  -- as many keys are open as assemblies are live
  keys-lives : keys b.open_ones ≡ live_count c.assemblies
  unfolding keys live_count
  keys-lives =
      parts-sum keys some refl keys-split c.assemblies b.open_ones (sound-parts c st.sound).keys st.agrees.known
      ∙ sum-at (λ a. cond (live a) (some (mine (key_of a) b.open_ones)) 0) (λ a. cond (live a) 1 0) fresh_assembly c.assemblies
      (λ i k. here i k (live (at c.assemblies i)) refl)
    where
      here : (i : ℕ) → i < length c.assemblies → (t : Bool) → live (at c.assemblies i) ≡ t
          → cond t (some (mine (key_of (at c.assemblies i)) b.open_ones)) 0 ≡ cond t 1 0
      here i k true l = some_one (mine (key_of (at c.assemblies i)) b.open_ones) (has-entries i k l)
      here i k false l = refl

  -- 29 in the record and in the book
  pub same-room : (o : Arrival) (bytes : List ℕ) → Offer.no_room c.plan o c.assemblies ≡ Book.no_room (entry (offer_of o bytes)) b
  unfolding Offer.no_room Book.no_room entry offer_of
  same-room o bytes = go (any (owns k) xs) refl
    where
      k : Key
      k = key_for o

      xs : List Assembly
      xs = c.assemblies

      es : List Entry
      es = b.open_ones

      go : (t : Bool) → any (owns k) xs ≡ t
          → not (any (matches o) xs) && leb c.plan (live_count xs) ≡ eqb (length (mine k es)) 0 && leb b.plan (keys es)
      go true e =
          let p = first_index (owns k) xs in
          let h : p < length xs = ltb-true _ _ (sym (any-first (owns k) xs) ∙ e) in
          let m = first_passes (owns k) xs fresh_assembly h in
          let n = has-entries p h (owned-live k (at xs p) m) in
          ap (λ (x : Bool). not x && leb c.plan (live_count xs)) (same-match o xs ∙ e)
          ∙ sym (ap (λ (x : Bool). x && leb b.plan (keys es))
          (ne_eqb (length (mine k es)) 0 (λ q. omega (arith, n, ap (λ (j : Key). length (mine j es)) (owned-key k (at xs p) m)))))
      go false e =
          ap (λ (x : Bool). not x && leb c.plan (live_count xs)) (same-match o xs ∙ e) ∙ ap₂ leb st.plan (sym keys-lives)
          ∙ sym (ap (λ (fs : List Content). eqb (length fs) 0 && leb b.plan (keys es)) (st.agrees.known k e))

-- ---- the assembly that a fragment belongs to

-- the assembly a, at place p of the record c, is the one of the key k; e, which is offered, is of that key
pub record Home (c : Client) (share : List ℕ) (b : Book) (e : Entry) (p : ℕ) (a : Assembly) : Type 0 where
  pub within : p < length c.assemblies
  pub inside : p < c.plan
  pub key : key_of a ≡ e.key
  pub fragments : mine e.key b.open_ones ≡ map (content_of share p) (held_fragments a)
  pub fitting : all fits (held_fragments a) ≡ true
  pub slots : slotted a ≡ true
  pub count : a.count ≤ fragment_limit
  pub opened : opened_at e.key (b.open_ones ++ e ∷ []) ≡ a.opened
  pub alone : (j : ℕ) → j < length c.assemblies → (j ≡ p → ⊥) → live (at c.assemblies j) ≡ true → same_key e.key (key_of (at c.assemblies j)) ≡ false
  pub place : (j : Key) → same_key e.key j ≡ false → owns j (at c.assemblies p) ≡ false

key_apart : (x y : Assembly) → live x ≡ true → live y ≡ true → not (same_live_key x y) ≡ true → same_key (key_of x) (key_of y) ≡ false
unfolding same_live_key has_key same_key key_of
key_apart x y l m h = sym (ap₂ (λ (s t : Bool). s && (t && same_key (key_of x) (key_of y))) l m) ∙ not-true (same_live_key x y) h

apart-at : (xs : List Assembly) → keys_differ xs ≡ true → (i j : ℕ) → i < j → j < length xs → live (at xs i) ≡ true → live (at xs j) ≡ true
    → same_key (key_of (at xs i)) (key_of (at xs j)) ≡ false
unfolding keys_differ
apart-at xs d i j h k l m = key_apart (at xs i) (at xs j) l m (pairs-at (λ x y. not (same_live_key x y)) xs i j fresh_assembly d h k)

module _ (c : Client) (share : List ℕ) (b : Book) (st : Stands c share b) (e : Entry) (p : ℕ) (h : p < length c.assemblies)
    (low : p < c.plan) where
  home-live : owns e.key (at c.assemblies p) ≡ true → Home c share b e p (at c.assemblies p)
  home-live m =
      let a = at c.assemblies p in
      let l = owned-live e.key a m in
      let k : key_of a ≡ e.key = sym (owned-key e.key a m) in
      let parts = parts_at c share b st p h l in
      let shows = st.agrees.each p h l in
      record {
        within = h;
        inside = low;
        key = k;
        fragments = subst (λ (j : Key). mine j b.open_ones ≡ map (content_of share p) (held_fragments a)) k shows.fragments;
        fitting = parts-fit parts;
        slots = slotted-at c share b st p h;
        count = parts.slots;
        opened =
            opened-later e.key e b.open_ones
            (λ n. no-entries (subst (λ (j : Key). 0 < length (mine j b.open_ones)) k (has-entries c share b st p h l)) n)
            ∙ subst (λ (j : Key). opened_at j b.open_ones ≡ a.opened) k shows.opened;
        alone = λ j i n q. subst (λ (x : Key). same_key x (key_of (at c.assemblies j)) ≡ false) k (other l j i n q (ltb j p) refl);
        place = λ j d. not-same-owned j a (subst (λ (x : Key). same_key j x ≡ false) (sym k) (differs e.key j d));
      }
    where
      no-entries : 0 < length (mine e.key b.open_ones) → mine e.key b.open_ones ≡ [] → ⊥
      no-entries n q = omega (arith, ap length q)

      other : live (at c.assemblies p) ≡ true → (j : ℕ) → j < length c.assemblies → (j ≡ p → ⊥) → live (at c.assemblies j) ≡ true
          → (t : Bool) → ltb j p ≡ t → same_key (key_of (at c.assemblies p)) (key_of (at c.assemblies j)) ≡ false
      other l j i n q true t =
          differs (key_of (at c.assemblies j)) (key_of (at c.assemblies p))
          (apart-at c.assemblies (sound-parts c st.sound).keys j p (ltb-true j p t) h q l)
      other l j i n q false t =
          let le = ltb-false j p t in
          apart-at c.assemblies (sound-parts c st.sound).keys p j (go (eqb j p) refl le) i l q
        where
          go : (u : Bool) → eqb j p ≡ u → p ≤ j → p < j
          go true u le = absurd (n (eqb-true j p u))
          go false u le = below p j le (λ q. n (sym q))

  home-new : (o : Arrival) → e.key ≡ key_for o → e.time ≡ o.time → any (owns e.key) c.assemblies ≡ false → live (at c.assemblies p) ≡ false
      → Home c share b e p (opening o)
  unfolding opening slotted all key_of
  home-new o k t n l =
      let none = st.agrees.known e.key n in
      let empty : held_fragments (opening o) ≡ [] = empty-held (opening o) refl in
      record {
        within = h;
        inside = low;
        key = sym k;
        fragments = none ∙ sym (ap (map (content_of share p)) empty);
        fitting = ap (all fits) empty;
        slots = fresh-slotted;
        count = omega arith;
        opened = opened-first e.key e b.open_ones (own_key e) none ∙ t;
        alone = λ j i m q. not-owned e.key (at c.assemblies j) (any_at (owns e.key) c.assemblies j fresh_assembly i n) q;
        place = λ j d. not-live-owned j (at c.assemblies p) l;
      }

-- where there is room, the record has a home for the fragment
pub home : (c : Client) (share : List ℕ) (b : Book) → Stands c share b → (o : Arrival) (bytes : List ℕ)
    → Offer.no_room c.plan o c.assemblies ≡ false
    → Home c share b (entry (offer_of o bytes)) (place_for o c.assemblies) (assembly_for o (place_for o c.assemblies) c.assemblies)
unfolding entry offer_of assembly_for
home c share b st o bytes room = go (any (matches o) xs) refl
  where
    xs : List Assembly
    xs = c.assemblies

    p : ℕ
    p = place_for o xs

    e : Entry
    e = entry (offer_of o bytes)

    low : p < c.plan
    low = leb-false c.plan p (sym (room-place o xs c.plan (sound-parts c st.sound).planned) ∙ room)

    h : p < length xs
    h = omega (arith, low, st.shape.lists.plan, st.shape.lists.places)

    go : (t : Bool) → any (matches o) xs ≡ t → Home c share b e p (assembly_for o p xs)
    go true m =
        subst (Home c share b e p) (sym (cond_yes (any (matches o) xs) (at xs p) (opening o) m))
        (home-live c share b st e p h low (sym (match-owns o (at xs p)) ∙ passes))
      where
        first : p ≡ first_index (matches o) xs
        first = place-of-key o xs m

        passes : matches o (at xs p) ≡ true
        passes =
            ap (λ (i : ℕ). matches o (at xs i)) first
            ∙ first_passes (matches o) xs fresh_assembly (subst (λ (i : ℕ). i < length xs) first h)
    go false m =
        subst (Home c share b e p) (sym (cond_no (any (matches o) xs) (at xs p) (opening o) m))
        (home-new c share b st e p h low o refl refl (sym (same-match o xs) ∙ m) (live_at o xs p fresh_assembly refl h ∙ m))
