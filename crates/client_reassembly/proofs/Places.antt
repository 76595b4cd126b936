-- Laws of the place where a fragment belongs: the first index that passes a test, found from the front, and what stands there.
-- Assumes nothing.
use mathlib.Core.Path.{◌≡◌, refl, sym, ap, ◌∙◌}
use mathlib.Core.Bool.{Bool, true, false, not, ◌&&◌, ◌||◌, cond}
use mathlib.Core.List.{List, [], ◌∷◌}
use Prim.Native.Nat.{ℕ, zero, suc, ◌+◌, ◌<◌, ◌≤◌}
use native.Mathlib.Nat.{not-suc-le-zero, le_of_suc-le-suc}
use native.Mathlib.Omega.{arith}
use lib.Dec.{leb, ltb, leb-suc-suc}
use lib.ListN.{length, drop, get_or}
use lib.Seq.{drop-length}
use borrow.Author.Tests.{ltb-true, lt-ltb, leb-true, leb-false, le-leb, lt-leb, not-true}
use Rattle.number_tests.proofs.Tests.{true-false, both_true, cond_yes, cond_no}
use Rattle.client_record.specs.declared.Assembly.{Assembly}
use Rattle.client_record.specs.Lists.{all, any, sum}
use Rattle.client_record.specs.Record.{fresh_assembly, live, live_count}
use Rattle.client_record.proofs.Lists.{drop-next}
use Rattle.client_reassembly.specs.declared.Arrival.{Arrival}
use Rattle.client_reassembly.specs.Offer.{matches, first_index, no_room, place_for}

module _ {ℓ} {A : Type ℓ} (p : A → Bool) where
  first-left : (l : List A) (i : ℕ) (d : A) → i < length l → first_index p (drop i l) ≡ cond (p (get_or l i d)) 0 (suc (first_index p (drop (i + 1) l)))
  unfolding first_index
  first-left l i d h = ap (first_index p) (drop-next l i d h)

  -- a search from the front: i elements are passed over, and the next one passes, or it does not
  pub first-here : (l : List A) (i : ℕ) (d : A) → i < length l → p (get_or l i d) ≡ true
      → i + first_index p (drop i l) ≡ first_index p l → i ≡ first_index p l
  first-here l i d h t e =
      let z : first_index p (drop i l) ≡ 0 = first-left l i d h ∙ cond_yes (p (get_or l i d)) 0 (suc (first_index p (drop (i + 1) l))) t in omega arith

  pub first-later : (l : List A) (i : ℕ) (d : A) → i < length l → p (get_or l i d) ≡ false
      → i + first_index p (drop i l) ≡ first_index p l → i + 1 + first_index p (drop (i + 1) l) ≡ first_index p l
  first-later l i d h t e =
      let z : first_index p (drop i l) ≡ suc (first_index p (drop (i + 1) l)) =
      first-left l i d h ∙ cond_no (p (get_or l i d)) 0 (suc (first_index p (drop (i + 1) l))) t in
      omega arith

  pub first-never : (l : List A) (i : ℕ) → i ≡ length l → i + first_index p (drop i l) ≡ first_index p l → i ≡ first_index p l
  unfolding first_index
  first-never l i n e =
      let z : first_index p (drop i l) ≡ 0 = ap (first_index p) (ap (λ (k : ℕ). drop k l) n ∙ drop-length l) in omega arith

  pub first-le : (l : List A) → first_index p l ≤ length l
  unfolding first_index
  first-le [] = omega arith
  first-le (x ∷ l) = go (p x) (first-le l)
    where
      go : (b : Bool) → first_index p l ≤ length l → cond b 0 (suc (first_index p l)) ≤ suc (length l)
      go true h = omega arith
      go false h = omega arith

  -- some element passes: the first index is one of the list's
  pub any-first : (l : List A) → any p l ≡ ltb (first_index p l) (length l)
  unfolding any first_index
  any-first [] = refl
  any-first (x ∷ l) = go (p x) (any-first l)
    where
      go : (b : Bool) → any p l ≡ ltb (first_index p l) (length l) → (b || any p l) ≡ ltb (cond b 0 (suc (first_index p l))) (suc (length l))
      go true e = sym (lt-ltb 0 (suc (length l)) (omega arith))
      go false e = e ∙ sym (leb-suc-suc (suc (first_index p l)) (length l))

  pub first_passes : (l : List A) (d : A) → first_index p l < length l → p (get_or l (first_index p l) d) ≡ true
  unfolding first_index
  first_passes [] d h = absurd (not-suc-le-zero h)
  first_passes (x ∷ l) d h = go (p x) refl (λ k. first_passes l d k) h
    where
      Found : ℕ → List A → Type 0
      Found i m = p (get_or m i d) ≡ true

      go : (b : Bool) → p x ≡ b → (first_index p l < length l → Found (first_index p l) l)
          → cond b 0 (suc (first_index p l)) < suc (length l) → Found (cond b 0 (suc (first_index p l))) (x ∷ l)
      go true e ih k = e
      go false e ih k = ih (le_of_suc-le-suc k)

-- ---- live places and the plan

free-at : List Assembly → ℕ
free-at xs = first_index (λ a. not (live a)) xs

-- the places before the first free one are live
free-lives : (xs : List Assembly) → free-at xs ≤ live_count xs
unfolding first_index free-at live_count sum
free-lives [] = omega arith
free-lives (a ∷ xs) = go (live a) (free-lives xs)
  where
    go : (b : Bool) → free-at xs ≤ live_count xs → cond (not b) 0 (suc (free-at xs)) ≤ (cond b 1 0) + live_count xs
    go true h = omega arith
    go false h = omega arith

-- with no live place past the plan, no more are live than the plan allows
lives-plan : (n : ℕ) (xs : List Assembly) → all (λ a. not (live a)) (drop n xs) ≡ true → live_count xs ≤ n
unfolding live_count sum all
lives-plan n [] e = omega arith
lives-plan zero (a ∷ xs) e =
    let t = both_true (not (live a)) (all (λ x. not (live x)) xs) e in
    let one : ◌≡◌ {A = ℕ} (cond (live a) 1 0) 0 = ap (λ (b : Bool). cond b 1 0) (not-true (live a) t.0) in
    omega (arith, one, lives-plan zero xs t.1)
lives-plan (suc n) (a ∷ xs) e = go (live a) (lives-plan n xs e)
  where
    go : (b : Bool) → live_count xs ≤ n → (cond b 1 0) + live_count xs ≤ suc n
    go true h = omega arith
    go false h = omega arith

-- as many are live as the plan allows exactly where its places are
lives-free : (n : ℕ) (xs : List Assembly) → all (λ a. not (live a)) (drop n xs) ≡ true → free-at xs < n → live_count xs < n
unfolding live_count first_index free-at sum
lives-free n [] e h = h
lives-free zero (a ∷ xs) e h = absurd (not-suc-le-zero h)
lives-free (suc n) (a ∷ xs) e h = go (live a) (lives-free n xs e) (lives-plan n xs e) h
  where
    go : (b : Bool) → (free-at xs < n → live_count xs < n) → live_count xs ≤ n → cond (not b) 0 (suc (free-at xs)) < suc n
        → (cond b 1 0) + live_count xs < suc n
    go true ih k h = let m = ih (le_of_suc-le-suc h) in omega arith
    go false ih k h = omega arith

-- a live place is one of the plan's
pub live_below : (n : ℕ) (xs : List Assembly) (p : ℕ) (d : Assembly) → all (λ a. not (live a)) (drop n xs) ≡ true → p < length xs
    → live (get_or xs p d) ≡ true → p < n
unfolding all
live_below n [] p d e h l = absurd (not-suc-le-zero h)
live_below zero (a ∷ xs) zero d e h l =
    absurd (true-false (sym l ∙ not-true (live a) (both_true (not (live a)) (all (λ x. not (live x)) xs) e).0))
live_below zero (a ∷ xs) (suc p) d e h l =
    absurd (not-suc-le-zero (live_below zero xs p d (both_true (not (live a)) (all (λ x. not (live x)) xs) e).1 (le_of_suc-le-suc h) l))
live_below (suc n) (a ∷ xs) zero d e h l = omega arith
live_below (suc n) (a ∷ xs) (suc p) d e h l = let k = live_below n xs p d e (le_of_suc-le-suc h) l in omega arith

module _ (o : Arrival) (xs : List Assembly) where
  -- the key's assembly is there, or it is not
  pub place-of-key : any (matches o) xs ≡ true → place_for o xs ≡ first_index (matches o) xs
  unfolding place_for
  place-of-key e = cond_yes (any (matches o) xs) (first_index (matches o) xs) (first_index (λ a. not (live a)) xs) e

  pub place-free : any (matches o) xs ≡ false → place_for o xs ≡ first_index (λ a. not (live a)) xs
  unfolding place_for
  place-free e = cond_no (any (matches o) xs) (first_index (matches o) xs) (first_index (λ a. not (live a)) xs) e

  -- the place is one of the places, or just past them
  pub place-le : place_for o xs ≤ length xs
  place-le = go (any (matches o) xs) refl
    where
      go : (b : Bool) → any (matches o) xs ≡ b → place_for o xs ≤ length xs
      go true e = omega (arith, place-of-key e, first-le (matches o) xs)
      go false e = omega (arith, place-free e, first-le (λ a. not (live a)) xs)

  -- the key's assembly is one of the places
  key-within : any (matches o) xs ≡ true → place_for o xs < length xs
  key-within e =
      let h : first_index (matches o) xs < length xs = ltb-true _ _ (sym (any-first (matches o) xs) ∙ e) in omega (arith, place-of-key e)

  -- with no live place past the plan there is no room exactly where the place is past it
  pub room-place : (n : ℕ) → all (λ a. not (live a)) (drop n xs) ≡ true → no_room n o xs ≡ leb n (place_for o xs)
  unfolding no_room matches free-at
  room-place n planned = go (any (matches o) xs) refl
    where
      full : (b : Bool) → leb n (free-at xs) ≡ b → leb n (live_count xs) ≡ b
      full true t = le-leb n (live_count xs) (omega (arith, leb-true n (free-at xs) t, free-lives xs))
      full false t = lt-leb n (live_count xs) (lives-free n xs planned (leb-false n (free-at xs) t))

      go : (b : Bool) → any (matches o) xs ≡ b → (not (any (matches o) xs) && leb n (live_count xs)) ≡ leb n (place_for o xs)
      go true e =
          let h = key-within e in
          let k : first_index (matches o) xs < length xs = omega (arith, place-of-key e) in
          let below : place_for o xs < n =
          omega (
            arith,
            place-of-key e,
            live_below n xs (first_index (matches o) xs) fresh_assembly planned k
                (both_true _ _ (first_passes (matches o) xs fresh_assembly k)).0,
          ) in
          ap (λ (b : Bool). not b && leb n (live_count xs)) e ∙ sym (lt-leb n (place_for o xs) below)
      go false e =
          ap (λ (b : Bool). not b && leb n (live_count xs)) e ∙ full (leb n (free-at xs)) refl ∙ sym (ap (leb n) (place-free e))

  -- where there is room within a plan that the record has places for, the place is one of them
  pub room_within : (n : ℕ) → n ≤ length xs → no_room n o xs ≡ false → place_for o xs < length xs
  unfolding no_room free-at
  room_within n few room = go (any (matches o) xs) refl
    where
      go : (b : Bool) → any (matches o) xs ≡ b → place_for o xs < length xs
      go true e = key-within e
      go false e =
          let t : leb n (live_count xs) ≡ false = sym (ap (λ (b : Bool). not b && leb n (live_count xs)) e) ∙ room in
          omega (arith, place-free e, free-lives xs, leb-false n (live_count xs) t)

  -- what stands at the place is live exactly where the key has an assembly
  pub live-place : (d : Assembly) → place_for o xs < length xs → live (get_or xs (place_for o xs) d) ≡ any (matches o) xs
  unfolding matches
  live-place d h = go (any (matches o) xs) refl
    where
      go : (b : Bool) → any (matches o) xs ≡ b → live (get_or xs (place_for o xs) d) ≡ any (matches o) xs
      go true e =
          let q = place-of-key e in
          let k : first_index (matches o) xs < length xs = omega (arith, q) in
          ap (λ (i : ℕ). live (get_or xs i d)) q ∙ (both_true _ _ (first_passes (matches o) xs d k)).0 ∙ sym e
      go false e =
          let q = place-free e in
          let k : first_index (λ a. not (live a)) xs < length xs = omega (arith, q) in
          ap (λ (i : ℕ). live (get_or xs i d)) q ∙ not-true _ (first_passes (λ a. not (live a)) xs d k) ∙ sym e

  pub live_at : (p : ℕ) (d : Assembly) → p ≡ place_for o xs → p < length xs → live (get_or xs p d) ≡ any (matches o) xs
  live_at p d e h =
      let k : place_for o xs < length xs = omega (arith, e) in ap (λ (i : ℕ). live (get_or xs i d)) e ∙ live-place d k
