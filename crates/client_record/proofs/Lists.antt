-- Laws of the tests and sums over lists: what one more element adds, and the list of a loop that goes through the front of an array.
-- Assumes nothing.
use mathlib.Core.Path.{◌≡◌, refl, sym, ap, ap₂, ◌∙◌}
use mathlib.Core.Bool.{Bool, true, false, not, ◌&&◌, ◌||◌, and-true, and_assoc, or-false, or_assoc}
use mathlib.Core.List.{List, [], ◌∷◌, ◌++◌, map}
use Prim.Native.Nat.{ℕ, zero, suc, ◌+◌, ◌<◌, ◌≤◌}
use native.Mathlib.Numerals.{add-one}
use native.Mathlib.Omega.{arith}
use native.Mathlib.Nat.{not-suc-le-zero, le_of_suc-le-suc}
use lib.Dec.{eqb, ltb, leb-suc-suc}
use lib.ListN.{length, take, drop, get_or, length-take, length-map, take-append-drop, drop_of_length-le}
use lib.Seq.{take-suc, drop-cons, get_or-take}
use borrow.Author.Tests.{lt-ltb, le-ltb}
use Rattle.number_tests.proofs.Tests.{true-false, both_true}
use Rattle.client_record.specs.Lists.{same_bytes, all, any, pairs, sum}

-- the middle two change sides
pub and-middle : (a b c d : Bool) → (a && b) && (c && d) ≡ (a && c) && (b && d)
and-middle true true c d = refl
and-middle true false true d = refl
and-middle true false false d = refl
and-middle false b c d = refl

module _ {ℓ} {A : Type ℓ} where
  -- one more element of the front of a list
  pub take_next : (l : List A) (i : ℕ) (d : A) → i < length l → take (i + 1) l ≡ take i l ++ (get_or l i d ∷ [])
  take_next l i d h = rw (add-one, take-suc l i d)

  pub all_append : (p : A → Bool) (l m : List A) → all p (l ++ m) ≡ all p l && all p m
  unfolding all
  all_append p [] m = refl
  all_append p (x ∷ l) m = ap (λ (b : Bool). p x && b) (all_append p l m) ∙ sym (and_assoc (p x) (all p l) (all p m))

  -- what all behind the first n pass, where one more element joins
  pub all-behind : (p : A → Bool) (n : ℕ) (l : List A) (x : A) → all p (drop n (l ++ (x ∷ []))) ≡ all p (drop n l) && (ltb (length l) n || p x)
  unfolding all
  all-behind p zero l x =
      all_append p l (x ∷ []) ∙ ap (λ (b : Bool). all p l && b) (and-true (p x) ∙ sym (ap (λ (b : Bool). b || p x) (le-ltb (length l) 0 (omega arith))))
  all-behind p (suc n) [] x =
      ap (all p) (drop_of_length-le [] {i = n} (omega arith))
      ∙ sym (ap (λ (b : Bool). b || p x) (lt-ltb 0 (suc n) (omega arith)))
  all-behind p (suc n) (y ∷ l) x =
      all-behind p n l x ∙ ap (λ (b : Bool). all p (drop n l) && (b || p x)) (sym (leb-suc-suc (suc (length l)) n))

  pub any_append : (p : A → Bool) (l m : List A) → any p (l ++ m) ≡ any p l || any p m
  unfolding any
  any_append p [] m = refl
  any_append p (x ∷ l) m = ap (λ (b : Bool). p x || b) (any_append p l m) ∙ sym (or_assoc (p x) (any p l) (any p m))

  pub sum-append : (f : A → ℕ) (l m : List A) → sum f (l ++ m) ≡ sum f l + sum f m
  unfolding sum
  sum-append f [] m = omega arith
  sum-append f (x ∷ l) m = omega (arith, sum-append f l m)

  pub pairs-append : (q : A → A → Bool) (l : List A) (x : A) → pairs q (l ++ (x ∷ [])) ≡ pairs q l && all (λ y. q y x) l
  unfolding pairs all
  pairs-append q [] x = refl
  pairs-append q (y ∷ l) x =
      ap₂ ◌&&◌ (all_append (q y) l (x ∷ []) ∙ ap (λ (b : Bool). all (q y) l && b) (and-true (q y x))) (pairs-append q l x)
      ∙ and-middle (all (q y) l) (q y x) (pairs q l) (all (λ z. q z x) l)

  -- no element passes: every one fails
  pub all-not : (p : A → Bool) (l : List A) → all (λ x. not (p x)) l ≡ not (any p l)
  unfolding all any
  all-not p [] = refl
  all-not p (x ∷ l) = go (p x) (all-not p l)
    where
      go : (b : Bool) → all (λ y. not (p y)) l ≡ not (any p l) → (not b && all (λ y. not (p y)) l) ≡ not (b || any p l)
      go true e = refl
      go false e = e

  pub all_pass : (p : A → Bool) → ((x : A) → p x ≡ true) → (l : List A) → all p l ≡ true
  unfolding all
  all_pass p h [] = refl
  all_pass p h (x ∷ l) = ap₂ ◌&&◌ (h x) (all_pass p h l)

  -- one passes a test, and all pass another that does not go with it
  pub never_both : (p q : A → Bool) → ((x : A) → p x ≡ true → q x ≡ true → ⊥) → (l : List A) → any p l ≡ true → all q l ≡ true → ⊥
  unfolding any all
  never_both p q h [] e f = true-false (sym e)
  never_both p q h (x ∷ l) e f = let b = both_true (q x) (all q l) f in go (p x) refl e (λ k. h x k b.0) (λ k. never_both p q h l k b.1)
    where
      go : (t : Bool) → p x ≡ t → t || any p l ≡ true → (p x ≡ true → ⊥) → (any p l ≡ true → ⊥) → ⊥
      go true k e here behind = here k
      go false k e here behind = behind e

  -- what two relations of each pair, and a test of each element, say of the pairs
  pub pairs_of : (p : A → Bool) (q r s : A → A → Bool)
      → ((x y : A) → p x ≡ true → p y ≡ true → q x y ≡ true → r x y ≡ true → s x y ≡ true)
      → (l : List A) → all p l ≡ true → pairs q l ≡ true → pairs r l ≡ true → pairs s l ≡ true
  unfolding pairs all
  pairs_of p q r s h [] e f g = refl
  pairs_of p q r s h (x ∷ l) e f g =
      let a = both_true (p x) (all p l) e in
      let b = both_true (all (q x) l) (pairs q l) f in
      let c = both_true (all (r x) l) (pairs r l) g in
      ap₂ ◌&&◌ (row l a.1 b.0 c.0) (pairs_of p q r s h l a.1 b.1 c.1)
    where
      here : p x ≡ true
      here = (both_true (p x) (all p l) e).0

      row : (m : List A) → all p m ≡ true → all (q x) m ≡ true → all (r x) m ≡ true → all (s x) m ≡ true
      row [] e f g = refl
      row (y ∷ m) e f g =
          let a = both_true (p y) (all p m) e in
          let b = both_true (q x y) (all (q x) m) f in
          let c = both_true (r x y) (all (r x) m) g in
          ap₂ ◌&&◌ (h x y here a.0 b.0 c.0) (row m a.1 b.1 c.1)

  -- what holds of each pair holds of the pairs of the front
  pub pairs-front : (q : A → A → Bool) (l m : List A) → pairs q (l ++ m) ≡ true → pairs q l ≡ true
  unfolding pairs
  pairs-front q [] m e = refl
  pairs-front q (x ∷ l) m e =
      let b = both_true (all (q x) (l ++ m)) (pairs q (l ++ m)) e in
      ap₂ ◌&&◌ (both_true (all (q x) l) (all (q x) m) (sym (all_append (q x) l m) ∙ b.0)).0 (pairs-front q l m b.1)

  -- and what all pass, the front passes
  pub all-front : (p : A → Bool) (l : List A) (i : ℕ) → all p l ≡ true → all p (take i l) ≡ true
  all-front p l i e =
      (both_true (all p (take i l)) (all p (drop i l)) (sym (all_append p (take i l) (drop i l)) ∙ ap (all p) (take-append-drop i l) ∙ e)).0

  pub both-all : (p q : A → Bool) (l : List A) → all p l ≡ true → all q l ≡ true → all (λ x. p x && q x) l ≡ true
  unfolding all
  both-all p q [] e f = refl
  both-all p q (x ∷ l) e f =
      let a = both_true (p x) (all p l) e in
      let b = both_true (q x) (all q l) f in
      ap₂ ◌&&◌ (ap₂ ◌&&◌ a.0 b.0) (both-all p q l a.1 b.1)

  -- what a test or a sum of the first elements becomes with the next one
  module _ (l : List A) (i : ℕ) (d : A) (h : i < length l) where
    pub all-next : (p : A → Bool) → all p (take (i + 1) l) ≡ all p (take i l) && p (get_or l i d)
    unfolding all
    all-next p =
        ap (all p) (take_next l i d h) ∙ all_append p (take i l) (get_or l i d ∷ [])
        ∙ ap (λ (b : Bool). all p (take i l) && b) (and-true (p (get_or l i d)))

    pub any_next : (p : A → Bool) → any p (take (i + 1) l) ≡ any p (take i l) || p (get_or l i d)
    unfolding any
    any_next p =
        ap (any p) (take_next l i d h) ∙ any_append p (take i l) (get_or l i d ∷ [])
        ∙ ap (λ (b : Bool). any p (take i l) || b) (or-false (p (get_or l i d)))

    pub sum-next : (f : A → ℕ) → sum f (take (i + 1) l) ≡ sum f (take i l) + f (get_or l i d)
    unfolding sum
    sum-next f = ap (sum f) (take_next l i d h) ∙ sum-append f (take i l) (get_or l i d ∷ []) ∙ omega arith

    pub pairs_next : (q : A → A → Bool) → pairs q (take (i + 1) l) ≡ pairs q (take i l) && all (λ y. q y (get_or l i d)) (take i l)
    pairs_next q = ap (pairs q) (take_next l i d h) ∙ pairs-append q (take i l) (get_or l i d)

    -- what is left of a list, with its first element apart
    pub drop-next : drop i l ≡ get_or l i d ∷ drop (i + 1) l
    drop-next = rw (add-one, drop-cons l i d)

    pub all_left : (p : A → Bool) → all p (drop i l) ≡ p (get_or l i d) && all p (drop (i + 1) l)
    unfolding all
    all_left p = ap (all p) drop-next

  -- the front of an array: its length, and its elements
  pub length_front : (n : ℕ) (l : List A) → length (take n l) ≤ length l
  length_front n l = omega (arith, length-take n l)

  pub front_below : (n : ℕ) (l : List A) → length (take n l) ≤ n
  front_below n l = omega (arith, length-take n l)

  pub get_d_front : (n : ℕ) (l : List A) (i : ℕ) (d : A) → i < length (take n l) → get_or (take n l) i d ≡ get_or l i d
  get_d_front n l i d h = get_or-take n l i d (omega (arith, front_below n l))

  -- what stands behind the front
  pub drop-front : (n : ℕ) (l : List A) → drop (length (take n l)) l ≡ drop n l
  drop-front zero l = refl
  drop-front (suc n) [] = refl
  drop-front (suc n) (x ∷ l) = drop-front n l

-- the length of an array as its relation has it, element by element
pub unmapped {ℓ ℓ'} : {A : Type ℓ} {B : Type ℓ'} (f : A → B) (l : List A) (n : ℕ) → length (map f l) ≡ n → length l ≡ n
unmapped f l n e = sym (length-map l f) ∙ e

-- the comparison of the first bytes, with the next one
same-suc : (a b : List ℕ) (i : ℕ) → i < length a → i < length b
    → same_bytes (take (suc i) a) (take (suc i) b) ≡ same_bytes (take i a) (take i b) && eqb (get_or a i 0) (get_or b i 0)
unfolding same_bytes
same-suc [] b i h k = absurd (not-suc-le-zero h)
same-suc (x ∷ a) [] i h k = absurd (not-suc-le-zero k)
same-suc (x ∷ a) (y ∷ b) zero h k = and-true (eqb x y)
same-suc (x ∷ a) (y ∷ b) (suc i) h k =
    ap (λ (t : Bool). eqb x y && t) (same-suc a b i (le_of_suc-le-suc h) (le_of_suc-le-suc k))
    ∙ sym (and_assoc (eqb x y) (same_bytes (take i a) (take i b)) (eqb (get_or a i 0) (get_or b i 0)))

pub same_next : (a b : List ℕ) (i : ℕ) → i < length a → i < length b
    → same_bytes (take (i + 1) a) (take (i + 1) b) ≡ same_bytes (take i a) (take i b) && eqb (get_or a i 0) (get_or b i 0)
same_next a b i h k = ap (λ (n : ℕ). same_bytes (take n a) (take n b)) (add-one i) ∙ same-suc a b i h k
