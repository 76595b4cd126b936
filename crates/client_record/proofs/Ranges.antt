-- Laws of ranges. That of R-3 is by counting: ranges without overlap hold as many places before n as their sizes sum to, if none ends past n, and n
-- places before n are all of them.
-- Assumes nothing.
use Prim.Native.Nat.{ℕ, zero, suc, ◌+◌, ◌-◌, ◌<◌, ◌≤◌}
use mathlib.Core.Path.{◌≡◌, refl, sym, ap, ap₂, ◌∙◌}
use mathlib.Core.Bool.{Bool, true, false, not, ◌&&◌, ◌||◌, or-false}
use mathlib.Core.List.{List, [], ◌∷◌}
use native.Mathlib.Nat.{not-suc-le-zero}
use native.Mathlib.Omega.{arith}
use lib.Dec.{leb, ltb}
use borrow.Author.Tests.{leb-true, leb-false, ltb-true, ltb-false, lt-ltb, not-true}
use Rattle.number_tests.proofs.Tests.{true-false, both_true, both_false}
use Rattle.client_record.specs.Lists.{all, any, pairs, sum}
use Rattle.client_record.specs.Ranges.{holds, meets, Inside, Covered, SumLaw}

-- a place counts where it is held
abbrev one : Bool → ℕ
one true = 1
one false = 0

one_of : (a b : Bool) → (a ≡ true → b ≡ false) → one (a || b) ≡ one a + one b
one_of true b h = omega (arith, ap one (h refl))
one_of false b h = omega arith

module _ {A : Type 0} (start size : A → ℕ) where
  abbrev stop : A → ℕ
  stop x = start x + size x

  -- ---- two ranges

  -- a place in both makes them meet
  pub held-meets : (i : ℕ) (x y : A) → holds start size i x ≡ true → holds start size i y ≡ true → meets start size x y ≡ true
  unfolding holds meets
  held-meets i x y p q =
      let f = both_true (leb (start x) i) (ltb i (stop x)) p in
      let g = both_true (leb (start y) i) (ltb i (stop y)) q in
      ap₂ ◌&&◌ (lt-ltb (start x) (stop y) (omega (arith, leb-true (start x) i f.0, ltb-true i (stop y) g.1)))
      (lt-ltb (start y) (stop x) (omega (arith, leb-true (start y) i g.0, ltb-true i (stop x) f.1)))

  -- where one of them may be marked last: what two have that do not contradict each other
  module _ (last : A → Bool) where
    abbrev contradicts : A → A → Bool
    contradicts x y =
        meets start size x y || ((last x && last y) || ((last y && ltb (stop y) (stop x)) || (last x && ltb (stop x) (stop y))))

    pub record Agree (x y : A) : Type 0 where
      pub apart : meets start size x y ≡ false
      pub one_last : last x ≡ true → last y ≡ true → ⊥
      pub first_ends : last y ≡ true → stop x ≤ stop y
      pub second-ends : last x ≡ true → stop y ≤ stop x

    pub agree : (x y : A) → contradicts x y ≡ false → Agree x y
    agree x y h =
        let a = both_false (meets start size x y) _ h in
        let b = both_false (last x && last y) _ a.1 in
        let c = both_false (last y && ltb (stop y) (stop x)) _ b.1 in
        record {
          apart = a.0;
          one_last = λ p q. true-false (sym (ap₂ ◌&&◌ p q) ∙ b.0);
          first_ends = λ p. ltb-false (stop y) (stop x) (sym (ap (λ (z : Bool). z && ltb (stop y) (stop x)) p) ∙ c.0);
          second-ends = λ p. ltb-false (stop x) (stop y) (sym (ap (λ (z : Bool). z && ltb (stop x) (stop y)) p) ∙ c.1);
        }

  -- ---- how many places before n are held

  count : ℕ → List A → ℕ
  count zero xs = 0
  count (suc n) xs = count n xs + one (any (holds start size n) xs)

  count_most : (n : ℕ) (xs : List A) → count n xs ≤ n
  unfolding count
  count_most zero xs = omega arith
  count_most (suc n) xs = go (any (holds start size n) xs) (count_most n xs)
    where
      go : (b : Bool) → count n xs ≤ n → count n xs + one b ≤ suc n
      go true h = omega arith
      go false h = omega arith

  -- ---- n of them are all of them

  count-covers : (n : ℕ) (xs : List A) → count n xs ≡ n → Covered start size n xs
  unfolding count
  count-covers zero xs e i h = absurd (not-suc-le-zero h)
  count-covers (suc n) xs e i h = go (any (holds start size n) xs) refl (ltb i n) refl e (λ k l. count-covers n xs k i l)
    where
      go : (b : Bool) → any (holds start size n) xs ≡ b → (t : Bool) → ltb i n ≡ t → count n xs + one b ≡ suc n
          → (count n xs ≡ n → i < n → any (holds start size i) xs ≡ true) → any (holds start size i) xs ≡ true
      go true p true q e ih = ih (omega arith) (ltb-true i n q)
      go true p false q e ih =
          let same : i ≡ n = omega (arith, ltb-false i n q) in ap (λ (j : ℕ). any (holds start size j) xs) same ∙ p
      go false p t q e ih = absurd (omega (arith, count_most n xs))

  covers-count : (n : ℕ) (xs : List A) → Covered start size n xs → count n xs ≡ n
  unfolding count
  covers-count zero xs c = refl
  covers-count (suc n) xs c =
      let before : count n xs ≡ n = covers-count n xs (λ i h. c i (omega arith)) in
      let here : one (any (holds start size n) xs) ≡ 1 = ap one (c n (omega arith)) in
      omega arith

  -- ---- they are as many as the sizes sum to

  -- a place that one range holds is in none that does not meet it
  held-once : (i : ℕ) (x : A) (xs : List A) → all (λ y. not (meets start size x y)) xs ≡ true → holds start size i x ≡ true
      → any (holds start size i) xs ≡ false
  unfolding all any
  held-once i x [] h e = refl
  held-once i x (y ∷ xs) h e = go (holds start size i y) refl (held-once i x xs b.1 e)
    where
      b : (not (meets start size x y) ≡ true) × (all (λ z. not (meets start size x z)) xs ≡ true)
      b = both_true (not (meets start size x y)) (all (λ z. not (meets start size x z)) xs) h

      go : (t : Bool) → holds start size i y ≡ t → any (holds start size i) xs ≡ false → t || any (holds start size i) xs ≡ false
      go true p ih = absurd (true-false (sym (held-meets i x y e p) ∙ not-true (meets start size x y) b.0))
      go false p ih = ih

  count-cons : (n : ℕ) (x : A) (xs : List A) → all (λ y. not (meets start size x y)) xs ≡ true
      → count n (x ∷ xs) ≡ count n (x ∷ []) + count n xs
  unfolding any count
  count-cons zero x xs h = omega arith
  count-cons (suc n) x xs h =
      let here = one_of (holds start size n x) (any (holds start size n) xs) (held-once n x xs h) in
      let alone = ap one (or-false (holds start size n x)) in
      omega (arith, count-cons n x xs h, here, alone)

  -- one range by itself: the places before n and behind its start, but for those behind its end
  count-one : (n : ℕ) (x : A) → count n (x ∷ []) ≡ (n - start x) - (n - stop x)
  unfolding any holds count
  count-one zero x = omega arith
  count-one (suc n) x = go (leb (start x) n) refl (ltb n (stop x)) refl (count-one n x)
    where
      go : (a : Bool) → leb (start x) n ≡ a → (b : Bool) → ltb n (stop x) ≡ b → count n (x ∷ []) ≡ (n - start x) - (n - stop x)
          → count n (x ∷ []) + one ((a && b) || false) ≡ (suc n - start x) - (suc n - stop x)
      go true p true q e = omega (arith, leb-true (start x) n p, ltb-true n (stop x) q)
      go true p false q e = omega (arith, leb-true (start x) n p, ltb-false n (stop x) q)
      go false p b q e = omega (arith, leb-false (start x) n p)

  count_none : (n : ℕ) → count n [] ≡ 0
  unfolding any count
  count_none zero = refl
  count_none (suc n) = omega (arith, count_none n)

  count-sum : (n : ℕ) (xs : List A) → Inside start size n xs → count n xs ≡ sum size xs
  unfolding all pairs sum
  count-sum n [] h = count_none n
  count-sum n (x ∷ xs) h =
      let ends = both_true (leb (stop x) n) (all (λ y. leb (stop y) n) xs) h.within in
      let clear = both_true (all (λ y. not (meets start size x y)) xs) (pairs (λ y z. not (meets start size y z)) xs) h.apart in
      let rest = count-sum n xs (record { within = ends.1; apart = clear.1 }) in
      omega (arith, count-cons n x xs clear.0, count-one n x, leb-true (stop x) n ends.0, rest)

  -- ---- the law

  pub sum-law : (n : ℕ) (xs : List A) → Inside start size n xs → SumLaw start size n xs
  sum-law n xs h = record {
    covers = λ e. count-covers n xs (count-sum n xs h ∙ e);
    sums = λ c. sym (count-sum n xs h) ∙ covers-count n xs c;
  }
