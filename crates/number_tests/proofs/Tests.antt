-- Laws of tests: what is known where none applies, of some behind others, of two at once, and of a choice by one.
-- Assumes nothing.
use mathlib.Core.Path.{◌≡◌, refl, sym, ap}
use mathlib.Core.Bool.{Bool, true, false, cond, ◌&&◌, ◌||◌}
use mathlib.Core.List.{List, [], ◌∷◌, ◌++◌}
use mathlib.Core.Option.{none, some}
use Prim.Native.Nat.{ℕ}
use native.Mathlib.Omega.{arith}
use Rattle.number_tests.specs.Tests.{first_of}

-- where no test applies, the first does not, and none of the others
pub first-none : (x : Bool × ℕ) (xs : List (Bool × ℕ)) → first_of (x ∷ xs) ≡ none → (x.0 ≡ false) × (first_of xs ≡ none)
unfolding first_of
first-none x xs = go x.0 refl
  where
    go : (t : Bool) → x.0 ≡ t → cond t (some x.1) (first_of xs) ≡ none → (x.0 ≡ false) × (first_of xs ≡ none)
    go true e q = absurd (let z : ◌≡◌ {A = ℕ} 0 1 = cc in omega arith)
    go false e q = (e, q)

-- tests behind others: the first that applies of those in front decides, and where none does the rest
pub first-front : (xs ys : List (Bool × ℕ)) (n : ℕ) → first_of xs ≡ some n → first_of (xs ++ ys) ≡ some n
unfolding first_of
first-front [] ys n e = let z : ◌≡◌ {A = ℕ} 0 1 = cc in absurd (omega arith)
first-front (x ∷ xs) ys n e = go x.0 (first-front xs ys n) e
  where
    go : (t : Bool) → (first_of xs ≡ some n → first_of (xs ++ ys) ≡ some n) → cond t (some x.1) (first_of xs) ≡ some n
        → cond t (some x.1) (first_of (xs ++ ys)) ≡ some n
    go true ih q = q
    go false ih q = ih q

pub first-behind : (xs ys : List (Bool × ℕ)) → first_of xs ≡ none → first_of (xs ++ ys) ≡ first_of ys
unfolding first_of
first-behind [] ys e = refl
first-behind (x ∷ xs) ys e = go x.0 (first-behind xs ys) e
  where
    go : (t : Bool) → (first_of xs ≡ none → first_of (xs ++ ys) ≡ first_of ys) → cond t (some x.1) (first_of xs) ≡ none
        → cond t (some x.1) (first_of (xs ++ ys)) ≡ first_of ys
    go true ih q = let z : ◌≡◌ {A = ℕ} 0 1 = cc in absurd (omega arith)
    go false ih q = ih q

pub true-false : true ≡ false → ⊥
true-false e = let z : ◌≡◌ {A = ℕ} 0 1 = cc in omega arith

pub both_true : (a b : Bool) → a && b ≡ true → (a ≡ true) × (b ≡ true)
both_true true b e = (refl, e)
both_true false b e = absurd (true-false (sym e))

pub both_false : (a b : Bool) → a || b ≡ false → (a ≡ false) × (b ≡ false)
both_false true b e = absurd (true-false e)
both_false false b e = (refl, e)

module _ {ℓ} {A : Type ℓ} where
  pub cond_yes : (b : Bool) (x y : A) → b ≡ true → cond b x y ≡ x
  cond_yes b x y e = ap (λ (t : Bool). cond t x y) e

  pub cond_no : (b : Bool) (x y : A) → b ≡ false → cond b x y ≡ y
  cond_no b x y e = ap (λ (t : Bool). cond t x y) e

  -- what holds of both holds of the one taken
  pub cond_either {κ} : (P : A → Type κ) (b : Bool) (x y : A) → P x → P y → P (cond b x y)
  cond_either P true x y p q = p
  cond_either P false x y p q = q
