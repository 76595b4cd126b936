-- Laws of Boolean tests: two comparisons that say the same, and conjunctions.
-- Assumes nothing.
use mathlib.Core.Path.{◌≡◌, refl, sym, ap, ◌∙◌}
use mathlib.Core.Bool.{Bool, true, false, ◌&&◌, and_assoc, and-true, and-false}
use Prim.Native.Nat.{ℕ, ◌+◌, ◌-◌, ◌<◌, ◌≤◌}
use native.Mathlib.Omega.{arith}
use lib.Dec.{eqb, leb, ltb}
use borrow.Author.Tests.{ltb-true, ltb-false, eqb-true, lt-ltb, le-ltb, le-leb, lt-leb}

-- two comparisons, each true where the other is
pub same_test : (a b c d : ℕ) → (a < b → c < d) → (b ≤ a → d ≤ c) → ltb a b ≡ ltb c d
same_test a b c d f g = go (ltb a b) refl
  where
    go : (t : Bool) → ltb a b ≡ t → ltb a b ≡ ltb c d
    go true e = e ∙ sym (lt-ltb c d (f (ltb-true a b e)))
    go false e = e ∙ sym (le-ltb c d (g (ltb-false a b e)))

-- t is at or behind o, and less than k behind it
pub within : (o t k : ℕ) → o ≤ t → ltb (t - o) k ≡ leb o t && ltb t (o + k)
within o t k h =
    same_test (t - o) k t (o + k) (λ p. omega arith) (λ p. omega arith) ∙ sym (ap (λ (b : Bool). b && ltb t (o + k)) (le-leb o t h))

-- three tests at once, and then the others
pub front-three : (a b c d : Bool) → a && (b && (c && d)) ≡ (a && (b && c)) && d
front-three true b c d = sym (and_assoc b c d)
front-three false b c d = refl

-- a sum is the offered bytes, at most l: not where either is over l
pub over-offered : (s o l : ℕ) → l < o → eqb s o && leb o l ≡ false
over-offered s o l h = ap (λ (b : Bool). eqb s o && b) (lt-leb o l h) ∙ and-false (eqb s o)

pub over-sum : (s o l : ℕ) → l < s → eqb s o && leb o l ≡ false
over-sum s o l h = go (eqb s o) refl
  where
    go : (t : Bool) → eqb s o ≡ t → t && leb o l ≡ false
    go true e = let q : s ≡ o = eqb-true s o e in lt-leb o l (omega arith)
    go false e = refl

pub not-over : (s o l : ℕ) → o ≤ l → eqb s o ≡ eqb s o && leb o l
not-over s o l h = sym (ap (λ (b : Bool). eqb s o && b) (le-leb o l h) ∙ and-true (eqb s o))
