-- Laws that the proofs of this crate share: a comparison of times, and a list whose elements are replaced from the front.
-- Assumes nothing.
use mathlib.Core.Path.{◌≡◌, refl, sym, ap, ◌∙◌}
use mathlib.Core.Bool.{Bool, true, false}
use mathlib.Core.List.{List, [], ◌∷◌, ◌++◌, map}
use mathlib.Core.Logic.{◌⊎◌, inl, inr}
use Prim.Native.Nat.{ℕ, zero, suc, ◌+◌, ◌-◌, ◌<◌, ◌≤◌}
use native.Mathlib.Nat.{not-suc-le-zero, le_of_suc-le-suc}
use native.Mathlib.Numerals.{add-one}
use native.Mathlib.Omega.{arith}
use lib.Dec.{leb}
use lib.ListN.{length, take, drop, get_or, set}
use Rattle.std.proofs.lemmas.List.Edits.{map_over_more}
use borrow.Author.Tests.{leb-true, leb-false, le-leb, lt-leb}

-- t is at least k behind o: where it is not in front of o, or k is not 0
pub behind : (o t k : ℕ) → (o ≤ t) ⊎ (0 < k) → leb k (t - o) ≡ leb (o + k) t
behind o t k h = go (leb k (t - o)) refl
  where
    reached : (o ≤ t) ⊎ (0 < k) → k ≤ t - o → o + k ≤ t
    reached (inl after) p = omega arith
    reached (inr some) p = omega arith

    go : (b : Bool) → leb k (t - o) ≡ b → leb k (t - o) ≡ leb (o + k) t
    go true e = let p : k ≤ t - o = leb-true k (t - o) e in e ∙ sym (le-leb (o + k) t (reached h p))
    go false e = let p : t - o < k = leb-false k (t - o) e in e ∙ sym (lt-leb (o + k) t (omega arith))

-- within a list the default does not matter
pub get_d_any {ℓ} : {A : Type ℓ} (l : List A) (i : ℕ) (d e : A) → i < length l → get_or l i d ≡ get_or l i e
get_d_any [] i d e h = absurd (not-suc-le-zero h)
get_d_any (x ∷ l) zero d e h = refl
get_d_any (x ∷ l) (suc i) d e h = get_d_any l i d e (le_of_suc-le-suc h)

module _ {ℓ} {A : Type ℓ} (f : A → A) where
  -- the first i elements are replaced
  abbrev pub front-mapped : List A → ℕ → List A
  front-mapped l i = map f (take i l) ++ drop i l

  mapped-suc : (l : List A) (i : ℕ) (d : A) → i < length l → set (front-mapped l i) i (f (get_or l i d)) ≡ front-mapped l (suc i)
  mapped-suc [] i d h = absurd (not-suc-le-zero h)
  mapped-suc (x ∷ l) zero d h = refl
  mapped-suc (x ∷ l) (suc i) d h = ap (λ (t : List A). f x ∷ t) (mapped-suc l i d (le_of_suc-le-suc h))

  -- one more
  pub mapped_next : (l : List A) (i : ℕ) (d : A) → i < length l → set (front-mapped l i) i (f (get_or l i d)) ≡ front-mapped l (i + 1)
  mapped_next l i d h = mapped-suc l i d h ∙ ap (front-mapped l) (sym (add-one i))

  -- all
  pub mapped-all : (l : List A) (i : ℕ) → i ≡ length l → front-mapped l i ≡ map f l
  mapped-all l i e = ap (front-mapped l) e ∙ go l
    where
      go : (m : List A) → front-mapped m (length m) ≡ map f m
      go [] = refl
      go (x ∷ m) = ap (λ (t : List A). f x ∷ t) (go m)

-- what is read is read again where it stands past the end too
read-again : {A : Type 0} (ys : List A) (i : ℕ) (d : A) → get_or ys i d ≡ get_or ys i (get_or ys i d)
read-again [] i d = refl
read-again (y ∷ ys) zero d = refl
read-again (y ∷ ys) (suc i) d = read-again ys i d

-- one more of a list under way, each by f of what stands in it
pub mapped_in_place : {A : Type 0} (f : A → A) (xs ys : List A) (i : ℕ) (d : A) → i < length xs → ys ≡ front-mapped f xs i
    → set ys i (f (get_or ys i d)) ≡ front-mapped f xs (i + 1)
mapped_in_place f xs ys i d lt e = map_over_more f xs ys i (get_or ys i d) lt e (read-again ys i d)
