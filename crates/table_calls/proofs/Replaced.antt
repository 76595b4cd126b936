-- A list of records that is replaced from the front, each by f of itself.
-- Assumes nothing.
use Prim.Native.Nat.{ℕ, zero, suc, ◌+◌, ◌<◌, ◌≤◌}
use mathlib.Core.Path.{◌≡◌, refl, sym, ap, ap₂, ◌∙◌, subst}
use mathlib.Core.List.{List, [], ◌∷◌, ◌++◌, map, append-nil}
use native.Mathlib.Nat.{not-suc-le-zero, le_of_suc-le-suc}
use native.Mathlib.Numerals.{add-one}
use lib.ListN.{length, take, drop, get_or, set, drop_of_length-le}
use lib.Seq.{take_all}

module _ {A : Type 0} (f : A → A) where
  abbrev pub replaced : ℕ → List A → List A
  replaced n d = map f (take n d) ++ drop n d

  -- the next one is still as it was
  pub replaced-at : (n : ℕ) (d : List A) (x : A) → n < length d → get_or (replaced n d) n x ≡ get_or d n x
  replaced-at n [] x l = absurd (not-suc-le-zero l)
  replaced-at zero (y ∷ d) x l = refl
  replaced-at (suc n) (y ∷ d) x l = replaced-at n d x (le_of_suc-le-suc l)

  replaced-suc : (n : ℕ) (d : List A) (x : A) → n < length d → set (replaced n d) n (f (get_or d n x)) ≡ replaced (suc n) d
  replaced-suc n [] x l = absurd (not-suc-le-zero l)
  replaced-suc zero (y ∷ d) x l = refl
  replaced-suc (suc n) (y ∷ d) x l = ap (λ (t : List A). f y ∷ t) (replaced-suc n d x (le_of_suc-le-suc l))

  pub replaced-more : (n : ℕ) (d : List A) (x : A) → n < length d → set (replaced n d) n (f (get_or d n x)) ≡ replaced (n + 1) d
  replaced-more n d x l = subst (λ (k : ℕ). set (replaced n d) n (f (get_or d n x)) ≡ replaced k d) (sym (add-one n)) (replaced-suc n d x l)

  -- to the end
  pub replaced-all : (n : ℕ) (d : List A) → length d ≤ n → replaced n d ≡ map f d
  replaced-all n d h =
      ap₂ (λ (u v : List A). map f u ++ v) (take_all n d h) (drop_of_length-le d h) ∙ append-nil (map f d)
