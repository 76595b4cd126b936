-- Laws of the classes of kinds.
-- Assumes nothing.
use mathlib.Core.Path.{◌≡◌, refl, sym, ap, subst, ◌∙◌}
use mathlib.Core.Bool.{Bool, true, false, cond}
use Prim.Native.Nat.{ℕ, ◌≤◌}
use native.Mathlib.Omega.{arith}
use borrow.Author.Tests.{ne_eqb, le-leb, lt-leb, eqb-true, eqb-false}
use lib.Dec.{eqb, leb}
use Rattle.number_tests.proofs.Tests.{true-false}
use Rattle.wire_step.specs.Kinds.{class_of, eol, nop}
use Rattle.wire_step.specs.declared.Class.{Class}
use Rattle.wire_step.specs.declared.Class.TheVariants.{EndOfList, NoOperation, Fixed, Varying, Unsafe}

-- kinds from 9 on have no case of their own
above : (k : ℕ) → 9 ≤ k → class_of k ≡ cond (leb k 191) Varying Unsafe
unfolding class_of
above k h =
    simp (
      ne_eqb k 0 (λ e. omega arith),
      ne_eqb k 1 (λ e. omega arith),
      ne_eqb k 2 (λ e. omega arith),
      ne_eqb k 3 (λ e. omega arith),
      ne_eqb k 4 (λ e. omega arith),
      ne_eqb k 5 (λ e. omega arith),
      ne_eqb k 6 (λ e. omega arith),
      ne_eqb k 7 (λ e. omega arith),
      ne_eqb k 8 (λ e. omega arith),
    )

pub class-varying : (k : ℕ) → 9 ≤ k → k ≤ 191 → class_of k ≡ Varying
class-varying k h g = simp (above k h, le-leb k 191 g)

pub class-unsafe : (k : ℕ) → 192 ≤ k → class_of k ≡ Unsafe
class-unsafe k h = simp (above k (omega arith), lt-leb k 191 (omega arith))

pub class-token : (k : ℕ) → 6 ≤ k → k ≤ 7 → class_of k ≡ Fixed 6 6
unfolding class_of
class-token k h g = go (eqb k 6) (eqb k 7) refl refl
  where
    go : (s t : Bool) → eqb k 6 ≡ s → eqb k 7 ≡ t → class_of k ≡ Fixed 6 6
    go true t e f = ap class_of (eqb-true k 6 e)
    go false true e f = ap class_of (eqb-true k 7 f)
    go false false e f = absurd (omega (arith, eqb-false k 6 e, eqb-false k 7 f))

-- ---- EOL and NOP

-- what holds of neither an option's class nor an unsafe one
abbrev is_end : Class → Bool
is_end EndOfList = true
is_end NoOperation = false
is_end (Fixed a b) = false
is_end Varying = false
is_end Unsafe = false

abbrev is_nop : Class → Bool
is_nop EndOfList = false
is_nop NoOperation = true
is_nop (Fixed a b) = false
is_nop Varying = false
is_nop Unsafe = false

either : (q : Class → Type 0) (t : Bool) (x y : Class) → q x → q y → q (cond t x y)
either q true x y p r = p
either q false x y p r = r

module _ (k : ℕ) where
  -- the class of a kind other than these two
  abbrev others : Class
  others =
      cond (eqb k 2) (Fixed 6 6)
      (cond (eqb k 3) (Fixed 10 12)
      (cond (eqb k 4) (Fixed 4 4)
      (cond (eqb k 5) (Fixed 5 5)
      (cond (eqb k 6) (Fixed 6 6)
      (cond (eqb k 7) (Fixed 6 6)
      (cond (eqb k 8) (Fixed 10 10)
      (cond (leb k 191) Varying Unsafe)))))))

  others-all : (q : Class → Type 0) → ((a b : ℕ) → q (Fixed a b)) → q (cond (leb k 191) Varying Unsafe) → q others
  others-all q fixed rest =
      either q (eqb k 2) _ _ (fixed 6 6)
      (either q (eqb k 3) _ _ (fixed 10 12)
      (either q (eqb k 4) _ _ (fixed 4 4)
      (either q (eqb k 5) _ _ (fixed 5 5)
      (either q (eqb k 6) _ _ (fixed 6 6)
      (either q (eqb k 7) _ _ (fixed 6 6)
      (either q (eqb k 8) _ _ (fixed 10 10) rest))))))

  others-not : (q : Class → Bool) → ((a b : ℕ) → q (Fixed a b) ≡ false) → q Varying ≡ false → q Unsafe ≡ false → q others ≡ false
  others-not q fixed varying unsafe =
      others-all (λ (c : Class). q c ≡ false) fixed (either (λ (c : Class). q c ≡ false) (leb k 191) Varying Unsafe varying unsafe)

  -- what holds of every class with lengths holds of the class of a kind from 2 to 191
  pub class-sized : (q : Class → Type 0) → 2 ≤ k → k ≤ 191 → ((a b : ℕ) → q (Fixed a b)) → q Varying → q (class_of k)
  unfolding class_of
  class-sized q low high fixed varying =
      subst q (sym (simp (ne_eqb k 0 (λ e. omega arith), ne_eqb k 1 (λ e. omega arith))))
      (others-all q fixed (subst (λ (t : Bool). q (cond t Varying Unsafe)) (sym (le-leb k 191 high)) varying))

  -- no other kind ends the list
  pub class-end : class_of k ≡ EndOfList → k ≡ eol
  unfolding class_of
  class-end e = go (eqb k eol) (eqb k nop) refl (ap is_end e)
    where
      go : (s t : Bool) → eqb k eol ≡ s → is_end (cond s EndOfList (cond t NoOperation others)) ≡ true → k ≡ eol
      go true t p q = eqb-true k eol p
      go false true p q = absurd (true-false (sym q))
      go false false p q = absurd (true-false (sym q ∙ others-not is_end (λ a b. refl) refl refl))

  -- and no other kind is a NOP
  pub class-nop : class_of k ≡ NoOperation → k ≡ nop
  unfolding class_of
  class-nop e = go (eqb k eol) (eqb k nop) refl (ap is_nop e)
    where
      go : (s t : Bool) → eqb k nop ≡ t → is_nop (cond s EndOfList (cond t NoOperation others)) ≡ true → k ≡ nop
      go s true p q = eqb-true k nop p
      go true false p q = absurd (true-false (sym q))
      go false false p q = absurd (true-false (sym q ∙ others-not is_nop (λ a b. refl) refl refl))
