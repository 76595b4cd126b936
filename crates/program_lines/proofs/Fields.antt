-- What is shown of an option's fields is what stands behind its header: each number of its kind, or its body.
-- Assumes nothing.
use mathlib.Core.Path.{◌≡◌, refl, sym, ap, ap₂, ◌∙◌}
use mathlib.Core.Bool.{Bool, true, false}
use mathlib.Core.List.{List, [], ◌∷◌, ◌++◌, append-nil}
use mathlib.Core.Logic.{◌⊎◌, inl, inr, ⊎_elim}
use Prim.Native.Nat.{ℕ, ◌+◌, ◌-◌, ◌≤◌, ◌<◌}
use native.Mathlib.Omega.{arith}
use borrow.Author.Tests.{ne_eqb, eqb-true, ltb-true, ltb-false}
use lib.Dec.{eqb, ltb}
use lib.ListN.{length, take, drop, get_or, length-drop}
use lib.Seq.{take-take, drop-drop}
use Rattle.number_octets.specs.Octets.{number, part}
use Rattle.number_octets.proofs.Laws.{part-take, part-one}
use Rattle.wire_step.specs.Kinds.{class_of, widths_of}
use Rattle.wire_step.specs.Step.{step_of}
use Rattle.wire_step.specs.declared.Class.TheVariants.{Fixed}
use Rattle.wire_step.specs.declared.Step.TheVariants.{Found}
use Rattle.wire_step.proofs.Steps.{step-found}
use Rattle.program_text.specs.Digits.{decimal_of, hex_of}
use Rattle.program_text.specs.Characters.{blank}
use Rattle.program_lines.specs.Lines.{numbers_of, body_of, fields_by, fields_of}

-- ---- where an option stands

pub option-within : (l : List ℕ) (kind h s : ℕ) → step_of l ≡ Found kind h s → (2 ≤ s) × (h ≤ s) × (s ≤ length l)
option-within l kind h s e = let f = step-found l kind h s e in (f.sized.least, f.sized.head, f.sized.fits)

-- an option of a fixed length has a short header
pub fixed-shape : (l : List ℕ) (kind h s n : ℕ) → step_of l ≡ Found kind h s → class_of kind ≡ Fixed n n → n < 255
    → (h ≡ 2) × (s ≡ n) × (n ≤ length l)
fixed-shape l kind h s n e c small =
    let f = step-found l kind h s e in
    let same : s ≡ n = ⊎_elim (λ u. u) (λ u. u) (f.fixed n n c) in
    let short : s < 255 = omega arith in
    (f.sized.short short, same, omega (arith, f.sized.fits))

-- the kinds with one number of four bytes
pub four-of : (k : ℕ) → 4 ≤ k → k < 8 → (k ≡ 4 → ⊥) → (k ≡ 5 → ⊥) → (k ≡ 6) ⊎ (k ≡ 7)
four-of k low high a b = go (ltb k 5) (ltb k 6) (ltb k 7) refl refl refl
  where
    go : (x y z : Bool) → ltb k 5 ≡ x → ltb k 6 ≡ y → ltb k 7 ≡ z → (k ≡ 6) ⊎ (k ≡ 7)
    go true y z p q r = absurd (a (omega (arith, ltb-true k 5 p)))
    go false true z p q r = absurd (b (omega (arith, ltb-false k 5 p, ltb-true k 6 q)))
    go false false true p q r = inl (omega (arith, ltb-false k 6 q, ltb-true k 7 r))
    go false false false p q r = inr (omega (arith, ltb-false k 7 r))

pub four-wide : (k : ℕ) → (k ≡ 2) ⊎ ((k ≡ 6) ⊎ (k ≡ 7)) → (class_of k ≡ Fixed 6 6) × (widths_of k ≡ 4 ∷ [])
unfolding class_of
four-wide k (inl e) = (ap class_of e, ap widths_of e)
four-wide k (inr (inl e)) = (ap class_of e, ap widths_of e)
four-wide k (inr (inr e)) = (ap class_of e, ap widths_of e)

-- ---- numbers

module _ (l : List ℕ) (kind h s : ℕ) (fits : s ≤ length l) where
  pub one_number : (w : ℕ) → widths_of kind ≡ w ∷ [] → h + w ≤ s
      → (blank ∷ []) ++ decimal_of (number (part h w l)) ≡ fields_of kind (part h (s - h) l)
  unfolding numbers_of
  one_number w e inner =
      let body : List ℕ = part h (s - h) l in
      let first : take w body ≡ part h w l = take-take w (s - h) (drop h l) (omega arith) in
      sym (ap (λ (ws : List ℕ). fields_by ws body) e ∙ append-nil ((blank ∷ []) ++ decimal_of (number (take w body)))
      ∙ ap (λ (x : List ℕ). (blank ∷ []) ++ decimal_of (number x)) first)

  pub two-numbers : (v w : ℕ) → widths_of kind ≡ v ∷ w ∷ [] → h + v + w ≤ s
      → ((blank ∷ []) ++ decimal_of (number (part h v l))) ++ ((blank ∷ []) ++ decimal_of (number (part (h + v) w l)))
      ≡ fields_of kind (part h (s - h) l)
  unfolding numbers_of
  two-numbers v w e inner =
      let body : List ℕ = part h (s - h) l in
      let first : take v body ≡ part h v l = take-take v (s - h) (drop h l) (omega arith) in
      let second : take w (drop v body) ≡ part (h + v) w l =
      part-take v w (s - h) (drop h l) (omega arith) (simp length-drop (omega arith)) ∙ ap (take w) (drop-drop v h l) in
      sym (ap (λ (ws : List ℕ). fields_by ws body) e
      ∙ ap (λ (x : List ℕ). ((blank ∷ []) ++ decimal_of (number (take v body))) ++ x) (append-nil ((blank ∷ []) ++ decimal_of (number (take w (drop v body)))))
      ∙ ap₂ (λ (x y : List ℕ). ((blank ∷ []) ++ decimal_of (number x)) ++ ((blank ∷ []) ++ decimal_of (number y))) first second)

-- a number of one byte
pub number-one : (at : ℕ) (l : List ℕ) → at < length l → number (part at 1 l) ≡ get_or l at 0
unfolding number
number-one at l h = ap number (part-one at l h) ∙ omega arith

-- ---- bodies

pub no-numbers : (kind : ℕ) (body : List ℕ) → (kind ≡ 2 → ⊥) → (kind ≡ 4 → ⊥) → (kind ≡ 5 → ⊥) → (kind ≡ 6 → ⊥) → (kind ≡ 7 → ⊥) → (kind ≡ 8 → ⊥)
    → body_of body ≡ fields_of kind body
no-numbers kind body a b c d e f =
    sym (simp (ne_eqb kind 2 a, ne_eqb kind 4 b, ne_eqb kind 5 c, ne_eqb kind 6 d, ne_eqb kind 7 e, ne_eqb kind 8 f))

pub empty-body : (l : List ℕ) → eqb (length l) 0 ≡ true → [] ≡ body_of l
unfolding body_of
empty-body [] e = refl
empty-body (b ∷ bs) e = absurd (omega (arith, eqb-true (length (b ∷ bs)) 0 e))

pub some-body : (l : List ℕ) → eqb (length l) 0 ≡ false → (blank ∷ []) ++ hex_of l ≡ body_of l
unfolding body_of
some-body [] e = cc
some-body (b ∷ bs) e = refl
