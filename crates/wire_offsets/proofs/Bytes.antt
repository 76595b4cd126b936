-- The bytes that a step was read from.
-- Assumes nothing.
use mathlib.Core.Path.{◌≡◌, refl}
use mathlib.Core.Bool.{Bool, true, false}
use mathlib.Core.List.{List, [], ◌∷◌}
use Prim.Native.Nat.{ℕ, zero, suc, ◌+◌, ◌≤◌, ◌<◌}
use native.Mathlib.Omega.{arith}
use borrow.Author.Tests.{eq-eqb, leb-true, leb-false}
use lib.Dec.{leb}
use lib.ListN.{length, get_or}
use Rattle.number_octets.specs.Zeros.{zeros_of}
use Rattle.wire_step.specs.Kinds.{class_of}
use Rattle.wire_step.specs.Step.{header_of, step_in, step_of}
use Rattle.wire_step.specs.declared.Class.{Class}
use Rattle.wire_step.specs.declared.Step.{Step}
use Rattle.wire_step.specs.declared.Step.TheVariants.{End, Eol, Outlawed}
use Rattle.wire_step.proofs.Classes.{class-sized}
use Rattle.wire_step.proofs.Steps.{class-alone, eol-byte}

-- a step other than the end is met at a byte
pub step-some : (l : List ℕ) (step : Step) → step_of l ≡ step → (End ≡ step → ⊥) → 0 < length l
unfolding step_of
step-some [] step e other = absurd (other e)
step-some (b ∷ bs) step e other = omega arith

-- an unsafe kind is 192 or more
pub outlawed-byte : (l : List ℕ) → step_of l ≡ Outlawed → 192 ≤ get_or l 0 0
unfolding step_of class_of header_of
outlawed-byte [] e = cc
outlawed-byte (b ∷ bs) e = go (leb b 191) refl
  where
    alone : step_in (class_of b) [] ≡ Outlawed
    alone = class-alone (class_of b) (b ∷ bs) [] Outlawed refl e

    small : (b : ℕ) → b ≤ 191 → step_in (class_of b) [] ≡ Outlawed → ⊥
    small zero h q = cc
    small (suc zero) h q = cc
    small (suc (suc n)) h q =
        class-sized (suc (suc n)) (λ (c : Class). step_in c [] ≡ Outlawed → ⊥) (omega arith) h (λ x y p. cc)
        (λ p. cc) q

    go : (t : Bool) → leb b 191 ≡ t → 192 ≤ b
    go true p = absurd (small b (leb-true b 191 p) alone)
    go false p = omega (arith, leb-false b 191 p)

-- EOL is a zero
pub eol-zeros : (l : List ℕ) → step_of l ≡ Eol → 0 < zeros_of l
unfolding step_of zeros_of
eol-zeros [] e = cc
eol-zeros (b ∷ bs) e = let one : zeros_of (b ∷ bs) ≡ 1 + zeros_of bs = simp (eq-eqb b 0 (eol-byte b bs e)) in omega arith
