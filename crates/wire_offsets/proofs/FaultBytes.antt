-- The byte where a fault is met (document 02, R-7), by what the step there is: 0 is EOL, 1 is NOP and from 192 on a kind is unsafe, so an option, sound
-- or not, has a kind from 2 to 191.
-- Assumes nothing.
use mathlib.Core.Path.{◌≡◌, refl, sym, ap, subst, ◌∙◌}
use mathlib.Core.Bool.{Bool, true, false}
use mathlib.Core.List.{List, [], ◌∷◌}
use mathlib.Core.Logic.{⊎_elim}
use Prim.Native.Nat.{ℕ, zero, suc, ◌+◌, ◌-◌, ◌≤◌}
use native.Mathlib.Omega.{arith}
use borrow.Author.Tests.{leb-true, leb-false}
use lib.Dec.{leb}
use lib.ListN.{drop, get_or}
use lib.Seq.{get_or-drop}
use Rattle.wire_step.specs.Kinds.{class_of, frag}
use Rattle.wire_step.specs.Step.{step_in, step_of}
use Rattle.wire_step.specs.declared.Class.{Class}
use Rattle.wire_step.specs.declared.Step.{Step}
use Rattle.wire_step.specs.declared.Step.TheVariants.{End, Eol, Nop, Found, Malformed as Unsound, Outlawed}
use Rattle.wire_step.proofs.Classes.{class-unsafe}
use Rattle.wire_options.specs.declared.walk.Fault.{Fault}
use Rattle.wire_options.specs.declared.walk.Fault.TheVariants.{Malformed, Unsafe, FragData, Crowded, Tail, Padded}
use Rattle.wire_offsets.specs.Places.{MetAt, ByteOf}

-- an option, sound or not
abbrev IsOption : Step → Type 0
IsOption (Found kind header size) = Unit {0}
IsOption Unsound = Unit {0}
IsOption End = ⊥
IsOption Eol = ⊥
IsOption Nop = ⊥
IsOption Outlawed = ⊥

option-byte : (l : List ℕ) → IsOption (step_of l) → (2 ≤ get_or l 0 0) × (get_or l 0 0 ≤ 191)
unfolding step_of class_of
option-byte [] o = absurd o
option-byte (b ∷ bs) o = (low b o, high (leb b 191) refl)
  where
    low : (k : ℕ) → IsOption (step_in (class_of k) (k ∷ bs)) → 2 ≤ k
    low zero o = absurd o
    low (suc zero) o = absurd o
    low (suc (suc k)) o = omega arith

    high : (t : Bool) → leb b 191 ≡ t → b ≤ 191
    high true e = leb-true b 191 e
    high false e = absurd (subst (λ (c : Class). IsOption (step_in c (b ∷ bs))) (class-unsafe b (omega (arith, leb-false b 191 e))) o)

module _ (l : List ℕ) (place : ℕ) where
  front-byte : get_or (drop place l) 0 0 ≡ get_or l place 0
  front-byte = let at : place + 0 ≡ place = omega arith in get_or-drop place l 0 0 ∙ ap (λ (n : ℕ). get_or l n 0) at

  kind_at : (step : Step) → step_of (drop place l) ≡ step → IsOption step → (2 ≤ get_or l place 0) × (get_or l place 0 ≤ 191)
  kind_at step e o =
      subst (λ (b : ℕ). (2 ≤ b) × (b ≤ 191)) front-byte (option-byte (drop place l) (subst IsOption (sym e) o))

  pub byte_of : (fault : Fault) → MetAt l place fault → ByteOf fault (get_or l place 0)
  byte_of Malformed m = ⊎_elim (λ e. kind_at Unsound e tt) (λ f. kind_at (Found frag f.0 f.1) f.2 tt) m
  byte_of Unsafe m = m.1
  byte_of Crowded m = let k = kind_at (Found (get_or l place 0) m.0 m.1) m.2 tt in (k.0, k.1, m.3)
  byte_of Tail m = m.nonzero
  byte_of Padded m = let at : place ≡ place - 0 = omega arith in ap (λ (n : ℕ). get_or l n 0) at ∙ m.nops 0 (omega arith)
  byte_of FragData m = absurd m
