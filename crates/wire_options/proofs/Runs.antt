-- The walk passes NOPs in a row together, or they are padding (document 02, R-6).
-- Assumes nothing.
use mathlib.Core.Path.{◌≡◌, refl, ap, ◌∙◌}
use mathlib.Core.Bool.{Bool, true, false, cond}
use mathlib.Core.List.{List, [], ◌∷◌}
use Prim.Native.Nat.{ℕ, suc, ◌+◌, ◌-◌, ◌≤◌, ◌<◌}
use native.Mathlib.Omega.{arith}
use borrow.Author.Tests.{eqb-true, eqb-false, le-ltb, ltb-true, ltb-false}
use lib.Dec.{eqb, ltb}
use lib.ListN.{length, drop}
use Rattle.wire_nops.specs.Nops.{nop, nop_limit, nops_of, is_padding}
use Rattle.wire_nops.specs.declared.Strictness.{Strictness}
use Rattle.wire_nops.specs.declared.Strictness.TheVariants.{Plain, Strict}
use Rattle.wire_nops.proofs.Counts.{nops-some}
use Rattle.wire_step.specs.Step.{step_of}
use Rattle.wire_step.specs.declared.Step.{Step}
use Rattle.wire_step.specs.declared.Step.TheVariants.{Nop}
use Rattle.wire_step.proofs.Steps.{nop-step, nop-byte}
use Rattle.wire_options.specs.Walk.{faulty, walk_at, walk_from}
use Rattle.wire_options.specs.Strict.{strict_at, strict_from, walk_by}
use Rattle.wire_options.specs.declared.walk.Fault.TheVariants.{Padded}
use Rattle.wire_options.proofs.Stricts.{count-free}

-- one NOP at the front
walk-nop : (room : ℕ) (bs : List ℕ) → walk_from room 0 (nop ∷ bs) ≡ walk_from room 0 bs
unfolding walk_from
walk-nop room bs = ap (λ (s : Step). walk_at room (nop ∷ bs) s (λ left skip. walk_from left skip bs)) (nop-step bs)

pub strict-nop : (nops room : ℕ) (bs : List ℕ)
    → strict_from nops room 0 (nop ∷ bs) ≡ cond (is_padding Strict (suc nops)) (faulty Padded (length (nop ∷ bs))) (strict_from (suc nops) room 0 bs)
unfolding strict_from
strict-nop nops room bs = ap (λ (s : Step). strict_at nops room (nop ∷ bs) s (λ n left skip. strict_from n left skip bs)) (nop-step bs)

pub plain-run : (room : ℕ) (l : List ℕ) → walk_from room 0 l ≡ walk_from room 0 (drop (nops_of l) l)
unfolding nops_of
plain-run room [] = refl
plain-run room (b ∷ bs) = go (eqb b nop) refl (plain-run room bs)
  where
    go : (t : Bool) → eqb b nop ≡ t → walk_from room 0 bs ≡ walk_from room 0 (drop (nops_of bs) bs)
        → walk_from room 0 (b ∷ bs) ≡ walk_from room 0 (drop (cond t (1 + nops_of bs) 0) (b ∷ bs))
    go false e ih = refl
    go true e ih =
        let more : suc (nops_of bs) ≡ 1 + nops_of bs = omega arith in
        ap (λ (k : ℕ). walk_from room 0 (k ∷ bs)) (eqb-true b nop e) ∙ walk-nop room bs ∙ ih
        ∙ ap (λ (k : ℕ). walk_from room 0 (drop k (b ∷ bs))) more

-- a NOP at the front is one of them
pub run-some : (l : List ℕ) → step_of l ≡ Nop → 0 < nops_of l
unfolding step_of
run-some [] e = absurd (let z : ◌≡◌ {A = ℕ} 0 1 = cc in omega arith)
run-some (b ∷ bs) e = (nops-some b bs (nop-byte b bs e)).0

strict-run : (nops room : ℕ) (l : List ℕ) → nops + nops_of l ≤ nop_limit → strict_from nops room 0 l ≡ strict_from 0 room 0 (drop (nops_of l) l)
unfolding nops_of strict_from
strict-run nops room [] h = refl
strict-run nops room (b ∷ bs) h = go (eqb b nop) refl h (strict-run (suc nops) room bs)
  where
    go : (t : Bool) → eqb b nop ≡ t → nops + cond t (1 + nops_of bs) 0 ≤ nop_limit
        → (suc nops + nops_of bs ≤ nop_limit → strict_from (suc nops) room 0 bs ≡ strict_from 0 room 0 (drop (nops_of bs) bs))
        → strict_from nops room 0 (b ∷ bs) ≡ strict_from 0 room 0 (drop (cond t (1 + nops_of bs) 0) (b ∷ bs))
    go false e h ih = count-free nops room b bs (eqb-false b nop e)
    go true e h ih =
        let more : suc (nops_of bs) ≡ 1 + nops_of bs = omega arith in
        ap (λ (k : ℕ). strict_from nops room 0 (k ∷ bs)) (eqb-true b nop e) ∙ strict-nop nops room bs
        ∙ ap (λ (t : Bool). cond t (faulty Padded (suc (length bs))) (strict_from (suc nops) room 0 bs)) (le-ltb nop_limit (suc nops) (omega arith)) ∙ ih (omega arith)
        ∙ ap (λ (k : ℕ). strict_from 0 room 0 (drop k (b ∷ bs))) more

-- padding is met at the NOP behind as many as there may be
pub strict-padded : (nops room : ℕ) (l : List ℕ) → nops ≤ nop_limit → nop_limit < nops + nops_of l
    → strict_from nops room 0 l ≡ faulty Padded (length l - (nop_limit - nops))
unfolding nops_of
strict-padded nops room [] few h = absurd (omega arith)
strict-padded nops room (b ∷ bs) few h = go (eqb b nop) refl h (strict-padded (suc nops) room bs)
  where
    Rest : Type 0
    Rest = suc nops ≤ nop_limit → nop_limit < suc nops + nops_of bs → strict_from (suc nops) room 0 bs ≡ faulty Padded (length bs - (nop_limit - suc nops))

    over : (t : Bool) → ltb nop_limit (suc nops) ≡ t → nop_limit < suc nops + nops_of bs → Rest
        → cond t (faulty Padded (suc (length bs))) (strict_from (suc nops) room 0 bs) ≡ faulty Padded (suc (length bs) - (nop_limit - nops))
    over true p h ih =
        let here : suc (length bs) ≡ suc (length bs) - (nop_limit - nops) = omega (arith, ltb-true nop_limit (suc nops) p) in
        ap (faulty Padded) here
    over false p h ih =
        let few : suc nops ≤ nop_limit = ltb-false nop_limit (suc nops) p in
        let same : length bs - (nop_limit - suc nops) ≡ suc (length bs) - (nop_limit - nops) = omega arith in
        ih few h ∙ ap (faulty Padded) same

    go : (t : Bool) → eqb b nop ≡ t → nop_limit < nops + cond t (1 + nops_of bs) 0 → Rest
        → strict_from nops room 0 (b ∷ bs) ≡ faulty Padded (suc (length bs) - (nop_limit - nops))
    go false e h ih = absurd (omega arith)
    go true e h ih =
        ap (λ (k : ℕ). strict_from nops room 0 (k ∷ bs)) (eqb-true b nop e) ∙ strict-nop nops room bs
        ∙ over (ltb nop_limit (suc nops)) refl (omega arith) ih

-- NOPs at the front are passed together ..
pub run-passed : (s : Strictness) (room : ℕ) (l : List ℕ) → is_padding s (nops_of l) ≡ false → walk_by s room 0 l ≡ walk_by s room 0 (drop (nops_of l) l)
run-passed Plain room l e = plain-run room l
run-passed Strict room l e = strict-run 0 room l (omega (arith, ltb-false nop_limit (nops_of l) e))

-- .. or are padding
pub run-padded : (s : Strictness) (room : ℕ) (l : List ℕ) → is_padding s (nops_of l) ≡ true → walk_by s room 0 l ≡ faulty Padded (length l - nop_limit)
unfolding nop_limit
run-padded Plain room l e = absurd (let z : ◌≡◌ {A = ℕ} 0 1 = cc in omega arith)
run-padded Strict room l e = strict-padded 0 room l (omega arith) (omega (arith, ltb-true nop_limit (nops_of l) e))
