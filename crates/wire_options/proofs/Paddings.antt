-- Where the strict walk comes to "padded" (document 02, R-6): at eight NOPs in a row, behind NOPs and sound options only; it is met at the eighth. So no other fault is called
-- padded, a fault in front is met first, and NOPs in bodies or behind EOL are not met.
-- Assumes nothing.
use mathlib.Core.Path.{◌≡◌, refl, sym, ap, subst, ◌∙◌}
use mathlib.Core.Bool.{Bool, true, false, cond}
use mathlib.Core.List.{List, [], ◌∷◌}
use mathlib.Core.Logic.{◌⊎◌, inl, inr, ⊎_elim}
use Prim.Native.Nat.{ℕ, zero, suc, ◌+◌, ◌-◌, ◌≤◌}
use native.Mathlib.Omega.{arith}
use borrow.Author.Tests.{eqb-true, eqb-false, ltb-true, ltb-false}
use lib.Dec.{eqb, ltb}
use lib.ListN.{length, drop}
use Rattle.number_octets.specs.Zeros.{zeros_of}
use Rattle.wire_nops.specs.Nops.{nop_limit, nops_of}
use Rattle.wire_nops.specs.declared.Strictness.{Strictness}
use Rattle.wire_nops.specs.declared.Strictness.TheVariants.{Plain, Strict}
use Rattle.wire_nops.proofs.Counts.{nops-some}
use Rattle.wire_step.specs.Kinds.{nop, frag}
use Rattle.wire_step.specs.Step.{step_of}
use Rattle.wire_step.specs.declared.Step.{Step}
use Rattle.wire_step.specs.declared.Step.TheVariants.{End, Eol, Nop, Found, Malformed as Unsound, Outlawed}
use Rattle.wire_step.proofs.Steps.{step-found, nop-byte}
use Rattle.wire_options.specs.Walk.{Located, Walked, listed, faulty, before, located_of, sound, fill_is_zero}
use Rattle.wire_options.specs.Strict.{strict_at, strict_from, walk_by}
use Rattle.wire_options.specs.declared.walk.Fault.TheVariants.{Malformed, Tail, Padded}
use Rattle.wire_options.proofs.Stricts.{IsPadded, strict-found, plain-unpadded}
use Rattle.wire_options.proofs.Runs.{strict-nop, strict-padded}

-- ---- the cause

-- The walk of a list that may have `room` options comes to `m`, where `left` may still come: NOPs and sound options stand in front.
pub data Comes : ℕ → List ℕ → ℕ → List ℕ → Type 0 where
  here : {left : ℕ} {m : List ℕ} → Comes left m left m
  over_nop : {room left : ℕ} {bs m : List ℕ} → Comes room bs left m → Comes room (nop ∷ bs) left m
  over_option : {room left : ℕ} {l m : List ℕ} (kind header size : ℕ) → step_of l ≡ Found kind header size → (kind ≡ frag → ⊥)
      → Comes room (drop size l) left m → Comes (suc room) l left m

abbrev pub eight_nops : List ℕ → List ℕ
eight_nops rest = nop ∷ nop ∷ nop ∷ nop ∷ nop ∷ nop ∷ nop ∷ nop ∷ rest

-- it comes to eight NOPs in a row, whatever stands behind them; from the eighth on so many bytes remain
pub record Padding (room : ℕ) (l : List ℕ) (remains : ℕ) : Type 0 where
  pub left : ℕ
  pub rest : List ℕ
  pub comes : Comes room l left (eight_nops rest)
  pub eighth : remains ≡ suc (length rest)

-- ---- NOPs counted

one-nop : (n : ℕ) (l : List ℕ) → suc n ≤ nops_of l → (rest : List ℕ) × (l ≡ nop ∷ rest) × (n ≤ nops_of rest)
unfolding nops_of
one-nop n [] h = absurd (omega arith)
one-nop n (b ∷ bs) h = go (eqb b nop) refl h
  where
    go : (t : Bool) → eqb b nop ≡ t → suc n ≤ cond t (1 + nops_of bs) 0 → (rest : List ℕ) × (b ∷ bs ≡ nop ∷ rest) × (n ≤ nops_of rest)
    go true e h = (bs, ap (λ (k : ℕ). k ∷ bs) (eqb-true b nop e), omega arith)
    go false e h = absurd (omega arith)

on : {x y : List ℕ} → x ≡ y → nop ∷ x ≡ nop ∷ y
on p = ap (λ (t : List ℕ). nop ∷ t) p

eight-nops : (l : List ℕ) → 8 ≤ nops_of l → (rest : List ℕ) × (l ≡ eight_nops rest)
eight-nops l h =
    let a = one-nop 7 l h in
    let b = one-nop 6 a.0 a.2 in
    let c = one-nop 5 b.0 b.2 in
    let d = one-nop 4 c.0 c.2 in
    let e = one-nop 3 d.0 d.2 in
    let f = one-nop 2 e.0 e.2 in
    let g = one-nop 1 f.0 f.2 in
    let i = one-nop 0 g.0 g.2 in
    (i.0, a.1 ∙ on (b.1 ∙ on (c.1 ∙ on (d.1 ∙ on (e.1 ∙ on (f.1 ∙ on (g.1 ∙ on i.1)))))))

padding-here : (room : ℕ) (l : List ℕ) (remains : ℕ) → 8 ≤ nops_of l → remains + nop_limit ≡ length l → Padding room l remains
unfolding nop_limit
padding-here room l remains h at =
    let e = eight-nops l h in
    let long : length l ≡ 8 + length e.0 = ap length e.1 ∙ omega arith in
    subst (λ (x : List ℕ). Padding room x remains) (sym e.1) (record { left = room; rest = e.0; comes = here; eighth = omega arith })

-- ---- "padded" has that cause ..

-- behind `nops` NOPs
abbrev Cause : ℕ → ℕ → List ℕ → ℕ → Type 0
Cause nops room l remains = Padding room l remains ⊎ ((8 ≤ nops + nops_of l) × (remains + nop_limit ≡ nops + length l))

before-padded : (option : Located) (w : Walked) (remains : ℕ) → before option w ≡ faulty Padded remains → w ≡ faulty Padded remains
before-padded option (listed options fill) remains e = absurd (let z : ◌≡◌ {A = ℕ} 0 1 = cc in omega arith)
before-padded option (faulty f n) remains e = e

cause-from : (l : List ℕ) (nops room skip remains : ℕ) → nops ≤ nop_limit → strict_from nops room skip l ≡ faulty Padded remains
    → Cause nops room (drop skip l) remains
unfolding strict_from nop_limit
cause-from [] nops room skip remains few q = absurd (let z : ◌≡◌ {A = ℕ} 0 1 = cc in omega arith)
cause-from (b ∷ bs) nops room (suc skip) remains few q = cause-from bs nops room skip remains few q
cause-from (b ∷ bs) nops room zero remains few q = go (step_of (b ∷ bs)) refl q (λ n left skip h e. cause-from bs n left skip remains h e)
  where
    l : List ℕ
    l = b ∷ bs

    strict : ℕ → ℕ → ℕ → Walked
    strict n left skip = strict_from n left skip bs

    Rest : Type 0
    Rest = (n left skip : ℕ) → n ≤ nop_limit → strict_from n left skip bs ≡ faulty Padded remains → Cause n left (drop skip bs) remains

    over : b ≡ nop → Padding room bs remains → Padding room l remains
    over e p =
        subst (λ (k : ℕ). Padding room (k ∷ bs) remains) (sym e)
        (record { left = p.left; rest = p.rest; comes = over_nop p.comes; eighth = p.eighth })

    counted : b ≡ nop → (t : Bool) → ltb nop_limit (suc nops) ≡ t
        → cond t (faulty Padded (length l)) (strict (suc nops) room 0) ≡ faulty Padded remains → Rest → Cause nops room l remains
    counted e true p q ih =
        let met : length l ≡ remains = cc in
        inr (omega (arith, ltb-true nop_limit (suc nops) p, (nops-some b bs e).0), omega (arith, ltb-true nop_limit (suc nops) p))
    counted e false p q ih =
        ⊎_elim (λ c. inl (over e c)) (λ c. inr (omega (arith, (nops-some b bs e).1, c.0), omega (arith, c.1)))
        (ih (suc nops) room 0 (omega (arith, ltb-false nop_limit (suc nops) p)) q)

    option : (r kind header size : ℕ) → step_of l ≡ Found kind header size → (kind ≡ frag → ⊥) → Cause 0 r (drop (size - 1) bs) remains
        → Cause nops (suc r) l remains
    option r kind header size e other c =
        let down : suc (size - 1) ≡ size = let f = (step-found l kind header size e).sized in omega (arith, f.least) in
        let p : Padding r (drop size l) remains =
        subst (λ (n : ℕ). Padding r (drop n l) remains) down
        (⊎_elim (λ x. x) (λ h. padding-here r (drop (size - 1) bs) remains (omega (arith, h.0)) (omega (arith, h.1))) c) in
        inl (record { left = p.left; rest = p.rest; comes = over_option kind header size e other p.comes; eighth = p.eighth })

    found : (kind header size : ℕ) (t : Bool) (r : ℕ) → step_of l ≡ Found kind header size → eqb kind frag ≡ t
        → cond t (faulty Malformed (length l)) (sound r (located_of kind header size l) (λ left. strict 0 left (size - 1))) ≡ faulty Padded remains → Rest
        → Cause nops r l remains
    found kind header size true r e t q ih = absurd (let z : ◌≡◌ {A = ℕ} 0 1 = cc in omega arith)
    found kind header size false zero e t q ih = absurd (let z : ◌≡◌ {A = ℕ} 0 1 = cc in omega arith)
    found kind header size false (suc r) e t q ih =
        option r kind header size e (eqb-false kind frag t)
        (ih 0 r (size - 1) (omega arith) (before-padded (located_of kind header size l) (strict 0 r (size - 1)) remains q))

    ended : (t : Bool) → cond t (listed [] (length l)) (faulty Tail (length l - zeros_of l)) ≡ faulty Padded remains → Cause nops room l remains
    ended true q = absurd (let z : ◌≡◌ {A = ℕ} 0 1 = cc in omega arith)
    ended false q = absurd (let z : ◌≡◌ {A = ℕ} 0 1 = cc in omega arith)

    go : (step : Step) → step_of l ≡ step → strict_at nops room l step strict ≡ faulty Padded remains → Rest → Cause nops room l remains
    go End e q ih = absurd (let z : ◌≡◌ {A = ℕ} 0 1 = cc in omega arith)
    go Eol e q ih = ended (fill_is_zero l) q
    go Unsound e q ih = absurd (let z : ◌≡◌ {A = ℕ} 0 1 = cc in omega arith)
    go Outlawed e q ih = absurd (let z : ◌≡◌ {A = ℕ} 0 1 = cc in omega arith)
    go Nop e q ih = counted (nop-byte b bs e) (ltb nop_limit (suc nops)) refl q ih
    go (Found kind header size) e q ih = found kind header size (eqb kind frag) room e refl q ih

pub padded-cause : (s : Strictness) (room : ℕ) (l : List ℕ) (remains : ℕ) → walk_by s room 0 l ≡ faulty Padded remains
    → (s ≡ Strict) × Padding room l remains
padded-cause Plain room l remains q = absurd (plain-unpadded l room 0 remains q)
padded-cause Strict room l remains q = (
  refl,
  ⊎_elim (λ p. p) (λ h. padding-here room l remains (omega (arith, h.0)) (omega (arith, h.1))) (cause-from l 0 room 0 remains (omega arith) q),
)

-- ---- .. and where it is there, the strict walk comes to "padded"

pub eight-many : (rest : List ℕ) → 8 ≤ nops_of (eight_nops rest)
unfolding nops_of
eight-many rest = omega arith

-- NOPs may stand before the eight: padding is met at the latest at the eighth of these
met-from : {room left : ℕ} {l m : List ℕ} → Comes room l left m → (rest : List ℕ) → m ≡ eight_nops rest → (nops : ℕ) → nops ≤ nop_limit
    → IsPadded (strict_from nops room 0 l)
unfolding nop_limit
met-from (here {left} {m}) rest e nops few =
    (_, ap (strict_from nops left 0) e ∙ strict-padded nops left (eight_nops rest) few (omega (arith, eight-many rest)))
met-from (over_nop {room} {left} {bs} {m} c) rest e nops few =
    let p = go (ltb nop_limit (suc nops)) refl (met-from c rest e (suc nops)) in
    (p.0, strict-nop nops room bs ∙ p.1)
  where
    go : (t : Bool) → ltb nop_limit (suc nops) ≡ t → (suc nops ≤ nop_limit → IsPadded (strict_from (suc nops) room 0 bs))
        → IsPadded (cond t (faulty Padded (length (nop ∷ bs))) (strict_from (suc nops) room 0 bs))
    go true p ih = (_, refl)
    go false p ih = ih (omega (arith, ltb-false nop_limit (suc nops) p))
met-from (over_option {room} {left} {l} {m} kind header size s other c) rest e nops few =
    let p = met-from c rest e 0 (omega arith) in
    (p.0, strict-found nops room l kind header size s other ∙ ap (before (located_of kind header size l)) p.1)

pub padded-met : (room : ℕ) (l : List ℕ) (remains : ℕ) → Padding room l remains → IsPadded (walk_by Strict room 0 l)
padded-met room l remains p = met-from p.comes p.rest refl 0 (omega arith)
