-- The strict walk beside the plain one (document 02, R-6): it comes to "padded", or to what the plain walk comes to. So what holds of every list that
-- the plain walk reads holds of every list that is read, whatever the host chose.
-- Assumes nothing.
use mathlib.Core.Path.{◌≡◌, refl, sym, ap, ◌∙◌}
use mathlib.Core.Bool.{Bool, true, false, cond}
use mathlib.Core.List.{List, [], ◌∷◌}
use mathlib.Core.Logic.{◌⊎◌, inl, inr, ⊎_elim}
use Prim.Native.Nat.{ℕ, zero, suc, ◌-◌}
use native.Mathlib.Omega.{arith}
use borrow.Author.Tests.{ne_eqb}
use lib.Dec.{eqb}
use lib.ListN.{length, drop}
use Rattle.wire_nops.specs.Nops.{is_padding}
use Rattle.wire_nops.specs.declared.Strictness.{Strictness}
use Rattle.wire_nops.specs.declared.Strictness.TheVariants.{Plain, Strict}
use Rattle.wire_step.specs.Kinds.{frag, nop}
use Rattle.wire_step.specs.Step.{step_of}
use Rattle.wire_step.specs.declared.Step.{Step}
use Rattle.wire_step.specs.declared.Step.TheVariants.{End, Eol, Nop, Found, Malformed as Unsound, Outlawed}
use Rattle.wire_step.proofs.Steps.{step-found, nop-byte}
use Rattle.number_octets.specs.Zeros.{zeros_of}
use Rattle.wire_options.specs.Walk.{Located, Walked, listed, faulty, before, located_of, sound, fill_is_zero, walk_at, walk_from}
use Rattle.wire_options.specs.Strict.{strict_at, strict_from, walk_by}
use Rattle.wire_options.specs.declared.walk.Fault.TheVariants.{Malformed, Tail, Padded}

-- ---- bytes to skip are dropped

pub walk-skip : (room skip : ℕ) (l : List ℕ) → walk_from room skip l ≡ walk_from room 0 (drop skip l)
unfolding walk_from
walk-skip room zero l = refl
walk-skip room (suc skip) [] = refl
walk-skip room (suc skip) (b ∷ bs) = walk-skip room skip bs

strict-skip : (nops room skip : ℕ) (l : List ℕ) → strict_from nops room skip l ≡ strict_from nops room 0 (drop skip l)
unfolding strict_from
strict-skip nops room zero l = refl
strict-skip nops room (suc skip) [] = refl
strict-skip nops room (suc skip) (b ∷ bs) = strict-skip nops room skip bs

pub by-skip : (s : Strictness) (room skip : ℕ) (l : List ℕ) → walk_by s room skip l ≡ walk_by s room 0 (drop skip l)
by-skip Plain room skip l = walk-skip room skip l
by-skip Strict room skip l = strict-skip 0 room skip l

-- ---- by the step at the front

-- the step is no NOP
abbrev pub NoNop : Step → Type 0
NoNop Nop = ⊥
NoNop End = Unit {0}
NoNop Eol = Unit {0}
NoNop (Found kind header size) = Unit {0}
NoNop Unsound = Unit {0}
NoNop Outlawed = Unit {0}

-- then it does not matter how many NOPs stand before it
strict-other : (nops room b : ℕ) (bs : List ℕ) (step : Step) → step_of (b ∷ bs) ≡ step → NoNop step
    → strict_from nops room 0 (b ∷ bs) ≡ walk_at room (b ∷ bs) step (λ left skip. strict_from 0 left skip bs)
unfolding strict_from
strict-other nops room b bs step e h =
    ap (λ (s : Step). strict_at nops room (b ∷ bs) s (λ n left skip. strict_from n left skip bs)) e ∙ go step h
  where
    go : (step : Step) → NoNop step
        → strict_at nops room (b ∷ bs) step (λ n left skip. strict_from n left skip bs) ≡ walk_at room (b ∷ bs) step (λ left skip. strict_from 0 left skip bs)
    go Nop h = absurd h
    go End h = refl
    go Eol h = refl
    go (Found kind header size) h = refl
    go Unsound h = refl
    go Outlawed h = refl

pub walk-other : (s : Strictness) (room b : ℕ) (bs : List ℕ) (step : Step) → step_of (b ∷ bs) ≡ step → NoNop step
    → walk_by s room 0 (b ∷ bs) ≡ walk_at room (b ∷ bs) step (λ left skip. walk_by s left skip bs)
unfolding walk_from
walk-other Plain room b bs step e h = ap (λ (x : Step). walk_at room (b ∷ bs) x (λ left skip. walk_from left skip bs)) e
walk-other Strict room b bs step e h = strict-other 0 room b bs step e h

pub count-free : (nops room : ℕ) (b : ℕ) (bs : List ℕ) → (b ≡ nop → ⊥) → strict_from nops room 0 (b ∷ bs) ≡ strict_from 0 room 0 (b ∷ bs)
count-free nops room b bs other = go (step_of (b ∷ bs)) refl
  where
    go : (step : Step) → step_of (b ∷ bs) ≡ step → strict_from nops room 0 (b ∷ bs) ≡ strict_from 0 room 0 (b ∷ bs)
    go Nop e = absurd (other (nop-byte b bs e))
    go End e = strict-other nops room b bs End e tt ∙ sym (strict-other 0 room b bs End e tt)
    go Eol e = strict-other nops room b bs Eol e tt ∙ sym (strict-other 0 room b bs Eol e tt)
    go Unsound e = strict-other nops room b bs Unsound e tt ∙ sym (strict-other 0 room b bs Unsound e tt)
    go Outlawed e = strict-other nops room b bs Outlawed e tt ∙ sym (strict-other 0 room b bs Outlawed e tt)
    go (Found kind header size) e =
        strict-other nops room b bs (Found kind header size) e tt ∙ sym (strict-other 0 room b bs (Found kind header size) e tt)

-- a sound option: it is taken, and the walk goes on behind it
found_at : (room b : ℕ) (bs : List ℕ) (kind header size : ℕ) (w : Walked) (rest : ℕ → ℕ → Walked) → (kind ≡ frag → ⊥)
    → w ≡ walk_at (suc room) (b ∷ bs) (Found kind header size) rest → w ≡ before (located_of kind header size (b ∷ bs)) (rest room (size - 1))
found_at room b bs kind header size w rest other e = e ∙ simp (ne_eqb kind frag other)

behind-option : (b : ℕ) (bs : List ℕ) (kind header size : ℕ) → step_of (b ∷ bs) ≡ Found kind header size → drop (size - 1) bs ≡ drop size (b ∷ bs)
behind-option b bs kind header size e =
    let down : suc (size - 1) ≡ size = let f = (step-found (b ∷ bs) kind header size e).sized in omega (arith, f.least) in
    ap (λ (n : ℕ). drop n (b ∷ bs)) down

pub strict-found : (nops room : ℕ) (l : List ℕ) (kind header size : ℕ) → step_of l ≡ Found kind header size → (kind ≡ frag → ⊥)
    → strict_from nops (suc room) 0 l ≡ before (located_of kind header size l) (strict_from 0 room 0 (drop size l))
unfolding step_of
strict-found nops room [] kind header size e other = absurd (let z : ◌≡◌ {A = ℕ} 0 1 = cc in omega arith)
strict-found nops room (b ∷ bs) kind header size e other =
    found_at room b bs kind header size (strict_from nops (suc room) 0 (b ∷ bs)) (λ left skip. strict_from 0 left skip bs) other
    (strict-other nops (suc room) b bs (Found kind header size) e tt)
    ∙ ap (before (located_of kind header size (b ∷ bs)))
    (strict-skip 0 room (size - 1) bs ∙ ap (strict_from 0 room 0) (behind-option b bs kind header size e))

plain-found : (room : ℕ) (l : List ℕ) (kind header size : ℕ) → step_of l ≡ Found kind header size → (kind ≡ frag → ⊥)
    → walk_from (suc room) 0 l ≡ before (located_of kind header size l) (walk_from room 0 (drop size l))
unfolding step_of
plain-found room [] kind header size e other = absurd (let z : ◌≡◌ {A = ℕ} 0 1 = cc in omega arith)
plain-found room (b ∷ bs) kind header size e other =
    found_at room b bs kind header size (walk_from (suc room) 0 (b ∷ bs)) (λ left skip. walk_from left skip bs) other
    (walk-other Plain (suc room) b bs (Found kind header size) e tt)
    ∙ ap (before (located_of kind header size (b ∷ bs)))
    (walk-skip room (size - 1) bs ∙ ap (walk_from room 0) (behind-option b bs kind header size e))

pub walk-found : (s : Strictness) (room : ℕ) (l : List ℕ) (kind header size : ℕ) → step_of l ≡ Found kind header size → (kind ≡ frag → ⊥)
    → walk_by s (suc room) 0 l ≡ before (located_of kind header size l) (walk_by s room 0 (drop size l))
walk-found Plain room l kind header size e other = plain-found room l kind header size e other
walk-found Strict room l kind header size e other = strict-found 0 room l kind header size e other

-- ---- padded, or as plain

-- a walk that is "padded", at some place
abbrev pub IsPadded : Walked → Type 0
IsPadded walked = (remains : ℕ) × (walked ≡ faulty Padded remains)

abbrev OrPlain : Walked → Walked → Type 0
OrPlain strict plain = IsPadded strict ⊎ (strict ≡ plain)

before-either : (option : Located) (v w : Walked) → OrPlain v w → OrPlain (before option v) (before option w)
before-either option v w o = ⊎_elim (λ p. inl (p.0, ap (before option) p.1)) (λ e. inr (ap (before option) e)) o

pub strict-or-plain : (l : List ℕ) (nops room skip : ℕ) → IsPadded (strict_from nops room skip l) ⊎ (strict_from nops room skip l ≡ walk_from room skip l)
unfolding strict_from walk_from
strict-or-plain [] nops room skip = inr refl
strict-or-plain (b ∷ bs) nops room (suc skip) = strict-or-plain bs nops room skip
strict-or-plain (b ∷ bs) nops room zero = go (step_of (b ∷ bs)) (λ n left skip. strict-or-plain bs n left skip)
  where
    l : List ℕ
    l = b ∷ bs

    strict : ℕ → ℕ → ℕ → Walked
    strict n left skip = strict_from n left skip bs

    plain : ℕ → ℕ → Walked
    plain left skip = walk_from left skip bs

    Rest : Type 0
    Rest = (n left skip : ℕ) → OrPlain (strict_from n left skip bs) (walk_from left skip bs)

    counted : (t : Bool) → Rest → OrPlain (cond t (faulty Padded (length l)) (strict (suc nops) room 0)) (plain room 0)
    counted true ih = inl (length l, refl)
    counted false ih = ih (suc nops) room 0

    found : (t : Bool) (r : ℕ) (option : Located) (skip : ℕ) → Rest
        → OrPlain (cond t (faulty Malformed (length l)) (sound r option (λ left. strict 0 left skip)))
        (cond t (faulty Malformed (length l)) (sound r option (λ left. plain left skip)))
    found true r option skip ih = inr refl
    found false zero option skip ih = inr refl
    found false (suc r) option skip ih = before-either option (strict 0 r skip) (plain r skip) (ih 0 r skip)

    go : (step : Step) → Rest → OrPlain (strict_at nops room l step strict) (walk_at room l step plain)
    go End ih = inr refl
    go Eol ih = inr refl
    go Unsound ih = inr refl
    go Outlawed ih = inr refl
    go Nop ih = counted (is_padding Strict (suc nops)) ih
    go (Found kind header size) ih = found (eqb kind frag) room (located_of kind header size l) (size - 1) ih

-- the same of the walk that the host chose
pub padded-or-plain : (s : Strictness) (room : ℕ) (l : List ℕ) → IsPadded (walk_by s room 0 l) ⊎ (walk_by s room 0 l ≡ walk_from room 0 l)
padded-or-plain Plain room l = inr refl
padded-or-plain Strict room l = strict-or-plain l 0 room 0

-- a list that is read is read as plainly
pub listed_plain : (s : Strictness) (room : ℕ) (l : List ℕ) (options : List Located) (fill : ℕ) → walk_by s room 0 l ≡ listed options fill
    → walk_from room 0 l ≡ listed options fill
listed_plain s room l options fill q =
    ⊎_elim (λ p. absurd (let both : faulty Padded p.0 ≡ listed options fill = sym p.1 ∙ q in let z : ◌≡◌ {A = ℕ} 0 1 = cc in omega arith))
    (λ e. sym e ∙ q)
    (padded-or-plain s room l)

-- ---- the plain walk is never "padded"

before-unpadded : (option : Located) (w : Walked) (n : ℕ) → (w ≡ faulty Padded n → ⊥) → before option w ≡ faulty Padded n → ⊥
before-unpadded option (listed options fill) n h e = let z : ◌≡◌ {A = ℕ} 0 1 = cc in omega arith
before-unpadded option (faulty f m) n h e = h e

pub plain-unpadded : (l : List ℕ) (room skip remains : ℕ) → walk_from room skip l ≡ faulty Padded remains → ⊥
unfolding walk_from
plain-unpadded [] room skip n q = let z : ◌≡◌ {A = ℕ} 0 1 = cc in omega arith
plain-unpadded (b ∷ bs) room (suc skip) n q = plain-unpadded bs room skip n q
plain-unpadded (b ∷ bs) room zero n q = go (step_of (b ∷ bs)) q (λ left skip e. plain-unpadded bs left skip n e)
  where
    l : List ℕ
    l = b ∷ bs

    Rest : Type 0
    Rest = (left skip : ℕ) → walk_from left skip bs ≡ faulty Padded n → ⊥

    ended : (t : Bool) → cond t (listed [] (length l)) (faulty Tail (length l - zeros_of l)) ≡ faulty Padded n → ⊥
    ended true q = let z : ◌≡◌ {A = ℕ} 0 1 = cc in omega arith
    ended false q = let z : ◌≡◌ {A = ℕ} 0 1 = cc in omega arith

    found : (t : Bool) (r : ℕ) (option : Located) (skip : ℕ)
        → cond t (faulty Malformed (length l)) (sound r option (λ left. walk_from left skip bs)) ≡ faulty Padded n → Rest → ⊥
    found true r option skip q ih = let z : ◌≡◌ {A = ℕ} 0 1 = cc in omega arith
    found false zero option skip q ih = let z : ◌≡◌ {A = ℕ} 0 1 = cc in omega arith
    found false (suc r) option skip q ih = before-unpadded option (walk_from r skip bs) n (ih r skip) q

    go : (step : Step) → walk_at room l step (λ left skip. walk_from left skip bs) ≡ faulty Padded n → Rest → ⊥
    go End q ih = let z : ◌≡◌ {A = ℕ} 0 1 = cc in omega arith
    go Eol q ih = ended (fill_is_zero l) q
    go Unsound q ih = let z : ◌≡◌ {A = ℕ} 0 1 = cc in omega arith
    go Outlawed q ih = let z : ◌≡◌ {A = ℕ} 0 1 = cc in omega arith
    go Nop q ih = ih room 0 q
    go (Found kind header size) q ih = found (eqb kind frag) room (located_of kind header size l) (size - 1) q ih
