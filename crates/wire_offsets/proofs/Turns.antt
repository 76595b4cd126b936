-- The options that are got one by one are those of the walk (document 02, R-7): behind the NOPs the next step finds the first of those still to come,
-- or none is left.
-- Assumes nothing.
use mathlib.Core.Path.{◌≡◌, refl, sym, ap, subst, ◌∙◌}
use mathlib.Core.Bool.{Bool, true, false, cond}
use mathlib.Core.List.{List, [], ◌∷◌}
use Prim.Native.Nat.{ℕ, suc, ◌+◌, ◌≤◌}
use native.Mathlib.Omega.{arith}
use borrow.Author.Tests.{ltb-true, ltb-false, eqb-false, ne_eqb}
use lib.Dec.{eqb, ltb}
use lib.ListN.{length, drop, length-drop, drop_of_length-le}
use lib.Seq.{drop-drop}
use Rattle.wire_nops.specs.Nops.{nop, nops_of}
use Rattle.wire_nops.proofs.Counts.{nops-within}
use Rattle.wire_step.specs.Step.{step_of}
use Rattle.wire_step.specs.declared.Step.{Step}
use Rattle.wire_step.specs.declared.Step.TheVariants.{End, Eol, Nop, Found as OptionStep, Malformed, Outlawed}
use Rattle.wire_options.specs.Walk.{Located, listed, located_of, walk_from}
use Rattle.wire_options.proofs.Runs.{run-some}
use Rattle.wire_options.proofs.Rests.{Rest, RestBy, Taken, rest_over, rest-nops, rest-by}
use Rattle.wire_offsets.specs.Next.{next_by, next_of}
use Rattle.wire_offsets.specs.Places.{Got, Turns, done, turn}
use Rattle.wire_offsets.specs.declared.Found.{Found}
use Rattle.std.specs.Prelude.{Option, Some, None}

-- ---- behind the NOPs

pub nops-passed : (l : List ℕ) → nops_of (drop (nops_of l) l) ≡ 0
unfolding nops_of
nops-passed [] = refl
nops-passed (b ∷ bs) = go (eqb b nop) refl (nops-passed bs)
  where
    go : (t : Bool) → eqb b nop ≡ t → nops_of (drop (nops_of bs) bs) ≡ 0 → nops_of (drop (cond t (1 + nops_of bs) 0) (b ∷ bs)) ≡ 0
    go false e ih = simp (ne_eqb b nop (eqb-false b nop e))
    go true e ih = let more : 1 + nops_of bs ≡ suc (nops_of bs) = omega arith in ap (λ (k : ℕ). nops_of (drop k (b ∷ bs))) more ∙ ih

-- no NOP stands there
pub no_nop : (l : List ℕ) → step_of (drop (nops_of l) l) ≡ Nop → ⊥
no_nop l e = omega (arith, run-some (drop (nops_of l) l) e, nops-passed l)

-- ---- one turn

-- the option that was got is the first of those still to come
pub record Turned (l : List ℕ) (at : ℕ) (options : List Located) (n kind header size : ℕ) : Type 0 where
  pub option : Located
  pub later : List Located
  pub splits : options ≡ option ∷ later
  pub got : Got l (at + n) kind header size option
  pub rest : Rest l (at + n + size) later

-- what a turn says of the options still to come
abbrev pub TurnBy : List ℕ → ℕ → List Located → Option Found → Type 0
TurnBy l at options (Some f) = Turned l at options f.at f.kind f.header f.size
TurnBy l at options None = [] ≡ options

module _ {l : List ℕ} {at : ℕ} {options : List Located} (r : Rest l at options) (h : at ≤ length l) where
  abbrev nops : ℕ
  nops = nops_of (drop at l)

  abbrev place : ℕ
  place = at + nops

  within : place ≤ length l
  within = omega (arith, nops-within (drop at l), length-drop at l)

  taken : (kind header size : ℕ) → Taken l place options kind header size → Turned l at options nops kind header size
  taken kind header size t = record {
    option = located_of kind header size (drop place l);
    later = t.later;
    splits = t.splits;
    got = record {
      placed = omega (arith, within, length-drop place l);
      remaining = refl;
      sized = refl;
      whole = refl;
      some = t.some;
      fits = t.fits;
      other = t.other;
    };
    rest = t.rest;
  }

  by-step : (step : Step) → step_of (drop place l) ≡ step → RestBy l place options step → TurnBy l at options (next_by nops step)
  by-step End e q = q
  by-step Eol e q = q
  by-step Malformed e q = q
  by-step Outlawed e q = q
  by-step Nop e q = absurd (no_nop (drop at l) (ap step_of (drop-drop nops at l) ∙ e))
  by-step (OptionStep kind header size) e q = taken kind header size q

  -- at the end of the list no option comes
  over : (step : Step) → length l ≤ place → step_of (drop place l) ≡ step → TurnBy l at options (next_by nops step)
  unfolding step_of
  over step o e = subst (λ (s : Step). TurnBy l at options (next_by nops s)) (sym (ap step_of (drop_of_length-le l o)) ∙ e) (rest_over (rest-nops r) o)

  turn_step : (step : Step) → step_of (drop place l) ≡ step → TurnBy l at options (next_by nops step)
  turn_step step e = go (ltb place (length l)) refl
    where
      go : (t : Bool) → ltb place (length l) ≡ t → TurnBy l at options (next_by nops step)
      go true p = by-step step e (rest-by (rest-nops r) (ltb-true place (length l) p) e)
      go false p = over step (ltb-false place (length l) p) e

  -- by what `next_option` answers: what a loop over the options needs of a turn
  pub turn_by : {next : Option Found} → next_of (drop at l) ≡ next → TurnBy l at options next
  unfolding next_of
  turn_by {next} e =
      subst (TurnBy l at options) (ap (λ (m : List ℕ). next_by nops (step_of m)) (sym (drop-drop nops at l)) ∙ e) (turn_step (step_of (drop place l)) refl)

-- ---- all turns

turns-from : (l : List ℕ) (options : List Located) (at : ℕ) → at ≤ length l → Rest l at options → Turns l at options
turns-from l [] at h r = go (next_of (drop at l)) refl
  where
    go : (next : Option Found) → next_of (drop at l) ≡ next → Turns l at []
    go None e = done e
    go (Some f) e =
        let t : Turned l at [] f.at f.kind f.header f.size = turn_by r h e in
        absurd (let s = t.splits in cc)
turns-from l (option ∷ later) at h r = go (next_of (drop at l)) refl (turns-from l later)
  where
    go : (next : Option Found) → next_of (drop at l) ≡ next → ((at : ℕ) → at ≤ length l → Rest l at later → Turns l at later) → Turns l at (option ∷ later)
    go None e ih =
        let none : [] ≡ option ∷ later = turn_by r h e in
        cc
    go (Some f) e ih =
        let t : Turned l at (option ∷ later) f.at f.kind f.header f.size = turn_by r h e in
        let s = t.splits in
        let first : t.option ≡ option = cc in
        let others : t.later ≡ later = cc in
        turn f.at f.kind f.header f.size e (subst (Got l (at + f.at) f.kind f.header f.size) first t.got)
        (ih (at + f.at + f.size) t.got.fits (subst (Rest l (at + f.at + f.size)) others t.rest))

pub options-by-turns : (l : List ℕ) (room : ℕ) (options : List Located) (fill : ℕ) → walk_from room 0 l ≡ listed options fill → Turns l 0 options
options-by-turns l room options fill q = turns-from l options 0 (omega arith) (record { room = room; fill = fill; walks = q })
