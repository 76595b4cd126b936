-- A walk that lists all its options: each step takes a NOP, or the first of the options still to come, or none is left.
-- Assumes nothing.
use mathlib.Core.Path.{◌≡◌, refl, sym, ap, ◌∙◌}
use mathlib.Core.Bool.{Bool, true, false, cond}
use mathlib.Core.List.{List, [], ◌∷◌}
use Prim.Native.Nat.{ℕ, zero, suc, ◌+◌, ◌-◌, ◌≤◌, ◌<◌}
use native.Mathlib.Omega.{arith}
use borrow.Author.Tests.{eqb-false}
use lib.Dec.{eqb}
use lib.ListN.{length, drop, replicate, length-drop, drop_of_length-le}
use lib.Seq.{drop-drop}
use Rattle.number_octets.specs.Zeros.{zeros_of}
use Rattle.number_octets.proofs.ZeroBytes.{zero-only}
use Rattle.wire_nops.specs.Nops.{nops_of}
use Rattle.wire_step.specs.Kinds.{frag}
use Rattle.wire_step.specs.Step.{step_of}
use Rattle.wire_step.specs.declared.Step.{Step}
use Rattle.wire_step.specs.declared.Step.TheVariants.{End, Eol, Nop, Found, Malformed as Unsound, Outlawed}
use Rattle.wire_step.proofs.Steps.{step-found}
use Rattle.wire_options.specs.Walk.{Located, Walked, listed, faulty, before, located_of, sound, fill_is_zero, walk_at, walk_from, options_of}
use Rattle.wire_options.specs.declared.walk.Fault.{Fault}
use Rattle.wire_options.specs.declared.walk.Fault.TheVariants.{Malformed, Tail}
use Rattle.wire_options.proofs.Stricts.{walk-skip}
use Rattle.wire_options.proofs.Runs.{plain-run}

-- ---- one step

-- the option that was found is the first of `options`, and the others are listed behind it
pub record First (room : ℕ) (l : List ℕ) (options : List Located) (fill kind header size : ℕ) : Type 0 where
  pub left : ℕ
  pub one : room ≡ suc left
  pub other : eqb kind frag ≡ false
  pub later : List Located
  pub splits : options ≡ located_of kind header size l ∷ later
  pub walks : walk_from left (suc (size - 1)) l ≡ listed later fill

-- what a walk of `l` that lists `options` has at its front, by the step there
abbrev pub ListsBy : ℕ → List ℕ → List Located → ℕ → Step → Type 0
ListsBy room l options fill End = ([] ≡ options) × (0 ≡ fill)
ListsBy room l options fill Eol = ([] ≡ options) × (length l ≡ fill) × (fill_is_zero l ≡ true)
ListsBy room l options fill Nop = walk_from room 1 l ≡ listed options fill
ListsBy room l options fill (Found kind header size) = First room l options fill kind header size
ListsBy room l options fill Unsound = ⊥
ListsBy room l options fill Outlawed = ⊥

faultless : (fault : Fault) (remains : ℕ) (options : List Located) (fill : ℕ) → faulty fault remains ≡ listed options fill → ⊥
faultless fault remains options fill e = let z : ◌≡◌ {A = ℕ} 0 1 = cc in omega arith

behind : (option : Located) (w : Walked) (options : List Located) (fill : ℕ) → before option w ≡ listed options fill
    → (later : List Located) × (options ≡ option ∷ later) × (w ≡ listed later fill)
behind option (listed later n) options fill e = (later, cc, cc)
behind option (faulty fault remains) options fill e = absurd (faultless fault remains options fill e)

pub lists-by : (room : ℕ) (l : List ℕ) (options : List Located) (fill : ℕ) (step : Step) → 0 < length l → step_of l ≡ step
    → walk_from room 0 l ≡ listed options fill → ListsBy room l options fill step
unfolding walk_from
lists-by room [] options fill step h e q = absurd (omega arith)
lists-by room (b ∷ bs) options fill step h e q = go step (sym (ap (λ (s : Step). walk_at room l s rest) e) ∙ q)
  where
    l : List ℕ
    l = b ∷ bs

    rest : ℕ → ℕ → Walked
    rest left skip = walk_from left skip bs

    found : (kind header size : ℕ) (t : Bool) (r : ℕ) → eqb kind frag ≡ t
        → cond t (faulty Malformed (length l)) (sound r (located_of kind header size l) (λ left. rest left (size - 1))) ≡ listed options fill
        → First r l options fill kind header size
    found kind header size true r c q = absurd (faultless _ _ options fill q)
    found kind header size false zero c q = absurd (faultless _ _ options fill q)
    found kind header size false (suc r) c q =
        let n = behind (located_of kind header size l) (rest r (size - 1)) options fill q in
        record { left = r; one = refl; other = c; later = n.0; splits = n.1; walks = n.2 }

    ended : (t : Bool) → fill_is_zero l ≡ t → cond t (listed [] (length l)) (faulty Tail (length l - zeros_of l)) ≡ listed options fill
        → ([] ≡ options) × (length l ≡ fill) × (fill_is_zero l ≡ true)
    ended true z q = (cc, cc, z)
    ended false z q = absurd (faultless _ _ options fill q)

    go : (step : Step) → walk_at room l step rest ≡ listed options fill → ListsBy room l options fill step
    go End q = (cc, cc)
    go Eol q = ended (fill_is_zero l) refl q
    go Nop q = q
    go (Found kind header size) q = found kind header size (eqb kind frag) room refl q
    go Unsound q = faultless _ _ options fill q
    go Outlawed q = faultless _ _ options fill q

-- ---- all steps

-- the fill stands at the end of a list, behind its first `skip` bytes, and is zero bytes throughout
pub record Fills (skip : ℕ) (l : List ℕ) (fill : ℕ) : Type 0 where
  pub within : fill + skip ≤ length l
  pub zeros : drop (length l - fill) l ≡ replicate fill 0

filled_none : (l : List ℕ) → Fills 0 l 0
filled_none l = record { within = omega arith; zeros = drop_of_length-le l {i = length l - 0} (omega arith) }

filled-whole : (l : List ℕ) → fill_is_zero l ≡ true → Fills 0 l (length l)
filled-whole l z =
    let none : length l - length l ≡ 0 = omega arith in
    record { within = omega arith; zeros = ap (λ (n : ℕ). drop n l) none ∙ zero-only l z }

-- What holds at the end of a list and is kept by each step holds of every walk that lists its options.
module _
    (P : ℕ → ℕ → List ℕ → List Located → ℕ → Type 0)
    (over : (room skip : ℕ) → P room skip [] [] 0)
    (ends : (room fill : ℕ) (l : List ℕ) → Fills 0 l fill → P room 0 l [] fill)
    (skips : (room skip b : ℕ) (bs : List ℕ) (options : List Located) (fill : ℕ) → P room skip bs options fill → P room (suc skip) (b ∷ bs) options fill)
    (nop : (room : ℕ) (l : List ℕ) (options : List Located) (fill : ℕ) → 0 < length l → P room 1 l options fill → P room 0 l options fill)
    (found : (room : ℕ) (l : List ℕ) (options : List Located) (fill kind header size : ℕ) → step_of l ≡ Found kind header size → (kind ≡ frag → ⊥)
    → P room size l options fill → P (suc room) 0 l (located_of kind header size l ∷ options) fill) where
  pub walk-all : (l : List ℕ) (room skip : ℕ) (options : List Located) (fill : ℕ) → walk_from room skip l ≡ listed options fill → P room skip l options fill
  unfolding walk_from
  walk-all [] room skip options fill q =
      let none : [] ≡ options = cc in
      let zeros : 0 ≡ fill = cc in
      rw (← none, ← zeros) (over room skip)
  walk-all (b ∷ bs) room (suc skip) options fill q = skips room skip b bs options fill (walk-all bs room skip options fill q)
  walk-all (b ∷ bs) room zero options fill q =
      go (step_of l) refl (lists-by room l options fill (step_of l) (omega arith) refl q) (λ left skip later e. walk-all bs left skip later fill e)
    where
      l : List ℕ
      l = b ∷ bs

      Later : Type 0
      Later = (left skip : ℕ) (later : List Located) → walk_from left skip bs ≡ listed later fill → P left skip bs later fill

      go : (step : Step) → step_of l ≡ step → ListsBy room l options fill step → Later → P room 0 l options fill
      go End e q ih = rw (← q.0, ← q.1) (ends room 0 l (filled_none l))
      go Eol e q ih = rw (← q.0, ← q.1) (ends room (length l) l (filled-whole l q.2))
      go Nop e q ih = nop room l options fill (omega arith) (skips room 0 b bs options fill (ih room 0 options q))
      go Unsound e q ih = absurd q
      go Outlawed e q ih = absurd q
      go (Found kind header size) e q ih =
          let down : suc (size - 1) ≡ size = let f = (step-found l kind header size e).sized in omega (arith, f.least) in
          let later : P q.left (suc (size - 1)) l q.later fill = skips q.left (size - 1) b bs q.later fill (ih q.left (size - 1) q.later q.walks) in
          rw (q.one, q.splits) (found q.left l q.later fill kind header size e (eqb-false kind frag q.other) (rw down at later))

-- ---- from a position

-- `options` are still to come behind the first `at` bytes of `s`
pub record Rest (s : List ℕ) (at : ℕ) (options : List Located) : Type 0 where
  pub room : ℕ
  pub fill : ℕ
  pub walks : walk_from room 0 (drop at s) ≡ listed options fill

-- the option found there is the first of them
pub record Taken (s : List ℕ) (at : ℕ) (options : List Located) (kind header size : ℕ) : Type 0 where
  pub other : kind ≡ frag → ⊥
  pub some : 0 < size
  pub fits : at + size ≤ length s
  pub later : List Located
  pub splits : options ≡ located_of kind header size (drop at s) ∷ later
  pub rest : Rest s (at + size) later

-- what a step does to what is still to come; where the walk ends, that is nothing
abbrev pub RestBy : List ℕ → ℕ → List Located → Step → Type 0
RestBy s at options Nop = Rest s (at + 1) options
RestBy s at options (Found kind header size) = Taken s at options kind header size
RestBy s at options End = [] ≡ options
RestBy s at options Eol = [] ≡ options
RestBy s at options Unsound = [] ≡ options
RestBy s at options Outlawed = [] ≡ options

-- all that a walk without fault lists
pub rest_all : (s : List ℕ) (room : ℕ) → ((fault : Fault) (remains : ℕ) → walk_from room 0 s ≡ faulty fault remains → ⊥) → Rest s 0 (options_of (walk_from room 0 s))
rest_all s room faultless = go (walk_from room 0 s) refl
  where
    go : (w : Walked) → walk_from room 0 s ≡ w → Rest s 0 (options_of w)
    go (listed options fill) e = record { room = room; fill = fill; walks = e }
    go (faulty fault remains) e = absurd (faultless fault remains e)

module _ {s : List ℕ} {at : ℕ} {options : List Located} (r : Rest s at options) where
  pub rest_over : length s ≤ at → [] ≡ options
  unfolding walk_from
  rest_over h = let over : listed [] 0 ≡ listed options r.fill = sym (ap (walk_from r.room 0) (drop_of_length-le s h)) ∙ r.walks in cc

  -- NOPs in a row are passed together
  pub rest-nops : Rest s (at + nops_of (drop at s)) options
  rest-nops =
      let l : List ℕ = drop at s in
      record {
        room = r.room;
        fill = r.fill;
        walks = ap (walk_from r.room 0) (sym (drop-drop (nops_of l) at s)) ∙ sym (plain-run r.room l) ∙ r.walks;
      }

  pub rest-by : {step : Step} → at < length s → step_of (drop at s) ≡ step → RestBy s at options step
  rest-by {step} h e = go step e (lists-by r.room l options r.fill step (simp length-drop (omega arith)) e r.walks)
    where
      l : List ℕ
      l = drop at s

      onward : (left n : ℕ) (later : List Located) → walk_from left n l ≡ listed later r.fill → Rest s (at + n) later
      onward left n later w = record { room = left; fill = r.fill; walks = ap (walk_from left 0) (sym (drop-drop n at s)) ∙ sym (walk-skip left n l) ∙ w }

      go : (step : Step) → step_of l ≡ step → ListsBy r.room l options r.fill step → RestBy s at options step
      go End e q = q.0
      go Eol e q = q.0
      go Unsound e q = absurd q
      go Outlawed e q = absurd q
      go Nop e q = onward r.room 1 options q
      go (Found kind header size) e q =
          let f = (step-found l kind header size e).sized in
          let down : suc (size - 1) ≡ size = omega (arith, f.least) in
          let left : length l ≡ length s - at = length-drop at s in
          record {
            other = eqb-false kind frag q.other;
            some = omega (arith, f.least);
            fits = omega (arith, f.fits);
            later = q.later;
            splits = q.splits;
            rest = onward q.left size q.later (ap (λ (n : ℕ). walk_from q.left n l) (sym down) ∙ q.walks);
          }
