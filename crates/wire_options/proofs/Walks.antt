-- Laws of the walk: how one step carries what the walk tells of a list to what it tells of the rest.
-- Assumes nothing.
use mathlib.Core.Path.{◌≡◌, refl, sym, ap, ap₂, subst, ◌∙◌}
use mathlib.Core.Bool.{Bool, true, false, cond}
use mathlib.Core.List.{List, [], ◌∷◌}
use Prim.Native.Nat.{ℕ, zero, suc, ◌+◌, ◌-◌, ◌≤◌, ◌<◌}
use native.Mathlib.Nat.{zero-add, add_assoc}
use native.Mathlib.Omega.{arith}
use borrow.Author.Tests.{eq-eqb, ne_eqb, eqb-true, eqb-false}
use lib.Dec.{eqb}
use lib.ListN.{length, drop, length-drop}
use lib.Seq.{drop-drop}
use Rattle.number_octets.specs.Octets.{number}
use Rattle.number_octets.specs.Zeros.{zeros_of}
use Rattle.number_octets.proofs.ZeroBytes.{zeros_within}
use Rattle.wire_nops.specs.Nops.{nop_limit, nops_of, is_padding}
use Rattle.wire_nops.specs.declared.Strictness.{Strictness}
use Rattle.wire_nops.specs.declared.Strictness.TheVariants.{Plain, Strict}
use Rattle.wire_nops.proofs.Counts.{nops-some, nops-within, padding-limit}
use Rattle.wire_step.specs.Kinds.{apc, frag}
use Rattle.wire_step.specs.Step.{step_of}
use Rattle.wire_step.specs.declared.Step.{Step}
use Rattle.wire_step.specs.declared.Step.TheVariants.{End, Eol, Nop, Found, Malformed as Unsound, Outlawed}
use Rattle.wire_step.proofs.Steps.{step-found, nop-byte}
use Rattle.wire_options.specs.Progress.{failed, room_progress, nop_progress, progress_in, progress_of}
use Rattle.wire_options.specs.Walk.{Located, Walked, listed, faulty, items_in, before, located_of, sound, fill_is_zero, walk_from, joined, apc_of, apcs_of, walk_answer}
use Rattle.wire_options.specs.Strict.{strict_from, walk_by}
use Rattle.wire_options.specs.declared.walk.Fault.{Fault}
use Rattle.wire_options.specs.declared.walk.Fault.TheVariants.{Malformed, Unsafe, Crowded, Tail, Padded}
use Rattle.wire_options.specs.declared.walk.Apcs.{Apcs}
use Rattle.wire_options.specs.declared.walk.Apcs.TheVariants.{Absent, Same, Different}
use Rattle.wire_options.specs.declared.walk.Progress.{Progress}
use Rattle.wire_options.specs.declared.walk.Progress.TheVariants.{On, Apc, Ended}
use Rattle.wire_options.specs.declared.walk.Ahead.{Ahead}
use Rattle.wire_options.specs.declared.walk.Listed.{Listed}
use Rattle.wire_options.specs.declared.walk.Met.{Met}
use Rattle.std.proofs.Common.{Result, Ok, Err}
use Rattle.wire_options.proofs.Stricts.{by-skip, walk-other}
use Rattle.wire_options.proofs.Runs.{run-passed, run-padded}

-- ---- APCs taken together

pub joined-absent : (a : Apcs) → joined a Absent ≡ a
joined-absent Absent = refl
joined-absent (Same v) = refl
joined-absent Different = refl

pub joined-different : (a : Apcs) → joined a Different ≡ Different
joined-different Absent = refl
joined-different (Same v) = refl
joined-different Different = refl

same_left : (v w : ℕ) (c : Apcs) → v ≡ w → joined (Same v) (joined (Same w) c) ≡ joined (Same v) c
same_left v w Absent e = simp (eq-eqb v w e)
same_left v w Different e = refl
same_left v w (Same x) e = go (eqb w x) refl
  where
    go : (t : Bool) → eqb w x ≡ t → joined (Same v) (cond t (Same w) Different) ≡ cond (eqb v x) (Same v) Different
    go true p = simp (eq-eqb v w e, eq-eqb v x (e ∙ eqb-true w x p))
    go false p = simp (ne_eqb v x (λ q. eqb-false w x p (sym e ∙ q)))

differ-left : (v w : ℕ) (c : Apcs) → (v ≡ w → ⊥) → joined (Same v) (joined (Same w) c) ≡ Different
differ-left v w Absent d = simp (ne_eqb v w d)
differ-left v w Different d = refl
differ-left v w (Same x) d = go (eqb w x)
  where
    go : (t : Bool) → joined (Same v) (cond t (Same w) Different) ≡ Different
    go true = simp (ne_eqb v w d)
    go false = refl

pub joined-assoc : (a b c : Apcs) → joined a (joined b c) ≡ joined (joined a b) c
joined-assoc Absent b c = refl
joined-assoc Different b c = refl
joined-assoc (Same v) Absent c = refl
joined-assoc (Same v) Different c = refl
joined-assoc (Same v) (Same w) c = go (eqb v w) refl
  where
    go : (t : Bool) → eqb v w ≡ t → joined (Same v) (joined (Same w) c) ≡ joined (cond t (Same v) Different) c
    go true e = same_left v w c (eqb-true v w e)
    go false e = differ-left v w c (eqb-false v w e)

-- ---- what a walk tells, with options before it

abbrev pub Answer : Type 0
Answer = Result Listed Met

abbrev pub readable : ℕ → ℕ → Apcs → Answer
readable count fill apcs = Ok (record { count = count; fill = fill; apcs = apcs })

abbrev pub behind : ℕ → Apcs → Answer → Answer
behind n a (Ok list) = readable (n + list.count) list.fill (joined a list.apcs)
behind n a (Err met) = Err met

pub behind-none : (w : Answer) → behind 0 Absent w ≡ w
behind-none (Ok list) = ap (λ (n : ℕ). readable n list.fill list.apcs) (zero-add list.count)
behind-none (Err met) = refl

pub behind-behind : (n m : ℕ) (a b : Apcs) (w : Answer) → behind n a (behind m b w) ≡ behind (n + m) (joined a b) w
behind-behind n m a b (Ok list) =
    ap₂ (λ (k : ℕ) (x : Apcs). readable k list.fill x) (sym (add_assoc n m list.count)) (joined-assoc a b list.apcs)
behind-behind n m a b (Err met) = refl

answer-before : (end : ℕ) (option : Located) (w : Walked) → walk_answer end (before option w) ≡ behind 1 (apc_of option.item) (walk_answer end w)
unfolding apcs_of
answer-before end option (listed options fill) = ap (λ (n : ℕ). readable n fill (joined (apc_of option.item) (apcs_of (items_in options)))) (omega arith)
answer-before end option (faulty fault remains) = refl

-- ---- one turn

pub record Goes (s : Strictness) (room : ℕ) (l : List ℕ) (left size : ℕ) (apcs : Apcs) : Type 0 where
  pub less : left ≤ room
  pub some : 0 < size
  pub fits : size ≤ length l
  pub carries : (end : ℕ) → walk_answer end (walk_by s room 0 l) ≡ behind (room - left) apcs (walk_answer end (walk_by s left 0 (drop size l)))

-- what the walk tells of a list, by how its first step goes on
abbrev pub Tells : Strictness → ℕ → List ℕ → Result Progress Ahead → Type 0
Tells s room l (Ok (On left size)) = Goes s room l left size Absent
Tells s room l (Ok (Apc left size value)) = Goes s room l left size (Same value)
Tells s room l (Ok (Ended fill)) = walk_by s room 0 l ≡ listed [] fill
Tells s room l (Err ahead) = (ahead.1 ≤ length l) × (walk_by s room 0 l ≡ faulty ahead.0 (length l - ahead.1))

-- a fault at the first byte
fails-here : (s : Strictness) (room : ℕ) (l : List ℕ) (fault : Fault) → walk_by s room 0 l ≡ faulty fault (length l) → Tells s room l (failed fault 0)
fails-here s room l fault w = (omega arith, w ∙ ap (faulty fault) (omega arith))

module _ (s : Strictness) (b : ℕ) (bs : List ℕ) where
  abbrev l : List ℕ
  l = b ∷ bs

  abbrev rest : ℕ → ℕ → Walked
  rest left skip = walk_by s left skip bs

  -- NOPs in a row: passed together, or padding
  tells-nops : (room : ℕ) → 0 < nops_of l → nops_of l ≤ length l → Tells s room l (nop_progress s room (nops_of l))
  tells-nops room some fits = go (is_padding s (nops_of l)) refl
    where
      behind-run : ℕ → Answer
      behind-run end = walk_answer end (walk_by s room 0 (drop (nops_of l) l))

      go : (t : Bool) → is_padding s (nops_of l) ≡ t → Tells s room l (cond t (failed Padded nop_limit) (Ok (On room (nops_of l))))
      go true e = (omega (arith, padding-limit s (nops_of l) e), run-padded s room l e)
      go false e =
          let none : 0 ≡ room - room = omega arith in
          record {
            less = omega arith;
            some = some;
            fits = fits;
            carries = λ end. ap (walk_answer end) (run-passed s room l e) ∙ sym (behind-none (behind-run end)) ∙ ap (λ (n : ℕ). behind n Absent (behind-run end)) none;
          }

  tells-step : (room : ℕ) (step : Step) → step_of l ≡ step → Tells s room l (progress_in s room l step)
  unfolding apcs_of
  tells-step room End e = walk-other s room b bs End e tt
  tells-step room Eol e = go (fill_is_zero l) (walk-other s room b bs Eol e tt)
    where
      go : (t : Bool) → walk_by s room 0 l ≡ cond t (listed [] (length l)) (faulty Tail (length l - zeros_of l))
          → Tells s room l (cond t (Ok (Ended (length l))) (failed Tail (zeros_of l)))
      go true w = w
      go false w = (zeros_within l, w)
  tells-step room Unsound e = fails-here s room l Malformed (walk-other s room b bs Unsound e tt)
  tells-step room Outlawed e = fails-here s room l Unsafe (walk-other s room b bs Outlawed e tt)
  tells-step room Nop e = tells-nops room (nops-some b bs (nop-byte b bs e)).0 (nops-within l)
  tells-step room (Found kind header size) e = go (eqb kind frag) room (walk-other s room b bs (Found kind header size) e tt)
    where
      option : Located
      option = located_of kind header size l

      value : ℕ
      value = number option.item.body

      -- an option that is taken: one less may come, and the rest starts behind it
      taken : (r : ℕ) → walk_by s (suc r) 0 l ≡ before option (rest r (size - 1)) → Goes s (suc r) l r size (apc_of option.item)
      taken r w =
          let f = (step-found l kind header size e).sized in
          let one : 1 ≡ suc r - r = omega arith in
          let down : suc (size - 1) ≡ size = omega (arith, f.least) in
          record {
            less = omega arith;
            some = omega (arith, f.least);
            fits = f.fits;
            carries = λ end.
                ap (walk_answer end) w ∙ answer-before end option (rest r (size - 1))
                ∙ ap₂ (λ (n : ℕ) (v : Walked). behind n (apc_of option.item) (walk_answer end v)) one
                (by-skip s r (size - 1) bs ∙ ap (λ (k : ℕ). walk_by s r 0 (drop k l)) down);
          }

      -- an APC, or another option
      by_kind : (r : ℕ) (t : Bool) → Goes s (suc r) l r size (cond t (Same value) Absent) → Tells s (suc r) l (cond t (Ok (Apc r size value)) (Ok (On r size)))
      by_kind r true g = g
      by_kind r false g = g

      go : (t : Bool) (r : ℕ) → walk_by s r 0 l ≡ cond t (faulty Malformed (length l)) (sound r option (λ left. rest left (size - 1)))
          → Tells s r l (cond t (failed Malformed 0) (room_progress r size option.item))
      go true r w = fails-here s r l Malformed w
      go false zero w = fails-here s 0 l Crowded w
      go false (suc r) w = by_kind r (eqb kind apc) (taken r w)

pub tells : (s : Strictness) (room : ℕ) (l : List ℕ) (progress : Result Progress Ahead) → 0 < length l → progress_of s room l ≡ progress → Tells s room l progress
unfolding progress_of
tells s room [] progress h q = absurd (omega arith)
tells s room (b ∷ bs) progress h q = subst (Tells s room (b ∷ bs)) q (tells-step s b bs room (step_of (b ∷ bs)) refl)

pub answer-none : (s : Strictness) (end room skip : ℕ) → walk_answer end (walk_by s room skip []) ≡ readable 0 0 Absent
unfolding walk_from strict_from apcs_of
answer-none Plain end room skip = refl
answer-none Strict end room skip = refl

-- the list ends, or a fault is met, behind the first `at` bytes
pub answer-ended : (s : Strictness) (end room : ℕ) (l : List ℕ) (fill : ℕ) → walk_by s room 0 l ≡ listed [] fill
    → walk_answer end (walk_by s room 0 l) ≡ readable 0 fill Absent
unfolding apcs_of
answer-ended s end room l fill w = ap (walk_answer end) w

pub answer-failed : (s : Strictness) (base room : ℕ) (l : List ℕ) (at : ℕ) (fault : Fault) (ahead : ℕ) → at ≤ length l
    → Tells s room (drop at l) (failed fault ahead)
    → walk_answer (base + length l) (walk_by s room 0 (drop at l)) ≡ Err (record { fault = fault; at = record { 0 = base + at + ahead } })
answer-failed s base room l at fault ahead h t =
    let left : length (drop at l) ≡ length l - at = length-drop at l in
    let offset : base + length l - (length (drop at l) - ahead) ≡ base + at + ahead = omega (arith, t.0) in
    ap (walk_answer (base + length l)) t.1 ∙ ap (λ (n : ℕ). Err (record { fault = fault; at = record { 0 = n } })) offset

-- a loop's turn: what was told of the whole by the rest is told by what is left of it
pub turn_on : (s : Strictness) (end : ℕ) (whole : Answer) (l : List ℕ) (room left next at size : ℕ) (passed apcs sum : Apcs) → left ≤ room
    → whole ≡ behind (room - left) passed (walk_answer end (walk_by s left 0 (drop at l))) → Goes s left (drop at l) next size apcs → sum ≡ joined passed apcs
    → whole ≡ behind (room - next) sum (walk_answer end (walk_by s next 0 (drop (at + size) l)))
turn_on s end whole l room left next at size passed apcs sum h e g j =
    let rest : Answer = walk_answer end (walk_by s next 0 (drop size (drop at l))) in
    let count : room - left + (left - next) ≡ room - next = omega (arith, g.less) in
    e ∙ ap (behind (room - left) passed) (g.carries end) ∙ behind-behind (room - left) (left - next) passed apcs rest
    ∙ ap₂ (λ (n : ℕ) (a : Apcs). behind n a rest) count (sym j)
    ∙ ap (λ (t : List ℕ). behind (room - next) sum (walk_answer end (walk_by s next 0 t))) (drop-drop size at l)
