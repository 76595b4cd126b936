-- `wire_area::walk_area` meets its contract: the code looks for padding and for FRAG where the definition does, and walks what is behind the NOPs.
use mathlib.Core.Path.{◌≡◌, refl, sym, ap, ap₂, ◌∙◌}
use mathlib.Core.Bool.{Bool, true, false, cond}
use mathlib.Core.List.{List}
use Prim.Native.Nat.{ℕ, ◌+◌, ◌-◌}
use native.Mathlib.Omega.{arith}
use borrow.Author.Tests.{eq-eqb, ne_eqb}
use lib.Dec.{eqb}
use lib.ListN.{length, drop, get_or, length-drop, get_or-eq_default}
use Rattle.std.proofs.lemmas.Result.{err_from_is_err_and}
use Rattle.std.specs.Prelude.{Result, Ok, Err}
use Rattle.number_octets.specs.Octets.{part}
use Rattle.number_octets.proofs.Laws.{part-rest}
use Rattle.wire_nops.specs.Nops.{nop_limit, nops_of, is_padding}
use Rattle.wire_nops.specs.declared.Strictness.{Strictness}
use Rattle.wire_nops.proofs.Counts.{nops-within, padding-limit}
use Rattle.wire_step.specs.Kinds.{eol, frag}
use Rattle.wire_step.specs.Step.{step_of}
use Rattle.wire_options.specs.Walk.{Walked, listed, faulty, walk_answer, option_limit}
use Rattle.wire_options.specs.Strict.{walk_by}
use Rattle.wire_options.specs.declared.walk.Fault.TheVariants.{Padded}
use Rattle.wire_options.specs.declared.walk.Listed.{Listed}
use Rattle.wire_options.specs.declared.walk.Met.{Met}
use Rattle.wire_options.proofs.Runs.{run-passed}
use Rattle.wire_area.specs.Area.{fault, offset_in, led_by, plainly, behind_nops, area_of, area_answer}
use Rattle.wire_area.specs.declared.Area.{Area}
use Rattle.wire_area.specs.declared.Area.TheVariants.{Listed as Options}
use Rattle.wire_area.proofs.walk_area.Goals as goal
use Rattle.wire_area.proofs.walk_area.Goals.{else-nops-list-via-then-nops-list+else-list-nops-eq-FRAG, else-nops-list-via-else-nops-list}

-- what a walk without FRAG tells is what the area's walk tells
abbrev as_area : Result Listed Met → Result Area Met
as_area (Ok list) = Ok (Options list)
as_area (Err met) = Err met

plain-answer : (end : ℕ) (w : Walked) → as_area (walk_answer end w) ≡ area_answer (plainly end w)
plain-answer end (listed options fill) = refl
plain-answer end (faulty x remains) = refl

-- by whether the NOPs at the front are padding
padding-is : (how : Strictness) (empty : Bool) (base : ℕ) (l : List ℕ) (t : Bool) → is_padding how (nops_of l) ≡ t
    → area_of how empty base l ≡ cond t (fault Padded (offset_in base nop_limit)) (behind_nops how empty base l)
unfolding area_of
padding-is how empty base l t e = ap (λ (x : Bool). cond x (fault Padded (offset_in base nop_limit)) (behind_nops how empty base l)) e

-- .. and by whether FRAG is behind them
leads-is : (how : Strictness) (empty : Bool) (base : ℕ) (l : List ℕ) (t : Bool) → is_padding how (nops_of l) ≡ false → eqb (get_or l (nops_of l) eol) frag ≡ t
    → area_of how empty base l ≡ cond t (led_by how empty l base (nops_of l) (step_of (drop (nops_of l) l))) (plainly (base + length l) (walk_by how option_limit 0 l))
leads-is how empty base l t p e =
    padding-is how empty base l false p
    ∙ ap (λ (x : Bool). cond x (led_by how empty l base (nops_of l) (step_of (drop (nops_of l) l))) (plainly (base + length l) (walk_by how option_limit 0 l))) e

pub overflow_add-result : goal.overflow_add-result
unfolding nop_limit
overflow_add-result c = omega (arith, padding-limit c.args.strictness (nops_of c.args.list.now) (sym c.is_padded.ensures ∙ c.if-is_padded.true), nops-within c.args.list.now)

pub returns-then-is_padded : goal.returns-then-is_padded
unfolding nop_limit
returns-then-is_padded c = let a = c.args in
    sym (ap area_answer (padding-is a.strictness a.empty a.base.0 a.list.now true (sym c.is_padded.ensures ∙ c.if-is_padded.true)))

pub returns-then-list-nops-eq-FRAG : goal.returns-then-list-nops-eq-FRAG
returns-then-list-nops-eq-FRAG c = let a = c.args in
    let nops = c.leading_nops-nops in
    let few : is_padding a.strictness (nops_of a.list.now) ≡ false = sym c.is_padded.ensures ∙ c.if-is_padded.false in
    let led-here : eqb (get_or a.list.now (nops_of a.list.now) eol) frag ≡ true =
    eq-eqb _ frag (ap (λ (n : ℕ). get_or a.list.now n 0) (sym nops.ensures.0) ∙ c.if-list-nops-eq-FRAG.true) in
    c.led.ensures
    ∙ ap (λ (n : ℕ). area_answer (led_by a.strictness a.empty a.list.now a.base.0 n (step_of (drop n a.list.now)))) nops.ensures.0
    ∙ sym (ap area_answer (leads-is a.strictness a.empty a.base.0 a.list.now true few led-here))

pub walk_list-requires : goal.walk_list-requires
walk_list-requires c = let a = c.args in
    let n : ℕ = c.leading_nops-nops.result in
    omega (arith, ap length (part-rest n a.list.now) ∙ length-drop n a.list.now)

-- where no padding and no FRAG is behind the NOPs, the walk of what is behind them tells all
plain-is : (how : Strictness) (empty : Bool) (base : ℕ) (l : List ℕ) (n : ℕ) (r : Result Listed Met) → n ≡ nops_of l → is_padding how (nops_of l) ≡ false
    → (get_or l n eol ≡ frag → ⊥)
    → r ≡ walk_answer (base + n + length (part n (length l - n) l)) (walk_by how option_limit 0 (part n (length l - n) l))
    → as_area r ≡ area_answer (area_of how empty base l)
plain-is how empty base l n r e few other w =
    let rest = part-rest n l in
    let end : base + n + length (part n (length l - n) l) ≡ base + length l =
    omega (arith, ap length rest ∙ length-drop n l, nops-within l) in
    let no-frag : eqb (get_or l (nops_of l) eol) frag ≡ false = ne_eqb _ frag (λ q. other (ap (λ (k : ℕ). get_or l k eol) e ∙ q)) in
    ap as_area w
    ∙ ap₂ (λ (k : ℕ) (m : List ℕ). as_area (walk_answer k (walk_by how option_limit 0 m))) end (rest ∙ ap (λ (n : ℕ). drop n l) e)
    ∙ ap (λ (w : Walked). as_area (walk_answer (base + length l) w)) (sym (run-passed how option_limit l few))
    ∙ plain-answer (base + length l) (walk_by how option_limit 0 l)
    ∙ sym (ap area_answer (leads-is how empty base l false few no-frag))

pub returns-in_err-listed : goal.returns-in_err-listed
unfolding option_limit
returns-in_err-listed c = let a = c.args in
    let p = err_from_is_err_and c.from_residual.result c.from_residual.ensures.1 in
    let n : ℕ = c.leading_nops-nops.result in
    let other : get_or a.list.now n eol ≡ frag → ⊥ = elim c.else-nops-list.branch [
      | else-nops-list-via-then-nops-list+else-list-nops-eq-FRAG w ↦ w.if-list-nops-eq-FRAG.false
      | else-nops-list-via-else-nops-list w ↦ λ q. let z = get_or-eq_default a.list.now 0 w.if-nops-list.false in cc
    ] in
    rw (p.1, p.2) (plain-is a.strictness a.empty a.base.0 a.list.now n (Err c.in_err-listed.field-0.0) c.leading_nops-nops.ensures.0 (sym c.is_padded.ensures ∙ c.if-is_padded.false) other c.in_err-listed.ensures)

pub returns : goal.returns
unfolding option_limit
returns c = let a = c.args in
    let n : ℕ = c.leading_nops-nops.result in
    let other : get_or a.list.now n eol ≡ frag → ⊥ = elim c.else-nops-list.branch [
      | else-nops-list-via-then-nops-list+else-list-nops-eq-FRAG w ↦ w.if-list-nops-eq-FRAG.false
      | else-nops-list-via-else-nops-list w ↦ λ q. let z = get_or-eq_default a.list.now 0 w.if-nops-list.false in cc
    ] in
    plain-is a.strictness a.empty a.base.0 a.list.now n (Ok c.in_ok-listed.listed) c.leading_nops-nops.ensures.0 (sym c.is_padded.ensures ∙ c.if-is_padded.false) other c.in_ok-listed.ensures
