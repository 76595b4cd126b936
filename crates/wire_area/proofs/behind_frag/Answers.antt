-- `wire_area::behind_frag` meets its contract: the arm knows what FRAG's tests came to, at which `behind_frag` computes.
use mathlib.Core.Path.{◌≡◌, refl, sym, ap, ap₂, ◌∙◌}
use mathlib.Core.Bool.{Bool, true}
use mathlib.Core.List.{List}
use Prim.Native.Nat.{ℕ, ◌+◌, ◌-◌}
use native.Mathlib.Omega.{arith}
use lib.ListN.{length}
use Rattle.std.proofs.lemmas.Result.{err_from_is_err_and}
use Rattle.std.specs.Prelude.{Option, Some, Result, Ok, Err}
use Rattle.number_octets.specs.Octets.{part}
use Rattle.number_octets.proofs.Laws.{length_part}
use Rattle.wire_area.specs.Area.{up_to_start, behind_frag, area_answer, piece_with}
use Rattle.wire_options.specs.Walk.{Walked, walk_answer, option_limit, listed, faulty}
use Rattle.wire_options.specs.Strict.{walk_by}
use Rattle.wire_options.specs.declared.walk.Listed.{Listed}
use Rattle.wire_options.specs.declared.walk.Met.{Met}
use Rattle.wire_options.proofs.Walks.{answer-none}
use Rattle.wire_area.specs.declared.Area.{Area}
use Rattle.wire_area.specs.declared.Area.TheVariants.{Piece}
use Rattle.wire_area.specs.declared.Fragment.{Fragment}
use Rattle.wire_area.proofs.Areas.{fragment-within}
use Rattle.wire_nops.specs.declared.Strictness.{Strictness}
use Rattle.wire_area.proofs.behind_frag.Goals as goal

-- what a walk behind FRAG tells is dropped, but for faults
abbrev as_piece : Fragment → Result Listed Met → Result Area Met
as_piece f (Ok others) = Ok (Piece f)
as_piece f (Err met) = Err met

piece-answer : (f : Fragment) (w : Walked) → as_piece f (walk_answer f.start.0 w) ≡ area_answer (piece_with f w)
piece-answer f (listed options fill) = refl
piece-answer f (faulty x remains) = refl

-- what the walk of `n` bytes behind FRAG answers, where FRAG passes its tests and there is no user data
behind-answer : (how : Strictness) (empty : Bool) (l : List ℕ) (base nops behind n end : ℕ) (p : Option Fragment) (f : Fragment) (r : Result Listed Met)
    → empty ≡ true → p ≡ Some f → end ≡ f.start.0 → n ≡ f.start.0 - (base + behind)
    → r ≡ walk_answer end (walk_by how (option_limit - 1) 0 (part behind n l)) → as_piece f r ≡ area_answer (behind_frag how empty l base nops behind p)
behind-answer how empty l base nops behind n end p f r h e k m w =
    ap (as_piece f) w
    ∙ ap₂ (λ (k n : ℕ). as_piece f (walk_answer k (walk_by how (option_limit - 1) 0 (part behind n l)))) k m
    ∙ piece-answer f (walk_by how (option_limit - 1) 0 (up_to_start f base behind l))
    ∙ ap₂ (λ (b : Bool) (q : Option Fragment). area_answer (behind_frag how b l base nops behind q)) (sym h) (sym e)

pub overflow_sub-end : goal.overflow_sub-end
overflow_sub-end c = let b = fragment-within c.args.fields c.args.base.0 c.args.behind (length c.args.list.now) c.in-Some.fragment (sym c.fragment_of.ensures ∙ c.in-Some.is) in omega (arith, b.0, b.1)

pub slice_bounds-walk_list-count : goal.slice_bounds-walk_list-count
slice_bounds-walk_list-count c = let b = fragment-within c.args.fields c.args.base.0 c.args.behind (length c.args.list.now) c.in-Some.fragment (sym c.fragment_of.ensures ∙ c.in-Some.is) in omega (arith, b.0, b.1)

pub slice_bounds-walk_list-start : goal.slice_bounds-walk_list-start
slice_bounds-walk_list-start c = let b = fragment-within c.args.fields c.args.base.0 c.args.behind (length c.args.list.now) c.in-Some.fragment (sym c.fragment_of.ensures ∙ c.in-Some.is) in omega (arith, b.0, b.1)

pub slice_bounds-walk_list-end : goal.slice_bounds-walk_list-end
slice_bounds-walk_list-end c = let b = fragment-within c.args.fields c.args.base.0 c.args.behind (length c.args.list.now) c.in-Some.fragment (sym c.fragment_of.ensures ∙ c.in-Some.is) in omega (arith, b.0, b.1)

pub returns-in_err-walk_list : goal.returns-in_err-walk_list
unfolding option_limit
returns-in_err-walk_list c = let a = c.args in
    let p = err_from_is_err_and c.from_residual.result c.from_residual.ensures.1 in
    let b = fragment-within c.args.fields c.args.base.0 c.args.behind (length c.args.list.now) c.in-Some.fragment (sym c.fragment_of.ensures ∙ c.in-Some.is) in
    let n : ℕ = c.in-Some.fragment.start.0 - a.base.0 - a.behind in
    let end : a.base.0 + a.behind + length (part a.behind n a.list.now) ≡ c.in-Some.fragment.start.0 = omega (arith, length_part a.behind n a.list.now (omega (arith, b.0, b.1)), b.0) in
    rw (p.1, p.2) (behind-answer a.strictness a.empty a.list.now a.base.0 a.nops a.behind n _ _ c.in-Some.fragment (Err c.in_err-walk_list.field-0.0) c.if-not-empty.false (sym c.fragment_of.ensures ∙ c.in-Some.is) end (omega arith) c.in_err-walk_list.ensures)

pub returns-in_ok-walk_list : goal.returns-in_ok-walk_list
unfolding option_limit
returns-in_ok-walk_list c = let a = c.args in
    let b = fragment-within c.args.fields c.args.base.0 c.args.behind (length c.args.list.now) c.in-Some.fragment (sym c.fragment_of.ensures ∙ c.in-Some.is) in
    let n : ℕ = c.in-Some.fragment.start.0 - a.base.0 - a.behind in
    let end : a.base.0 + a.behind + length (part a.behind n a.list.now) ≡ c.in-Some.fragment.start.0 = omega (arith, length_part a.behind n a.list.now (omega (arith, b.0, b.1)), b.0) in
    behind-answer a.strictness a.empty a.list.now a.base.0 a.nops a.behind n _ _ c.in-Some.fragment (Ok c.in_ok-walk_list.field-0) c.if-not-empty.false (sym c.fragment_of.ensures ∙ c.in-Some.is) end (omega arith) c.in_ok-walk_list.ensures

-- where nothing stands between FRAG and Frag. Start, the walk would meet nothing
pub returns-else-end-behind : goal.returns-else-end-behind
returns-else-end-behind c = let a = c.args in
    let b = fragment-within c.args.fields c.args.base.0 c.args.behind (length c.args.list.now) c.in-Some.fragment (sym c.fragment_of.ensures ∙ c.in-Some.is) in
    behind-answer a.strictness a.empty a.list.now a.base.0 a.nops a.behind 0 _ _ c.in-Some.fragment _ c.if-not-empty.false (sym c.fragment_of.ensures ∙ c.in-Some.is) refl (omega (arith, b.0, b.1)) (sym (answer-none a.strictness c.in-Some.fragment.start.0 (option_limit - 1) 0))
