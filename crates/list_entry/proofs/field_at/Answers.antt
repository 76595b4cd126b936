-- `list_entry::field_at` meets its contract: the number that `number_at` finds is the field, and fits in 32 bits.
use mathlib.Core.Path.{sym, ap, ◌∙◌}
use Prim.Native.Nat.{ℕ, ◌+◌}
use native.Mathlib.Omega.{arith}
use Rattle.std.proofs.Common.{Err}
use Rattle.std.proofs.lemmas.Result.{err_from_is_err_and}
use Rattle.list_entry.specs.Answer.{value_answer, number_at}
use Rattle.list_entry.proofs.Found.{number_found, none_found}
use Rattle.list_entry.proofs.Places.{value-here, none-here}
use Rattle.list_entry.proofs.field_at.Goals as goal

pub returns-in_err-number : goal.returns-in_err-number
returns-in_err-number c =
    let p = err_from_is_err_and c.from_residual.result c.from_residual.ensures.1 in
    let n = none_found _ _ _ _ _ _ c.number_at.ensures c.ok_or.ensures.value c.in_err-number.was in
    ap value_answer (p.1 ∙ ap Err (p.2 ∙ n.told)) ∙ sym (none-here _ _ _ n.reads)
    ∙ ap (λ (n : ℕ). number_at (n + 1) c.args.list.now c.args.at) c.from.ensures

pub overflow_cast-result : goal.overflow_cast-result
overflow_cast-result c = let v = number_found _ _ _ _ _ _ c.number_at.ensures c.ok_or.ensures.value c.in_ok-number.was in omega (arith, v.small)

pub returns : goal.returns
returns c = sym (value-here (number_found _ _ _ _ _ _ c.number_at.ensures c.ok_or.ensures.value c.in_ok-number.was))
    ∙ ap (λ (n : ℕ). number_at (n + 1) c.args.list.now c.args.at) c.from.ensures
