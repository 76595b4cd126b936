-- `list_entry::raw_body` meets its contract: the number that `number_at` finds is the body's size, and the body is within the list or not.
use mathlib.Core.Path.{sym, ap, ◌∙◌}
use native.Mathlib.Omega.{arith}
use Rattle.std.proofs.Common.{Err}
use Rattle.std.proofs.lemmas.Result.{err_from_is_err_and}
use Rattle.list_entry.specs.Answer.{entry_answer}
use Rattle.list_entry.proofs.Found.{number_found, none_found}
use Rattle.list_entry.proofs.Entries.{raw-cut, raw-there, raw-none}
use Rattle.list_entry.proofs.raw_body.Goals as goal

pub returns-in_err-number : goal.returns-in_err-number
returns-in_err-number c = let a = c.args in
    let p = err_from_is_err_and c.from_residual.result c.from_residual.ensures.1 in
    let n = none_found _ _ _ _ _ _ c.number_at.ensures c.ok_or.ensures.value c.in_err-number.was in
    ap entry_answer (p.1 ∙ ap Err (p.2 ∙ n.told)) ∙ sym (raw-none a.list.now a.at a.kind c.requires n.reads)

pub overflow_sub-list : goal.overflow_sub-list
overflow_sub-list c = let v = number_found _ _ _ _ _ _ c.number_at.ensures c.ok_or.ensures.value c.in_ok-number.was in omega (arith, v.within)

pub returns-then-list-number : goal.returns-then-list-number
returns-then-list-number c = sym (raw-cut _ _ _ _ _ c.requires (number_found _ _ _ _ _ _ c.number_at.ensures c.ok_or.ensures.value c.in_ok-number.was) c.if-list-number.true)

pub returns : goal.returns
returns c = sym (raw-there _ _ _ _ _ c.requires (number_found _ _ _ _ _ _ c.number_at.ensures c.ok_or.ensures.value c.in_ok-number.was) c.if-list-number.false)
