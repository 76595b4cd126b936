-- `list_entry::entry_at` meets its contract: the number that `number_at` finds is the kind, and `kind_at` reads what stands behind it.
use mathlib.Core.Path.{sym, ap, ◌∙◌}
use native.Mathlib.Omega.{arith}
use Rattle.std.proofs.Common.{Err}
use Rattle.std.proofs.lemmas.Result.{err_from_is_err_and}
use Rattle.list_entry.specs.Answer.{entry_answer}
use Rattle.list_entry.proofs.Found.{number_found, none_found}
use Rattle.list_entry.proofs.Entries.{entry-kind, entry-none}
use Rattle.list_entry.proofs.entry_at.Goals as goal

pub returns-in_err-number : goal.returns-in_err-number
returns-in_err-number c =
    let p = err_from_is_err_and c.from_residual.result c.from_residual.ensures.1 in
    let n = none_found _ _ _ _ _ _ c.number_at.ensures c.ok_or.ensures.value c.in_err-number.was in
    ap entry_answer (p.1 ∙ ap Err (p.2 ∙ n.told)) ∙ sym (entry-none _ _ n.reads)

pub overflow_cast-number : goal.overflow_cast-number
overflow_cast-number c = let v = number_found _ _ _ _ _ _ c.number_at.ensures c.ok_or.ensures.value c.in_ok-number.was in omega (arith, v.small)

pub kind_at-requires : goal.kind_at-requires
kind_at-requires c = (number_found _ _ _ _ _ _ c.number_at.ensures c.ok_or.ensures.value c.in_ok-number.was).within

pub returns : goal.returns
returns c = c.kind_at.ensures ∙ sym (entry-kind (number_found _ _ _ _ _ _ c.number_at.ensures c.ok_or.ensures.value c.in_ok-number.was))
