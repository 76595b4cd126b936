-- `list_encoding::check::check` meets its contract: the number in front is the count, and `check_options` takes so many options.
use mathlib.Core.Path.{sym, ap, ◌∙◌}
use native.Mathlib.Omega.{arith}
use Rattle.std.proofs.Common.{Err}
use Rattle.std.proofs.lemmas.Result.{err_from_is_err_and}
use Rattle.list_entry.proofs.Found.{number_found, none_found}
use Rattle.list_encoding.specs.Wire.{measured, checked_answer}
use Rattle.list_encoding.proofs.Checks.{list_counted, list-uncounted}
use Rattle.list_encoding.proofs.check.check.Goals as goal

pub returns-in_err-number : goal.returns-in_err-number
returns-in_err-number c =
    let p = err_from_is_err_and c.from_residual.result c.from_residual.ensures.1 in
    let n = none_found _ _ _ _ _ _ c.number_at.ensures c.ok_or.ensures.value c.in_err-number.was in
    ap checked_answer (p.1 ∙ ap Err (p.2 ∙ n.told)) ∙ sym (ap measured (list-uncounted _ n.reads))

pub check_options-requires : goal.check_options-requires
check_options-requires c =
    let v = number_found _ _ _ _ _ _ c.number_at.ensures c.ok_or.ensures.value c.in_ok-number.was in omega (arith, v.small)

pub returns : goal.returns
returns c =
    let v = number_found _ _ _ _ _ _ c.number_at.ensures c.ok_or.ensures.value c.in_ok-number.was in
    c.check_options.ensures ∙ sym (ap measured (list_counted v))
