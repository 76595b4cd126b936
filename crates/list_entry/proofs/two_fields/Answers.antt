-- `list_entry::two_fields` meets its contract: `field_at` finds the first field, and the second one behind it.
use mathlib.Core.Path.{sym, ap, ◌∙◌}
use mathlib.Core.List.{[], ◌∷◌}
use Prim.Native.Nat.{ℕ, ◌+◌}
use lib.ListN.{length}
use Rattle.std.proofs.lemmas.Result.{err_from_is_err_and}
use Rattle.list_entry.specs.Option.{Read, read_as, and_then}
use Rattle.list_entry.specs.Answer.{entry_answer, fields_before, read_behind}
use Rattle.list_entry.proofs.Found.{refusal_told}
use Rattle.list_entry.proofs.Places.{value_there, refused-there}
use Rattle.list_entry.proofs.Entries.{two-there, behind-there}
use Rattle.list_entry.proofs.two_fields.Goals as goal

pub returns-in_err-first : goal.returns-in_err-first
returns-in_err-first c = let a = c.args in
    let p = err_from_is_err_and c.from_residual.result c.from_residual.ensures.1 in
    let n = refused-there _ _ _ _ (sym c.in_err-first.ensures) in
    ap entry_answer p.1 ∙ ap refusal_told p.2
    ∙ sym (ap (λ (r : Read ℕ). fields_before (length a.list.now) a.kind (and_then r (λ n t. read_behind n (a.other + 1) t))) n)

pub returns-in_err-second : goal.returns-in_err-second
returns-in_err-second c = let a = c.args in
    let p = err_from_is_err_and c.from_residual-in_err-second.result c.from_residual-in_err-second.ensures.1 in
    let first = value_there _ _ _ _ _ (sym c.in_ok-first.ensures) in
    let n = refused-there _ _ _ _ (sym c.in_err-second.ensures) in
    ap entry_answer p.1 ∙ ap refusal_told p.2
    ∙ sym (two-there a.kind first (a.other + 1)
    ∙ ap (λ (r : Read ℕ). fields_before (length a.list.now) a.kind (read_as (λ (n : ℕ). c.in_ok-first.first.value ∷ n ∷ []) r)) n)

pub returns : goal.returns
returns c = let a = c.args in
    let first = value_there _ _ _ _ _ (sym c.in_ok-first.ensures) in
    sym (two-there a.kind first (a.other + 1)
    ∙ behind-there a.kind (value_there _ _ _ _ _ (sym c.in_ok-second.ensures)) c.in_ok-first.first.value)
