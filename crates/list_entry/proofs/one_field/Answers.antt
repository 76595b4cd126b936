-- `list_entry::one_field` meets its contract: what `field_at` finds is the field.
use mathlib.Core.Path.{sym, ap, ◌∙◌}
use mathlib.Core.List.{[], ◌∷◌}
use Prim.Native.Nat.{ℕ}
use lib.ListN.{length}
use Rattle.std.proofs.lemmas.Result.{err_from_is_err_and}
use Rattle.list_entry.specs.Option.{Read, read_as}
use Rattle.list_entry.specs.Answer.{entry_answer, fields_before}
use Rattle.list_entry.proofs.Found.{refusal_told}
use Rattle.list_entry.proofs.Places.{value_there, refused-there}
use Rattle.list_entry.proofs.Entries.{one-there}
use Rattle.list_entry.proofs.one_field.Goals as goal

pub returns-in_err-field : goal.returns-in_err-field
returns-in_err-field c = let a = c.args in
    let p = err_from_is_err_and c.from_residual.result c.from_residual.ensures.1 in
    let n = refused-there _ _ _ _ (sym c.in_err-field.ensures) in
    ap entry_answer p.1 ∙ ap refusal_told p.2
    ∙ sym (ap (λ (r : Read ℕ). fields_before (length a.list.now) a.kind (read_as (λ (n : ℕ). n ∷ []) r)) n)

pub returns : goal.returns
returns c = sym (one-there _ (value_there _ _ _ _ _ (sym c.in_ok-field.ensures)))
