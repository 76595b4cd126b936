-- `list_encoding::check::measure_at` meets its contract: what `entry_at` finds is the option at the position, and its size is that of its fields or of its
-- body. Assumes nothing.
use mathlib.Core.Path.{sym, ap, ap₂, ◌∙◌}
use Prim.Native.Nat.{ℕ}
use Rattle.std.proofs.Common.{Ok, Err}
use Rattle.std.proofs.lemmas.Result.{err_from_is_err_and}
use Rattle.list_encoding.specs.Encoding.{given}
use Rattle.list_entry.specs.Answer.{entry_answer}
use Rattle.list_entry.specs.declared.Entry.{Entry}
use Rattle.list_encoding.specs.Wire.{whole_length, measured_answer}
use Rattle.list_entry.proofs.Entered.{FieldsAt, BodyAt, entry-fields, entry-body, entry-refused}
use Rattle.list_encoding.proofs.Checks.{fields-most, fields-size, body-size, sized-refused}
use Rattle.list_encoding.proofs.check.measure_at.Goals as goal
use Rattle.list_encoding.proofs.check.measure_at.Goals.{After-whole, After-whole-in-Body, In-Body}

found-fields : (c : After-whole) → let a = c.args in
    let v = c.in-Fields in
    FieldsAt a.list.now a.at v.kind v.first v.second v.next
found-fields c = entry-fields _ _ _ _ _ _ (sym c.in_ok-found.ensures ∙ ap (λ (e : Entry). entry_answer (Ok e)) c.in-Fields.is)

found-body : (c : In-Body) → let a = c.args in
    let v = c.in-Body in
    BodyAt a.list.now a.at v.kind v.start v.size v.next
found-body c = entry-body _ _ _ _ _ _ (sym c.in_ok-found.ensures ∙ ap (λ (e : Entry). entry_answer (Ok e)) c.in-Body.is)

found-body-2 : (c : After-whole-in-Body) → let a = c.args in
    let v = c.in-Body in
    BodyAt a.list.now a.at v.kind v.start v.size v.next
found-body-2 c = entry-body _ _ _ _ _ _ (sym c.in_ok-found.ensures ∙ ap (λ (e : Entry). entry_answer (Ok e)) c.in-Body.is)

pub returns-in_err-found : goal.returns-in_err-found
returns-in_err-found c =
    let p = err_from_is_err_and c.from_residual.result c.from_residual.ensures.1 in
    ap measured_answer (p.1 ∙ ap Err p.2) ∙ sym (sized-refused _ _ _ (entry-refused _ _ _ (sym c.in_err-found.ensures)))

pub whole-requires : goal.whole-requires
whole-requires c = rw c.fields_length.ensures (fields-most _)

pub whole-requires-in-Body : goal.whole-requires-in-Body
whole-requires-in-Body c = (body-size (found-body c)).1

pub returns-in-Fields : goal.returns-in-Fields
returns-in-Fields c =
    ap₂ (λ (n k : ℕ). given (record { size = n; next = k })) (c.whole.ensures.0 ∙ ap whole_length c.fields_length.ensures) c.whole.ensures.1
    ∙ sym (fields-size (found-fields c))

pub returns-in-Body : goal.returns-in-Body
returns-in-Body c =
    ap₂ (λ (n k : ℕ). given (record { size = n; next = k })) c.whole-in-Body.ensures.0 c.whole-in-Body.ensures.1 ∙ sym (body-size (found-body-2 c)).0
