-- `list_entry::number_at` meets its contract: what `number_varint::decode` answers is the number at the position, which `number_at` holds to the limit.
use mathlib.Core.Path.{ap, ◌∙◌}
use Rattle.list_entry.specs.Answer.{field_answer}
use Rattle.list_entry.proofs.Found.{decoded_found, undecoded_found}
use Rattle.list_entry.proofs.Places.{decoded-below, decoded-over}
use Rattle.list_entry.proofs.number_at.Goals as goal

pub returns-in_err-decoded : goal.returns-in_err-decoded
returns-in_err-decoded c = let a = c.args in
    ap field_answer c.from_residual.ensures ∙ undecoded_found a.list.now a.at _ _ a.limit c.decode.ensures c.ok.ensures.value c.in_err-decoded.was

pub returns-then-decoded-limit : goal.returns-then-decoded-limit
returns-then-decoded-limit c = let a = c.args in
    decoded-below a.limit a.list.now a.at _ _ (decoded_found a.list.now a.at _ _ _ c.decode.ensures c.ok.ensures.value c.in_ok-decoded.was) c.if-decoded-limit.true

pub returns : goal.returns
returns c = let a = c.args in
    decoded-over a.limit a.list.now a.at _ _ (decoded_found a.list.now a.at _ _ _ c.decode.ensures c.ok.ensures.value c.in_ok-decoded.was) c.if-decoded-limit.false
