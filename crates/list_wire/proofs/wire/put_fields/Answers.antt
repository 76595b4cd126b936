-- `list_wire::wire::put_fields` meets its contract: the head says how many bytes the fields take, and they are laid behind it.
use mathlib.Core.Path.{◌≡◌, sym, ◌∙◌}
use Prim.Native.Nat.{ℕ, ◌+◌, ◌≤◌}
use native.Mathlib.Omega.{arith}
use lib.ListN.{length}
use Rattle.list_encoding.specs.Wire.{whole_length}
use Rattle.list_encoding.proofs.Checks.{fields-most}
use Rattle.list_wire.specs.Parts.{field_body}
use Rattle.list_wire.proofs.Laying.{laid-option, laid_by, body-room}
use Rattle.list_wire.proofs.Listed.{field-length}
use Rattle.list_wire.proofs.wire.put_fields.Goals as goal

pub put_head-start-requires : goal.put_head-start-requires
put_head-start-requires c = rw c.fields_length-size.ensures (fields-most _, c.requires)

-- there is room for the option
fits : (at n m room : ℕ) → n ≡ m → at + whole_length m ≤ room → at + whole_length n ≤ room
fits at n m room e h = rw e h

pub put_body-requires : goal.put_body-requires
put_body-requires c = rw (sym c.fields_length-size.ensures) (body-room c.args.kind c.fields_length-size.result c.put_head-start.ensures (fits c.args.at _ _ _ c.fields_length-size.ensures c.requires))

pub overflow_add-result : goal.overflow_add-result
overflow_add-result c = omega (arith, body-room c.args.kind c.fields_length-size.result c.put_head-start.ensures (fits c.args.at _ _ _ c.fields_length-size.ensures c.requires), c.put_head-start.auto.buffer)

pub returns : goal.returns
returns c = let a = c.args in
    let size = c.fields_length-size in
    let long : length (field_body a.kind a.first a.second a.crc) ≡ size.result = field-length a.kind a.first a.second a.crc ∙ sym size.ensures in
    laid-option a.kind size.result c.put_head-start.ensures (laid_by size.result c.put_body.ensures long) long (fits c.args.at _ _ _ c.fields_length-size.ensures c.requires)
