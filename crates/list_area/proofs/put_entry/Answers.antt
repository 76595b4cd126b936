-- `list_area::put_entry` meets its contract: what `entry_at` finds is the option at the position, and its wire is laid.
use mathlib.Core.Path.{sym, ap, ◌∙◌}
use mathlib.Core.List.{List}
use Prim.Native.Nat.{ℕ, ◌-◌}
use native.Mathlib.Omega.{arith}
use lib.ListN.{length, drop}
use Rattle.std.proofs.Common.{Ok}
use Rattle.number_octets.specs.Octets.{part}
use Rattle.list_entry.specs.Answer.{entry_answer}
use Rattle.list_entry.specs.declared.Entry.{Entry}
use Rattle.list_encoding.specs.Wire.{whole_length}
use Rattle.list_entry.proofs.Entered.{FieldsAt, BodyAt, entry-fields, entry-body, entry-refused}
use Rattle.list_wire.specs.Parts.{field_body, wire_read, left_behind}
use Rattle.list_wire.proofs.Laying.{laid_as, laid_none, wire-length}
use Rattle.list_wire.proofs.Listed.{Found, field-length, fields-wire, body-wire, body-worked}
use Rattle.list_area.proofs.put_entry.Goals as goal

pub put_fields-requires : goal.put_fields-requires
put_fields-requires c =
    let a = c.args in
    let v = c.in-Fields in
    let f : FieldsAt a.list.now a.from v.kind v.first v.second v.next =
    entry-fields _ _ _ _ _ _ (sym c.in-Ok.ensures ∙ ap (λ (e : Entry). entry_answer (Ok e)) v.is) in
    let e = fields-wire a.crc (λ i. (c.type_inv.list i).fits) f in
    let body : List ℕ = field_body v.kind v.first v.second a.crc in
    omega (arith, c.requires, ap length e, wire-length v.kind body, ap whole_length (field-length v.kind v.first v.second a.crc))

pub slice_bounds-put_option-count : goal.slice_bounds-put_option-count
slice_bounds-put_option-count c =
    let a = c.args in
    let v = c.in-Body in
    let b : BodyAt a.list.now a.from v.kind v.start v.size v.next =
    entry-body _ _ _ _ _ _ (sym c.in-Ok.ensures ∙ ap (λ (e : Entry). entry_answer (Ok e)) v.is) in
    let w : Found a.crc a.list.now b.item v.kind v.start v.next = body-worked _ b in
    omega (arith, w.before)

pub slice_bounds-put_option-start : goal.slice_bounds-put_option-start
slice_bounds-put_option-start c =
    let a = c.args in
    let v = c.in-Body in
    let b : BodyAt a.list.now a.from v.kind v.start v.size v.next =
    entry-body _ _ _ _ _ _ (sym c.in-Ok.ensures ∙ ap (λ (e : Entry). entry_answer (Ok e)) v.is) in
    let w : Found a.crc a.list.now b.item v.kind v.start v.next = body-worked _ b in
    omega (arith, w.before)

pub slice_bounds-put_option-end : goal.slice_bounds-put_option-end
slice_bounds-put_option-end c =
    let a = c.args in
    let v = c.in-Body in
    let b : BodyAt a.list.now a.from v.kind v.start v.size v.next =
    entry-body _ _ _ _ _ _ (sym c.in-Ok.ensures ∙ ap (λ (e : Entry). entry_answer (Ok e)) v.is) in
    omega (arith, b.there.within)

pub put_option-requires : goal.put_option-requires
put_option-requires c =
    let a = c.args in
    let v = c.in-Body in
    let b : BodyAt a.list.now a.from v.kind v.start v.size v.next =
    entry-body _ _ _ _ _ _ (sym c.in-Ok.ensures ∙ ap (λ (e : Entry). entry_answer (Ok e)) v.is) in
    let w : Found a.crc a.list.now b.item v.kind v.start v.next = body-worked _ b in
    let body : List ℕ = part v.start (v.next - v.start) a.list.now in
    (omega (arith, w.long, w.small), omega (arith, c.requires, ap length (body-wire a.crc b), wire-length v.kind body))

pub returns-in-Fields : goal.returns-in-Fields
returns-in-Fields c =
    let a = c.args in
    let v = c.in-Fields in
    let f : FieldsAt a.list.now a.from v.kind v.first v.second v.next =
    entry-fields _ _ _ _ _ _ (sym c.in-Ok.ensures ∙ ap (λ (e : Entry). entry_answer (Ok e)) v.is) in
    record {
      laid = laid_as (sym (fields-wire a.crc (λ i. (c.type_inv.list i).fits) f)) c.put_fields.ensures;
      left = sym (ap (left_behind (drop a.from a.list.now)) f.there.reads);
    }

pub returns-in-Body : goal.returns-in-Body
returns-in-Body c =
    let a = c.args in
    let v = c.in-Body in
    let b : BodyAt a.list.now a.from v.kind v.start v.size v.next =
    entry-body _ _ _ _ _ _ (sym c.in-Ok.ensures ∙ ap (λ (e : Entry). entry_answer (Ok e)) v.is) in
    record {
      laid = laid_as (sym (body-wire a.crc b)) c.put_option.ensures;
      left = sym (ap (left_behind (drop a.from a.list.now)) b.there.reads);
    }

pub returns-in_default : goal.returns-in_default
returns-in_default c = let a = c.args in
    let e = entry-refused _ _ _ (sym c.in_default.ensures) in
    record {
      laid = laid_as (sym (ap (wire_read a.crc) e)) (laid_none a.buffer.now a.at);
      left = sym (ap (left_behind (drop a.from a.list.now)) e);
    }
