-- `list_wire::wire::put_body` meets its contract: each arm lays the fields of its kind, and a kind with no field has an empty body.
use mathlib.Core.Path.{◌≡◌, refl, sym, ap, ap₂, ◌∙◌}
use mathlib.Core.List.{List, [], ◌∷◌, ◌++◌}
use Prim.Native.Nat.{ℕ, ◌+◌, ◌%◌}
use native.Mathlib.Omega.{arith}
use Rattle.number_octets.specs.Octets.{octets, overlay}
use Rattle.number_octets.proofs.Laws.{length-octets, overlay-sets}
use Rattle.list_entry.specs.Shape.{shape_of}
use Rattle.list_entry.specs.Option.{total}
use Rattle.list_encoding.specs.Wire.{fields_on_wire}
use Rattle.list_encoding.proofs.Checks.{fields-token}
use Rattle.list_wire.specs.Parts.{field_body}
use Rattle.list_wire.proofs.Laying.{laid_both, laid_none, narrow-bytes, byte-bytes}
use Rattle.list_wire.proofs.Listed.{field-none, field-token}
use Rattle.list_wire.proofs.wire.put_body.Goals as goal

-- what is laid in the arm of a kind are the fields of an option of that kind
armed : (t : List ℕ) (at : ℕ) {u : List ℕ} (kind first second crc k : ℕ) (body : List ℕ) → u ≡ overlay t at body → kind ≡ k → body ≡ field_body k first second crc
    → u ≡ overlay t at (field_body kind first second crc)
armed t at kind first second crc k body laid e is =
    laid ∙ ap (overlay t at) (is ∙ sym (ap (λ (n : ℕ). field_body n first second crc) e))

-- a kind with no field leaves the buffer as it is
bare : (t : List ℕ) (at kind first second crc : ℕ) → field_body kind first second crc ≡ [] → t ≡ overlay t at (field_body kind first second crc)
bare t at kind first second crc e = (laid_none t at).over ∙ ap (overlay t at) (sym e)

pub put_u32-requires : goal.put_u32-requires
unfolding fields_on_wire shape_of total
put_u32-requires c = let on = ap fields_on_wire c.in-2.is in rw on at c.requires

pub put_u16-requires : goal.put_u16-requires
unfolding fields_on_wire shape_of total
put_u16-requires c = let on = ap fields_on_wire c.in-4.is in rw on at c.requires

pub put_u16-requires-in-5 : goal.put_u16-requires-in-5
unfolding fields_on_wire shape_of total
put_u16-requires-in-5 c = let on = ap fields_on_wire c.in-5.is in omega (arith, on, c.requires)

pub bounds-buffer-at : goal.bounds-buffer-at
unfolding fields_on_wire shape_of total
bounds-buffer-at c = let on = ap fields_on_wire c.in-5.is in omega (arith, on, c.requires, c.put_u16-in-5.auto.bytes)

pub put_u32-requires-in-8 : goal.put_u32-requires-in-8
unfolding fields_on_wire shape_of total
put_u32-requires-in-8 c = let on = ap fields_on_wire c.in-8.is in omega (arith, on, c.requires)

pub put_u32-requires-in-8-2 : goal.put_u32-requires-in-8-2
unfolding fields_on_wire shape_of total
put_u32-requires-in-8-2 c = let on = ap fields_on_wire c.in-8.is in omega (arith, on, c.requires, c.put_u32-in-8.auto.bytes)

pub put_u32-requires-in-6 : goal.put_u32-requires-in-6
put_u32-requires-in-6 c = let on = fields-token c.args.kind (omega arith) (omega arith) in rw on at c.requires

pub returns-in-2 : goal.returns-in-2
unfolding field_body shape_of
returns-in-2 c = armed _ _ _ _ _ _ _ _ c.put_u32.ensures c.in-2.is refl

pub returns-in-4 : goal.returns-in-4
unfolding field_body shape_of
returns-in-4 c = armed _ _ _ _ _ _ _ _ c.put_u16.ensures c.in-4.is (narrow-bytes c.args.first)

pub returns-in-5 : goal.returns-in-5
unfolding field_body shape_of fields_on_wire total
returns-in-5 c = let a = c.args in
    let on = ap fields_on_wire c.in-5.is in
    let low : ℕ = a.first % 65536 in
    let high : ℕ = a.second % 256 in
    let stored = c.put_u16-in-5 in
    let last = overlay-sets stored.new.bytes (a.at + 2) (high ∷ []) (omega (arith, on, c.requires, stored.auto.bytes)) in
    let both = laid_both (octets 2 low) (high ∷ []) 2 1 stored.ensures last (length-octets 2 low) refl (omega (arith, on, c.requires)) in
    armed _ _ _ _ _ _ _ _ both.over c.in-5.is (ap₂ ◌++◌ (narrow-bytes a.first) (byte-bytes a.second))

pub returns-in-8 : goal.returns-in-8
unfolding field_body shape_of fields_on_wire total
returns-in-8 c = let a = c.args in
    let on = ap fields_on_wire c.in-8.is in
    let both =
    laid_both (octets 4 a.first) (octets 4 a.second) 4 4 c.put_u32-in-8.ensures c.put_u32-in-8-2.ensures (length-octets 4 a.first) (length-octets 4 a.second)
    (omega (arith, on, c.requires)) in
    armed _ _ _ _ _ _ _ _ both.over c.in-8.is refl

pub returns-in-6 : goal.returns-in-6
returns-in-6 c = let a = c.args in
    c.put_u32-in-6.ensures ∙ ap (overlay a.buffer.now a.at) (sym (field-token a.kind a.first a.second a.crc (omega arith) (omega arith)))

pub returns-then-kind-lt4 : goal.returns-then-kind-lt4
returns-then-kind-lt4 c = let a = c.args in
    bare _ _ _ _ _ _ (field-none a.kind a.first a.second a.crc (λ e. omega arith) (λ e. omega arith) (λ e. omega arith) (λ e. omega arith) (λ e. omega arith) (λ e. omega arith))

pub returns-else-kind-lt8 : goal.returns-else-kind-lt8
returns-else-kind-lt8 c = let a = c.args in
    bare _ _ _ _ _ _ (field-none a.kind a.first a.second a.crc (λ e. omega arith) (λ e. omega arith) (λ e. omega arith) (λ e. omega arith) (λ e. omega arith) (λ e. omega arith))
