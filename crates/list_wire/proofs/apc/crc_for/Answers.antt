-- `list_wire::apc::crc_for` meets its contract: where no option is an APC, any CRC gives the same wires.
use mathlib.Core.Path.{sym, ◌∙◌}
use Prim.Native.Nat.{ℕ}
use lib.ListN.{drop}
use Rattle.number_crc32c.specs.Crc.{crc_of}
use Rattle.list_entry.proofs.Places.{ValueAt, value_there, none-there}
use Rattle.list_wire.proofs.Listed.{no-apc, listed-counted, listed-uncounted}
use Rattle.list_wire.proofs.apc.crc_for.Goals as goal
use Rattle.list_wire.proofs.apc.crc_for.Goals.{Else-has_apc}

count : (c : Else-has_apc) → let v = c.in-Some.number in
    ValueAt 33 c.args.list.now 0 v.value v.next
count c = value_there _ _ _ _ _ (sym c.in-Some.ensures)

pub returns-in_default : goal.returns-in_default
returns-in_default c = let v = c.in-Some.number in
    let crc : ℕ = crc_of c.args.«data».now in
    listed-counted 0 (count c)
    ∙ no-apc 0 crc v.value (drop v.next c.args.list.now) (sym c.if-has_apc.ensures)
    ∙ sym (listed-counted crc (count c))

pub returns-in_default-2 : goal.returns-in_default-2
returns-in_default-2 c = let e = none-there _ _ _ (sym c.in_default.ensures) in
    listed-uncounted 0 c.args.list.now _ e ∙ sym (listed-uncounted (crc_of c.args.«data».now) c.args.list.now _ e)
