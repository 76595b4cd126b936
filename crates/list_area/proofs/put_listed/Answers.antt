-- `list_area::put_listed` meets its contract: the count is read, and so many options behind it are laid.
use mathlib.Core.Path.{sym, ap}
use native.Mathlib.Omega.{arith}
use lib.ListN.{length}
use Rattle.list_entry.proofs.Places.{ValueAt, value_there, none-there}
use Rattle.list_wire.proofs.Laying.{laid_as, laid_none}
use Rattle.list_wire.proofs.Listed.{listed-counted, listed-uncounted}
use Rattle.list_area.proofs.put_listed.Goals as goal

pub put_options-requires : goal.put_options-requires
put_options-requires c =
    let v : ValueAt 33 c.args.list.now 0 c.in-Some.count.value c.in-Some.count.next = value_there _ _ _ _ _ (sym c.in-Some.ensures) in
    omega (arith, c.requires, ap length (listed-counted c.args.crc v))

pub returns-in-Some : goal.returns-in-Some
returns-in-Some c =
    let v : ValueAt 33 c.args.list.now 0 c.in-Some.count.value c.in-Some.count.next = value_there _ _ _ _ _ (sym c.in-Some.ensures) in
    laid_as (sym (listed-counted c.args.crc v)) c.put_options.ensures

pub returns-in-None : goal.returns-in-None
returns-in-None c = let a = c.args in
    let e = none-there _ _ _ (sym c.in-None.ensures) in
    laid_as (sym (listed-uncounted a.crc a.list.now _ e)) (laid_none a.buffer.now a.at)
