-- `list_area::put_blank` meets its contract: zeros, options and fill are laid one behind the other.
use mathlib.Core.List.{List, ◌++◌}
use Prim.Native.Nat.{ℕ}
use lib.ListN.{replicate}
use Rattle.list_wire.specs.Parts.{wires_listed}
use Rattle.list_wire.proofs.Laying.{laid-append, behind-room}
use Rattle.list_area.proofs.put_blank.Goals as goal

pub returns : goal.returns
returns c = let a = c.args in
    let list : List ℕ = wires_listed a.crc a.list.now in
    let zeros : List ℕ = replicate a.fill 0 in
    let first = c.put_start-start.ensures in
    let rest = laid-append c.put_listed-end.ensures c.put_zeros.ensures (behind-room (list ++ zeros) first c.requires) in
    laid-append first rest c.requires
