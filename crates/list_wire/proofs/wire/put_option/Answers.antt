-- `list_wire::wire::put_option` meets its contract: a head, and the body behind it.
use mathlib.Core.Path.{refl}
use Prim.Native.Nat.{ℕ}
use lib.ListN.{length}
use Rattle.list_wire.proofs.Laying.{laid-option, laid_by, body-room}
use Rattle.list_wire.proofs.wire.put_option.Goals as goal

pub copy-requires : goal.copy-requires
copy-requires c = body-room c.args.kind (length c.args.body.now) c.put_head-start.ensures c.requires.1

pub returns : goal.returns
returns c = let n : ℕ = length c.args.body.now in
    laid-option c.args.kind n c.put_head-start.ensures (laid_by n c.copy.ensures refl) refl c.requires.1
