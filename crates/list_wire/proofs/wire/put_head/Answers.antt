-- `list_wire::wire::put_head` meets its contract: each form is stored byte by byte, and the test tells which.
use mathlib.Core.Path.{sym}
use Prim.Native.Nat.{◌+◌}
use native.Mathlib.Omega.{arith}
use lib.ListN.{length-set}
use Rattle.list_encoding.proofs.Checks.{length-short, length-extended}
use Rattle.list_wire.proofs.Laying.{laid_as, laid-two, laid-long, head-short}
use Rattle.list_wire.proofs.wire.put_head.Goals as goal

pub bounds-buffer-at : goal.bounds-buffer-at
bounds-buffer-at c = omega (arith, length-short c.args.size c.if-size-le-LONGEST_SHORT_BODY.true)

pub bounds-buffer-at-then-size-le-LONGEST_SHORT_BODY : goal.bounds-buffer-at-then-size-le-LONGEST_SHORT_BODY
bounds-buffer-at-then-size-le-LONGEST_SHORT_BODY c = simp length-set (omega (arith, length-short c.args.size c.if-size-le-LONGEST_SHORT_BODY.true))

pub returns-then-size-le-LONGEST_SHORT_BODY : goal.returns-then-size-le-LONGEST_SHORT_BODY
returns-then-size-le-LONGEST_SHORT_BODY c = let a = c.args in
    laid_as (sym (head-short a.kind a.size c.if-size-le-LONGEST_SHORT_BODY.true)) (laid-two a.buffer.now a.at a.kind (a.size + 2) (omega (arith, length-short c.args.size c.if-size-le-LONGEST_SHORT_BODY.true)))

pub bounds-buffer-at-2 : goal.bounds-buffer-at-2
bounds-buffer-at-2 c = omega (arith, length-extended c.args.size c.if-size-le-LONGEST_SHORT_BODY.false)

pub bounds-buffer-at-3 : goal.bounds-buffer-at-3
bounds-buffer-at-3 c = simp length-set (omega (arith, length-extended c.args.size c.if-size-le-LONGEST_SHORT_BODY.false))

pub put_u16-requires : goal.put_u16-requires
put_u16-requires c = simp length-set (omega (arith, length-extended c.args.size c.if-size-le-LONGEST_SHORT_BODY.false))

pub returns : goal.returns
returns c = laid-long c.args.at c.args.kind c.args.size c.put_u16.ensures c.if-size-le-LONGEST_SHORT_BODY.false (omega (arith, length-extended c.args.size c.if-size-le-LONGEST_SHORT_BODY.false, c.requires.1))
