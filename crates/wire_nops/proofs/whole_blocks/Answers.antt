-- `wire_nops::whole_blocks` meets its contract. The loop's invariant: the NOPs of the list are those passed and those of the rest.
use native.Mathlib.Omega.{arith}
use Rattle.wire_nops.proofs.whole_blocks.Goals as goal

pub returns-then-list-lt-BLOCK : goal.returns-then-list-lt-BLOCK
returns-then-list-lt-BLOCK c = (omega arith, omega arith)

pub returns-then-list-ne-NOP : goal.returns-then-list-ne-NOP
returns-then-list-ne-NOP c = (omega arith, omega arith)

pub loop-n-init : goal.loop-n-init
loop-n-init c = (omega arith, omega arith)

pub returns-then-block_difference-ne0 : goal.returns-then-block_difference-ne0
returns-then-block_difference-ne0 c = c.loop-n.invariant

pub loop-n-preserved : goal.loop-n-preserved
loop-n-preserved c = let block = c.block_difference.ensures c.if-block_difference-ne0.false in (omega arith, omega arith)

pub returns : goal.returns
returns c = c.loop-n.invariant
