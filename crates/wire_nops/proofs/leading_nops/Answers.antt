-- `wire_nops::leading_nops` meets its contract: NOPs at the front are a row of their kind (`nops-run`), and a list without one there has none.
use Rattle.std.proofs.Common.{◌≡◌, sym, length, drop, arith}
use Rattle.std.proofs.lemmas.Grind.{common_steps}
use Rattle.wire_nops.proofs.Counts.{nops-run, nops-none, nops-other}
use Rattle.wire_nops.proofs.leading_nops.Goals as goal
use Rattle.wire_nops.proofs.leading_nops.Goals.{then-is_empty-via-then-is_empty, then-is_empty-via-else-is_empty+then-list-ne-NOP}

pub returns-then-is_empty : goal.returns-then-is_empty
returns-then-is_empty c =
    let l = c.args.list.now in
    elim c.then-is_empty.branch [
      | then-is_empty-via-then-is_empty w ↦ let e : length l ≡ 0 = grind (arith, common_steps) in (sym (nops-none l e), omega arith)
      | then-is_empty-via-else-is_empty+then-list-ne-NOP w ↦ (sym (nops-other l w.if-list-ne-NOP.true), omega arith)
    ]

pub returns : goal.returns
returns c = let run = nops-run (drop c.whole_blocks.result c.args.list.now) in (omega arith, omega arith)
