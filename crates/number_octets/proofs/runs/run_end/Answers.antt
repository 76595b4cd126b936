-- `number_octets::runs::run_end` meets its contract. The loop's invariant: the row goes as far from the bytes passed as from `from`.
use Rattle.std.proofs.Common.{arith}
use Rattle.number_octets.proofs.RunBytes.{run-one, run-other, run-none}
use Rattle.number_octets.proofs.runs.run_end.Goals as goal

pub returns-then-bytes-n-clause-end : goal.returns-then-bytes-n-clause-end
returns-then-bytes-n-clause-end g c = omega (arith, run-other g.row.BYTE c.args.bytes.now c.loop-n.n (omega arith) (omega arith))

pub loop-n-preserved : goal.loop-n-preserved
loop-n-preserved g c = omega (arith, run-one g.row.BYTE c.args.bytes.now c.loop-n.n (omega arith) (omega arith))

pub returns-clause-end : goal.returns-clause-end
returns-clause-end g c = omega (arith, run-none g.row.BYTE c.args.bytes.now c.loop-n.n (omega arith))
