use Rattle.std.proofs.Common.{◌≡◌, ◌+◌, drop}
use Rattle.number_octets.specs.Runs.{run_of}
use Rattle.number_octets.proofs.runs.run_end.Given as goal

abbrev pub invariant-loop-n : goal.invariant-loop-n
invariant-loop-n g l = l.from + run_of g.row.BYTE (drop l.from l.bytes) ≡ l.n + run_of g.row.BYTE (drop l.n l.bytes)
