use Rattle.std.proofs.Common.{◌≡◌, ◌+◌, ◌-◌, ◌≤◌, length, drop}
use Rattle.number_octets.specs.Runs.{run_of}
use Rattle.number_octets.proofs.runs.whole_fours.Given as goal

abbrev pub invariant-loop-n : goal.invariant-loop-n
invariant-loop-n g l = record {
  within : l.n ≤ length l.bytes;
  passed : l.from + run_of g.row.BYTE (drop l.from l.bytes) ≡ l.n + run_of g.row.BYTE (drop l.n l.bytes);
}

abbrev pub decreases-loop-n : goal.decreases-loop-n
decreases-loop-n g l = length l.bytes - l.n
