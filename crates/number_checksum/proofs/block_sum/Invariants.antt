use Rattle.std.proofs.Common.{◌≡◌, ◌*◌, ◌/◌, ◌≤◌, length}
use Rattle.number_checksum.proofs.Halves.{Halves}
use Rattle.number_checksum.proofs.block_sum.Given as goal

abbrev pub invariant-loop-k : goal.invariant-loop-k
invariant-loop-k l = (l.steps ≡ length l.bytes / 8) × (l.high ≤ 4294967295 * l.k) × Halves l.bytes l.k l.added l.high
