-- `number_checksum::pair` meets its contract: two bytes at the front of what is left (`word_sum-two`).
use Rattle.std.proofs.Common.{arith}
use Rattle.number_checksum.proofs.Laws.{word_sum-two}
use Rattle.number_checksum.proofs.pair.Goals as goal

pub returns : goal.returns
returns c = record { bytes_value = omega (arith, word_sum-two c.args.bytes.now c.args.at (omega arith)); upper_bound = omega arith }
