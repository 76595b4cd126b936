-- `number_checksum::last_byte` meets its contract: a last byte at an even offset of the block is the low half of its word.
use Rattle.std.proofs.Common.{true, arith, rules}
use Rattle.number_checksum.proofs.Laws.{word_sum-one, word_sum-none}
use Rattle.number_checksum.proofs.last_byte.Goals as goal

pub returns-then-at-bytes : goal.returns-then-at-bytes
returns-then-at-bytes c = let bs = c.args.bytes.now in
    record { value = omega (arith, word_sum-one bs c.args.at (omega arith)); upper_bound = search rules }

pub returns : goal.returns
returns c = record { value = omega (arith, word_sum-none true c.args.bytes.now c.args.at (omega arith)); upper_bound = search rules }
