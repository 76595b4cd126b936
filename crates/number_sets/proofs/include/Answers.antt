-- `number_sets::include` meets its contract: the range is one word's, or the end of a word, whole words and the start of another, which meet (`then`).
use Prim.Native.Nat.{◌+◌, ◌-◌, ◌*◌, ◌/◌}
use native.Mathlib.Omega.{arith}
use lib.Bits.{and_le_l}
use Rattle.number_sets.specs.Sets.{Included}
use Rattle.number_sets.proofs.Sets.{both-masks, word-included, then}
use Rattle.number_sets.proofs.include.Goals as goal

pub returns-then-first-last : goal.returns-then-first-last
returns-then-first-last c = let masks = both-masks c.from_bit-low.ensures c.to_bit-high.ensures in
    let small = and_le_l c.from_bit-low.result c.to_bit-high.result in
    word-included masks c.put.ensures (omega arith) (omega arith) (omega arith) (omega arith) (omega arith)

-- the range in three parts
pub returns : goal.returns
returns c =
    let a = c.args in
    let head : Included a.words.now a.start (64 * (a.start / 64 + 1)) c.put-head.result c.put-head.new.words =
    word-included c.from_bit-low.ensures c.put-head.ensures (omega arith) (omega arith) (omega arith) (omega arith) (omega arith) in
    let tail : Included c.fill-middle.new.words (64 * ((a.end - 1) / 64)) a.end c.put-tail.result c.put-tail.new.words =
    word-included c.to_bit-high.ensures c.put-tail.ensures (omega arith) (omega arith) (omega arith) (omega arith) (omega arith) in
    then (omega arith) (omega arith) (then (omega arith) (omega arith) head c.fill-middle.ensures) tail
