-- `number_checksum::add_block` meets its contract: at an odd offset the block's little-endian sum is the one asked for, and at an even one
-- 256 times that sum (`folded-swapped`).
use Rattle.std.proofs.Common.{ℕ, ◌+◌, ◌*◌, Bool, true, List, sym, ap, ◌∙◌, arith}
use Rattle.number_checksum.specs.Checksum.{word_sum, folded}
use Rattle.number_checksum.proofs.Folding.{folded-plus, folded-times, folded-swapped}
use Rattle.number_checksum.proofs.add_block.Goals as goal

pub returns-then-odd : goal.returns-then-odd
returns-then-odd c = let a = c.args in
    let bs : List ℕ = a.bytes.now in
    c.fold.ensures
    ∙ folded-plus a.running c.block_sum-sum.result (word_sum true bs) c.block_sum-sum.ensures.result_value
    ∙ ap (λ (p : Bool). folded (a.running + word_sum p bs)) (sym c.if-odd.true)

pub returns : goal.returns
returns c = let a = c.args in
    let bs : List ℕ = a.bytes.now in
    let s : ℕ = c.block_sum-sum.result in
    c.fold-2.ensures
    ∙ ap folded (omega arith)
    ∙ folded-plus a.running (256 * s) (256 * word_sum true bs) (folded-times 256 s (word_sum true bs) c.block_sum-sum.ensures.result_value)
    ∙ folded-swapped true a.running bs
    ∙ ap (λ (p : Bool). folded (a.running + word_sum p bs)) (sym c.if-odd.false)
