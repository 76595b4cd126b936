-- `number_checksum::add` meets its contract. The loop's invariant: the folded sum with what is left is that of the whole; a block in front of others
-- has an even length, so parity stays (`folded-block`).
use Rattle.std.proofs.Common.{ℕ, ◌+◌, ◌%◌, sym, ap, ◌∙◌, arith}
use Rattle.number_checksum.specs.Checksum.{folded, word_sum}
use Rattle.number_checksum.proofs.Laws.{folded-block, folded-small, word_sum-empty}
use Rattle.number_checksum.proofs.add.Goals as goal

pub loop-block-preserved : goal.loop-block-preserved
loop-block-preserved c =
    let a = c.args in
    let l = c.loop-block in
    let taken = c.in-Some.ensures.steps.1 in
    let added = c.add_block-sum.ensures ∙ ap (λ (n : ℕ). folded (n + word_sum a.odd c.in-Some.block.now)) c.from.ensures in
    record {
      even = ap (λ (n : ℕ). n % 2) c.in-Some.ensures.steps.0 ∙ l.invariant.even;
      most = omega (arith, c.in-Some.ensures.steps.0, l.invariant.most);
      small = omega (arith, c.add_block-sum.type_inv);
      sums = folded-block a.odd l.sum c.add_block-sum.result l.block-iterator.size _ c.in-Some.block.now _ l.invariant.even taken.0 taken.1 added ∙ l.invariant.sums;
    }

pub returns : goal.returns
returns c =
    let l = c.loop-block in
    let none = word_sum-empty c.args.odd l.block-iterator.rest.now c.in-None.ensures.steps.1.0 in
    sym (folded-small l.sum l.invariant.small) ∙ ap folded (omega arith) ∙ l.invariant.sums
