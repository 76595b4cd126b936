use Rattle.std.proofs.Common.{◌≡◌, ◌+◌, ◌%◌, ◌≤◌}
use Rattle.number_checksum.specs.Checksum.{all_ones, folded, word_sum}
use Rattle.number_checksum.proofs.add.Given as goal

abbrev pub invariant-loop-block : goal.invariant-loop-block
invariant-loop-block l = record {
  even : l.block-iterator.size % 2 ≡ 0;
  most : l.block-iterator.size ≤ 65536;
  small : l.sum ≤ all_ones;
  sums : folded (l.sum + word_sum l.odd l.block-iterator.rest.now) ≡ folded (l.running + word_sum l.odd l.bytes);
}
