-- Each check holds by computing what the function ensures.
use Rattle.number_checksum.specs.Checksum.{word_sum, folded, sent}
use Rattle.number_varint.specs.SevenBit.{is_last, groups, encoded}
use Rattle.program_vectors.proofs.expected.run.Goals as goal

pub prove-unreachable-requires : goal.prove-unreachable-requires
unfolding word_sum folded
prove-unreachable-requires c = c.if-prove.true c.add-sum.ensures

pub prove-unreachable-requires-2 : goal.prove-unreachable-requires-2
unfolding sent
prove-unreachable-requires-2 c = c.if-prove-2.true c.field-field.ensures

pub prove-unreachable-requires-3 : goal.prove-unreachable-requires-3
unfolding is_last groups encoded
prove-unreachable-requires-3 c = c.if-prove-3.true c.encoded_length-length.ensures
