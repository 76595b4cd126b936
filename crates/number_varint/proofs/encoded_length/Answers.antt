-- `number_varint::encoded_length` meets its contract: each turn takes one group off, so what was counted and what is left make up the encoding.
use native.Mathlib.Omega.{arith}
use Rattle.number_varint.specs.SevenBit.{encoded}
use Rattle.number_varint.proofs.Groups.{encodes}
use Rattle.number_varint.proofs.Laws.{encoded-short}
use Rattle.number_varint.proofs.encoded_length.Goals as goal

pub loop-rest-init : goal.loop-rest-init
loop-rest-init c = (encoded c.args.value, encodes c.args.value c.ranges.value.fits, omega arith)

pub overflow_add-count : goal.overflow_add-count
overflow_add-count c = omega (arith, encoded-short c.args.value)
