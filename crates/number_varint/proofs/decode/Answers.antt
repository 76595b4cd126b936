-- `number_varint::decode` meets its contract: in the loop the number is the groups so far and then what the bytes from `i` give, and each way out
-- is a case of that. Assumes nothing.
use native.Mathlib.Omega.{arith}
use Rattle.number_varint.proofs.Partly.{none-there, one-there, partly-first, partly_more, partly-cut, partly-idle, partly-wide, partly-last, partly-fits}
use Rattle.number_varint.proofs.decode.Goals as goal

pub returns-then-bytes-at : goal.returns-then-bytes-at
returns-then-bytes-at c = none-there _ _ (omega arith)

pub returns-then-first-lt128 : goal.returns-then-first-lt128
returns-then-first-lt128 c = one-there (record { within = omega arith; here = c.from-first.ensures }) (omega arith)

pub loop-i-init : goal.loop-i-init
loop-i-init c = partly-first (record { within = omega arith; here = c.from-first.ensures }) (omega arith)

pub returns-then-group-eq0 : goal.returns-then-group-eq0
returns-then-group-eq0 c = partly-idle c.loop-i.invariant (record { within = omega arith; here = c.from-group.ensures }) (omega arith)

pub returns-then-room-group : goal.returns-then-room-group
returns-then-room-group c = let k = c.loop-i in
    partly-wide k.invariant (record { within = omega arith; here = c.from-group.ensures }) (omega (arith, c.shared_slice_known-in-loop-i-1.given k.i)) (omega arith)

pub overflow_mul-result : goal.overflow_mul-result
overflow_mul-result c = omega (arith, partly-fits c.loop-i.invariant c.if-room-group.false)

pub overflow_add-result-then-group-lt128 : goal.overflow_add-result-then-group-lt128
overflow_add-result-then-group-lt128 c = omega (arith, partly-fits c.loop-i.invariant c.if-room-group.false)

pub returns-then-group-lt128 : goal.returns-then-group-lt128
returns-then-group-lt128 c = partly-last c.loop-i.invariant (record { within = omega arith; here = c.from-group.ensures }) (omega arith) (omega arith) (omega arith)

-- one group more
pub loop-i-preserved : goal.loop-i-preserved
loop-i-preserved c = partly_more c.loop-i.invariant (record { within = omega arith; here = c.from-group.ensures }) (omega arith) (omega arith)

pub returns : goal.returns
returns c = partly-cut c.loop-i.invariant (omega arith)
