-- `number_checksum::field` meets its contract: the code's test is the definition's.
use Rattle.std.proofs.Common.{eq-eqb, ne_eqb}
use Rattle.number_checksum.specs.Checksum.{sent}
use Rattle.number_checksum.proofs.field.Goals as goal

pub returns-then-sum-eq65535 : goal.returns-then-sum-eq65535
unfolding sent
returns-then-sum-eq65535 c = simp (eq-eqb _ _ c.if-sum-eq65535.true) c.if-sum-eq65535.true

pub returns : goal.returns
unfolding sent
returns c = simp (ne_eqb _ _ c.if-sum-eq65535.false)
