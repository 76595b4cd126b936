-- `number_checksum::fold` meets its contract: the code takes the remainder as `folded` does.
use Rattle.std.proofs.Common.{sym, ap, arith}
use Rattle.number_checksum.specs.Checksum.{folded}
use Rattle.number_checksum.proofs.Laws.{folded-pos}
use Rattle.number_checksum.proofs.fold.Goals as goal

pub returns-then-sum-eq0 : goal.returns-then-sum-eq0
unfolding folded
returns-then-sum-eq0 c = ap folded (sym c.if-sum-eq0.true)

pub returns : goal.returns
returns c = sym (folded-pos c.args.sum (omega (arith, c.if-sum-eq0.false)))
