-- `list_area::put_start` meets its contract: the zeros are stored one by one.
use native.Mathlib.Omega.{arith}
use Rattle.list_area.proofs.Blanks.{start-even, start-odd}
use Rattle.list_area.proofs.put_start.Goals as goal

pub returns-then-at-eq1 : goal.returns-then-at-eq1
returns-then-at-eq1 c = start-odd c.args.at c.if-at-eq1.true (omega (arith, c.requires)) c.put_u16.ensures

pub returns : goal.returns
returns c = start-even c.args.at (omega (arith, c.if-at-eq1.false)) c.put_u16-2.ensures
