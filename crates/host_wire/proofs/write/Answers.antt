-- `host_wire::write` meets its contract: the value of what was written.
use Rattle.host_wire.proofs.Facts.{writes}
use Rattle.host_wire.proofs.write.Goals as goal

pub returns : goal.returns
returns c = writes c.write.ensures c.from.ensures
