-- `host_calls::wuraketozo_advance` meets its contract: the value of the table's answer.
use Rattle.host_calls.proofs.Facts.{leaves}
use Rattle.host_calls.proofs.wuraketozo_advance.Goals as goal

pub returns : goal.returns
returns c = leaves c.advance.ensures c.from.ensures
