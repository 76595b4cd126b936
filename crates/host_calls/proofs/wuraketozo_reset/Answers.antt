-- `host_calls::wuraketozo_reset` meets its contract: the value of the table's answer.
use Rattle.host_calls.proofs.Facts.{leaves}
use Rattle.host_calls.proofs.wuraketozo_reset.Goals as goal

pub returns : goal.returns
returns c = leaves c.reset.ensures c.from.ensures
