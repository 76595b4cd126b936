-- `host_calls::wuraketozo_account` meets its contract: the value of the table's answer.
use Rattle.host_calls.proofs.Facts.{leaves}
use Rattle.host_calls.proofs.wuraketozo_account.Goals as goal

pub returns : goal.returns
returns c = leaves c.account.ensures c.from.ensures
