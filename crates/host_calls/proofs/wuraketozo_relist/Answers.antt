-- `host_calls::wuraketozo_relist` meets its contract: it is that of `host_wire::relist`.
use Rattle.host_calls.proofs.wuraketozo_relist.Goals as goal

pub returns : goal.returns
returns c = c.relist.ensures
