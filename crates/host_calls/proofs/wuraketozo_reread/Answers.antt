-- `host_calls::wuraketozo_reread` meets its contract: it is that of `host_wire::reread`.
use Rattle.host_calls.proofs.wuraketozo_reread.Goals as goal

pub returns : goal.returns
returns c = c.reread.ensures
