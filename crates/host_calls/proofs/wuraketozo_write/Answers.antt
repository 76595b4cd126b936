-- `host_calls::wuraketozo_write` meets its contract: it is that of `host_wire::write`.
use Rattle.host_calls.proofs.wuraketozo_write.Goals as goal

pub returns : goal.returns
returns c = c.write.ensures
