-- `host_calls::wuraketozo_read` meets its contract: it is that of `host_wire::read`.
use Rattle.host_calls.proofs.wuraketozo_read.Goals as goal

pub returns : goal.returns
returns c = c.read.ensures
