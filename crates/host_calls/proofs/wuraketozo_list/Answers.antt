-- `host_calls::wuraketozo_list` meets its contract: it is that of `host_wire::list`.
use Rattle.host_calls.proofs.wuraketozo_list.Goals as goal

pub returns : goal.returns
returns c = c.list.ensures
