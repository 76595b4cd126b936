-- `host_calls::wuraketozo_next` meets its contract: it is that of `host_options::next`.
use Rattle.host_calls.proofs.wuraketozo_next.Goals as goal

pub returns : goal.returns
returns c = c.next.ensures
