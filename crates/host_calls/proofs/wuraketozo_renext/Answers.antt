-- `host_calls::wuraketozo_renext` meets its contract: it is that of `host_options::renext`.
use Rattle.host_calls.proofs.wuraketozo_renext.Goals as goal

pub returns : goal.returns
returns c = c.renext.ensures
