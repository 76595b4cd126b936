-- `host_limits::client_limit` meets its contract: the constant is the limit.
use mathlib.Core.Path.{refl}
use Rattle.client_record.specs.Limits.{client_limit}
use Rattle.host_limits.proofs.client_limit.Goals as goal

pub returns : goal.returns
unfolding client_limit
returns c = refl
