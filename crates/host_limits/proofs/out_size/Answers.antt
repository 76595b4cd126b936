-- `host_limits::out_size` meets its contract: the constant is the limit.
use mathlib.Core.Path.{refl}
use Rattle.client_record.specs.Limits.{datagram_limit}
use Rattle.host_limits.proofs.out_size.Goals as goal

pub returns : goal.returns
unfolding datagram_limit
returns c = refl
