-- `table_calls::share_of` meets its contract: the product does not wrap for a plan in range.
use mathlib.Core.Path.{refl}
use native.Mathlib.Omega.{arith}
use Rattle.client_record.specs.Limits.{datagram_limit, assembly_limit, share_size}
use Rattle.table_calls.proofs.share_of.Goals as goal

pub overflow_mul-result : goal.overflow_mul-result
unfolding assembly_limit
overflow_mul-result c = omega (arith, c.requires)

pub returns : goal.returns
unfolding share_size datagram_limit
returns c = refl
