-- `host_limits::share_size` meets its contract: a plan past the largest has no share, and for any other the product does not wrap.
use native.Mathlib.Omega.{arith}
use borrow.Author.Tests.{le-leb, lt-leb}
use Rattle.client_record.specs.Limits.{datagram_limit, assembly_limit, share_size}
use Rattle.host_limits.specs.Plans.{share_for}
use Rattle.host_limits.proofs.share_size.Goals as goal

pub returns-then-places-gt-ASSEMBLY_LIMIT : goal.returns-then-places-gt-ASSEMBLY_LIMIT
unfolding share_for assembly_limit
returns-then-places-gt-ASSEMBLY_LIMIT c = simp (lt-leb _ _ c.if-places-gt-ASSEMBLY_LIMIT.true)

pub overflow_mul-result : goal.overflow_mul-result
overflow_mul-result c = omega (arith, c.if-places-gt-ASSEMBLY_LIMIT.false)

pub returns : goal.returns
unfolding share_for share_size assembly_limit datagram_limit
returns c = simp (le-leb _ _ c.if-places-gt-ASSEMBLY_LIMIT.false)
