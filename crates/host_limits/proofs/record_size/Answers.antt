-- `host_limits::record_size` meets its contract: the layout comes to that many bytes, by computation.
use mathlib.Core.Path.{refl}
use Rattle.host_limits.specs.Layout.{record_size}
use Rattle.host_limits.proofs.record_size.Goals as goal

pub returns : goal.returns
unfolding record_size
returns c = refl
