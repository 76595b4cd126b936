-- `number_octets::zeros::all_zero` meets its contract: a bit is set in no byte exactly where each is zero (`none-set`).
use mathlib.Core.Path.{ap, ◌∙◌}
use Prim.Native.Nat.{ℕ}
use lib.Dec.{eqb}
use Rattle.number_octets.proofs.ZeroBytes.{none-set}
use Rattle.number_octets.proofs.zeros.all_zero.Goals as goal

pub returns : goal.returns
returns c = ap (λ (n : ℕ). eqb n 0) c.set_in.ensures ∙ none-set 0 c.args.bytes.now
