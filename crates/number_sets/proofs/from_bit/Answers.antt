-- `number_sets::from_bit` meets its contract: the result is 2 ^ 64 - 2 ^ first (`from-mask`).
use mathlib.Core.Path.{subst}
use Prim.Native.Nat.{ℕ}
use native.Mathlib.Omega.{arith}
use lib.Pow.{pow_pos}
use Rattle.number_sets.specs.Words.{Mask}
use Rattle.number_sets.proofs.Bits.{one_bit}
use Rattle.number_sets.proofs.Sets.{from-mask}
use Rattle.number_sets.proofs.from_bit.Goals as goal

pub overflow_sub-result : goal.overflow_sub-result
overflow_sub-result c = omega (arith, one_bit c.args.first c.requires, pow_pos c.args.first)

pub returns : goal.returns
returns c = let first : ℕ = c.args.first in
    subst (λ (r : ℕ). Mask r first 64) (omega (arith, one_bit first c.requires, pow_pos first)) (from-mask first)
