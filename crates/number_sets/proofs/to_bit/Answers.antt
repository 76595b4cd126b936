-- `number_sets::to_bit` meets its contract: the result is 2 ^ (last + 1) - 1 (`to-mask`).
use mathlib.Core.Path.{◌≡◌, ap, ◌∙◌, subst}
use Prim.Native.Nat.{ℕ, ◌+◌, ◌*◌, ◌^◌, ◌<◌, ◌≤◌}
use native.Mathlib.Nat.{pow-suc}
use native.Mathlib.Numerals.{add-one}
use native.Mathlib.Omega.{arith}
use lib.Pow.{pow_pos, pow_mono}
use Rattle.number_sets.specs.Words.{Mask}
use Rattle.number_sets.proofs.Bits.{one_bit}
use Rattle.number_sets.proofs.Sets.{to-mask}
use Rattle.number_sets.proofs.to_bit.Goals as goal

-- the highest bit is at most the word's
twice : (last : ℕ) → last < 64 → 2 ^ last * 2 ≤ 2 ^ 64
twice last h = rw (← pow-suc) (pow_mono h)

pub overflow_sub-result : goal.overflow_sub-result
overflow_sub-result c = omega (arith, one_bit c.args.last c.requires, pow_pos c.args.last)

pub overflow_add-result : goal.overflow_add-result
overflow_add-result c = omega (arith, one_bit c.args.last c.requires, pow_pos c.args.last, twice c.args.last c.requires)

pub returns : goal.returns
returns c = let last : ℕ = c.args.last in
    let next : 2 ^ (last + 1) ≡ 2 ^ last * 2 = ap (λ (k : ℕ). 2 ^ k) (add-one last) ∙ pow-suc 2 last in
    subst (λ (r : ℕ). Mask r 0 (last + 1)) (omega (arith, one_bit last c.requires, pow_pos last)) (to-mask (last + 1))
