-- `number_crc32c::step` meets its contract: both halves of the low byte are looked up, and the rest is brought down (`byte_step-halves`).
use mathlib.Core.Path.{sym, ap, ap₂, ◌∙◌}
use Prim.Native.Nat.{ℕ, ◌/◌}
use lib.Bits.{bit_xor}
use Rattle.number_crc32c.specs.Crc.{byte_step}
use Rattle.number_crc32c.proofs.Laws.{byte_step-halves}
use Rattle.number_crc32c.proofs.step.Goals as goal

pub returns : goal.returns
returns c = let a = c.args in
    let n = bit_xor a.state c.from.result in
    ap₂ (λ (x y : ℕ). bit_xor (bit_xor x y) (n / 256)) c.nibble_after_8.ensures c.nibble_after_4.ensures
    ∙ sym (byte_step-halves a.state c.from.result) ∙ ap (byte_step a.state) c.from.ensures
