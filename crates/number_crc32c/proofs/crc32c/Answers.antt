-- `number_crc32c::crc32c` meets its contract: the register is complemented and swapped.
use mathlib.Core.Path.{ap, ◌∙◌}
use Prim.Native.Nat.{ℕ}
use lib.Bits.{bit_xor}
use Rattle.number_crc32c.specs.Crc.{ones, reflected, swapped, crc_of}
use Rattle.number_crc32c.proofs.crc32c.Goals as goal

pub returns : goal.returns
unfolding crc_of reflected ones
returns c = c.swap.ensures ∙ ap (λ (r : ℕ). swapped (bit_xor r ones)) c.state_after.ensures
