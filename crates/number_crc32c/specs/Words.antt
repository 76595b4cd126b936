-- Words that are stepped together.
use Rattle.std.specs.Prelude.{◌≡◌, List, ℕ, ◌+◌, ◌-◌, ◌*◌, ◌/◌, ◌≤◌, ◌<◌, length}
use Rattle.std.specs.Int.Bits.{bit_xor}
use Rattle.number_octets.specs.Octets.{part}
use Rattle.number_crc_steps.specs.Steps.{steps}
use Rattle.number_crc32c.specs.Crc.{register}

-- four words in their order, each moved on by its own bits and those of the words behind it
unfoldable pub joined : ℕ → ℕ → ℕ → ℕ → ℕ
joined a b c d = bit_xor (bit_xor (bit_xor (steps 32 d) (steps 64 c)) (steps 96 b)) (steps 128 a)

-- the register after the block at `at`: sixteen bytes or, at the end, the words that are left
pub record Holds (state at : ℕ) (bytes : List ℕ) (word : ℕ) : Type 0 where
  pub full : at + 16 ≤ length bytes → word ≡ register state (part at 16 bytes)
  pub last : length bytes < at + 16 → word ≡ register state (part at ((length bytes - at) / 4 * 4) bytes)
