-- CRC32c (Castagnoli), bit by bit, as the APC option of RFC 9868 (section 11.3) uses it.
use Rattle.std.specs.Prelude.{List, [], ◌∷◌, reverse, ℕ}
use Rattle.std.specs.Int.Bits.{bit_xor}
use Rattle.number_octets.specs.Octets.{number, octets}
use Rattle.number_crc_steps.specs.Steps.{steps}

-- 32 bits, all set
unfoldable pub ones : ℕ
ones = 0xFFFF_FFFF

-- one byte: it is xor-ed into the lowest byte of the register, and its eight bits are stepped out
unfoldable pub byte_step : ℕ → ℕ → ℕ
byte_step register byte = steps 8 (bit_xor register byte)

-- the register after some bytes
unfoldable pub register : ℕ → List ℕ → ℕ
register r [] = r
register r (b ∷ bs) = register (byte_step r b) bs

-- the register starts as all ones, and is complemented at the end
unfoldable pub reflected : List ℕ → ℕ
reflected bs = bit_xor (register ones bs) ones

-- the number whose four bytes are those of `n` in reverse order
unfoldable pub swapped : ℕ → ℕ
swapped n = number (reverse (octets 4 n))

-- the CRC32c of some bytes. Its big-endian bytes are those that iSCSI (RFC 3720, appendix B.4) prints.
unfoldable pub crc_of : List ℕ → ℕ
crc_of bs = swapped (reflected bs)
