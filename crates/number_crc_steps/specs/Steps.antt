-- The bit steps of CRC32c (Castagnoli), as the APC option of RFC 9868 (section 11.3) uses it.
use Rattle.std.specs.Prelude.{ℕ, zero, suc, ◌*◌, ◌/◌, ◌%◌}
use Rattle.std.specs.Int.Bits.{bit_xor}

-- the polynomial 0x1EDC6F41 with its bits in reverse order: the bit of a byte that is sent first is its lowest
unfoldable pub polynomial : ℕ
polynomial = 0x82F6_3B78

-- one bit: the register is halved and, where the bit that falls out is 1, xor-ed with the polynomial
unfoldable pub bit_step : ℕ → ℕ
bit_step n = bit_xor (n % 2 * polynomial) (n / 2)

-- so many bits
unfoldable pub steps : ℕ → ℕ → ℕ
steps zero n = n
steps (suc k) n = steps k (bit_step n)
