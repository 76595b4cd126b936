-- The Internet checksum (RFC 1071): a 16-bit ones' complement sum, folded.
use Rattle.std.specs.Prelude.{ℕ, zero, suc, ◌+◌, ◌-◌, ◌*◌, ◌%◌, Bool, true, false, cond, not, List, [], ◌∷◌, ◌==◌}

-- the largest 16-bit number, FFFF
abbrev pub all_ones : ℕ
all_ones = 65535

-- The 16-bit words of a list of bytes, added up: a byte at an even offset is the high half of its word, one at an odd offset the low
-- half, and a missing last byte counts as 0. `odd` says whether the first byte stands at an odd offset.
unfoldable pub word_sum : Bool → List ℕ → ℕ
word_sum odd [] = 0
word_sum false (b ∷ bs) = b * 256 + word_sum true bs
word_sum true (b ∷ bs) = b + word_sum false bs

-- A sum folded into 16 bits by adding each carry at the low end: 0 for 0 alone, else from 1 to FFFF.
unfoldable pub folded : ℕ → ℕ
folded zero = 0
folded (suc n) = n % all_ones + 1

-- the parity of the offset n bytes after one of parity `odd`
unfoldable pub parity_after : Bool → ℕ → Bool
parity_after odd zero = odd
parity_after odd (suc n) = parity_after (not odd) n

-- what a checksum field holds for a folded sum: its complement, and 0 is sent as FFFF (RFC 768)
unfoldable pub sent : ℕ → ℕ
sent sum = cond (sum == all_ones) all_ones (all_ones - sum)
