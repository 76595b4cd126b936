-- Numbers and bytes as they are printed: decimal, and lower-case hexadecimal.
use Rattle.std.specs.Prelude.{cond, List, [], ◌∷◌, ◌++◌, ℕ, zero, suc, ◌+◌, ◌/◌, ◌%◌, ltb}

-- the ASCII character of a decimal digit; "0" is 48
abbrev pub digit : ℕ → ℕ
digit n = 48 + n

-- a number in at most `places` decimal digits, without leading zeros
unfoldable pub digits_in : ℕ → ℕ → List ℕ
digits_in zero n = []
digits_in (suc places) n = cond (ltb n 10) (digit n ∷ []) (digits_in places (n / 10) ++ (digit (n % 10) ∷ []))

-- 20 digits are enough for every number of 64 bits
abbrev pub longest : ℕ
longest = 20

unfoldable pub decimal_of : ℕ → List ℕ
decimal_of n = digits_in longest n

-- the ASCII character of a hexadecimal digit; "a", for 10, is 97
unfoldable pub hex_digit : ℕ → ℕ
hex_digit n = cond (ltb n 10) (digit n) (87 + n)

-- two digits for each byte, the high one first
unfoldable pub hex_of : List ℕ → List ℕ
hex_of [] = []
hex_of (b ∷ bs) = hex_digit (b / 16) ∷ hex_digit (b % 16) ∷ hex_of bs
