-- The number that a list of bytes stands for in network byte order, the bytes of a number, and a list of bytes put over another.
use Rattle.std.specs.Prelude.{List, [], ◌∷◌, ◌++◌, ℕ, zero, suc, ◌+◌, ◌*◌, ◌/◌, ◌%◌, ◌^◌, ◌<◌, length, take, drop, get_or}

-- every element is a byte
abbrev pub Octets : List ℕ → Type 0
Octets bs = (i : ℕ) → get_or bs i 0 < 256

-- the number whose big-endian bytes these are, at any width
unfoldable pub number : List ℕ → ℕ
number [] = 0
number (b ∷ bs) = b * 256 ^ length bs + number bs

-- the lowest `width` bytes of a number, most significant first
unfoldable pub octets : ℕ → ℕ → List ℕ
octets zero n = []
octets (suc width) n = n / 256 ^ width % 256 ∷ octets width n

-- `size` bytes from `at` on
abbrev pub part : ℕ → ℕ → List ℕ → List ℕ
part at size bs = take size (drop at bs)

-- `target` with `bs` laid over it from `at` on
abbrev pub overlay : List ℕ → ℕ → List ℕ → List ℕ
overlay target at bs = take at target ++ (bs ++ drop (at + length bs) target)
