-- Seven-bit numbers. Document 01, "Dockets and the writer": "A number is groups of seven bits, lowest group first, the top bit set on all
-- but the last byte, shortest form only."
use Rattle.std.specs.Prelude.{ℕ, zero, suc, ◌+◌, ◌*◌, ◌/◌, ◌%◌, ◌^◌, Bool, cond, List, [], ◌∷◌, ltb, eqb}

-- What the front of a list of bytes gives: a number and how many bytes it is wide, or nothing that can be taken.
pub data Taken : Type 0 where
  taken : (value width : ℕ) → Taken
  untaken : Taken

-- "the top bit set on all but the last byte"
unfoldable pub is_last : ℕ → Bool
is_last b = ltb b 128

-- "shortest form only": groups behind a first one that are worth 0 could be left out
unfoldable pub is_idle : ℕ → Bool
is_idle rest = eqb rest 0

-- A number is at most 64 bits wide.
unfoldable pub is_narrow : ℕ → Bool
is_narrow value = ltb value (2 ^ 64)

-- "lowest group first": a byte with the top bit set, in front of what the bytes behind it give
unfoldable pub in_front : ℕ → Taken → Taken
in_front b untaken = untaken
in_front b (taken rest width) = cond (is_idle rest) untaken (taken (b % 128 + 128 * rest) (suc width))

-- The number of any size at the front of a list. A list that ends before the last group is cut short.
unfoldable pub front : List ℕ → Taken
front [] = untaken
front (b ∷ behind) = cond (is_last b) (taken b 1) (in_front b (front behind))

unfoldable pub narrowed : Taken → Taken
narrowed untaken = untaken
narrowed (taken value width) = cond (is_narrow value) (taken value width) untaken

-- The number at the front of a list: one that is wider than 64 bits is not taken.
unfoldable pub number : List ℕ → Taken
number s = narrowed (front s)

-- The encoding of a number in as many groups as it needs, but no more than the given count.
unfoldable pub groups : ℕ → ℕ → List ℕ
groups zero n = []
groups (suc count) n = cond (is_last n) (n ∷ []) ((128 + n % 128) ∷ groups count (n / 128))

-- Ten groups are 70 bits, enough for every number of 64.
abbrev pub longest : ℕ
longest = 10

unfoldable pub encoded : ℕ → List ℕ
encoded n = groups longest n
