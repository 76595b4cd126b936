-- What a mask of bits is, and a word that they join.
use Rattle.std.specs.Prelude.{ℕ, ◌<◌, ◌≡◌, Bool, List, eqb, get_or, set}
use Rattle.std.specs.Int.Bits.{bit_and, bit_or}
use Rattle.number_sets.specs.Sets.{bit, among}

-- of the 64 bits of a word those from `first` to `end`
pub record Mask (mask first end : ℕ) : Type 0 where
  pub bits : (j : ℕ) → j < 64 → bit mask j ≡ among first end j

-- the mask's bits are set in word w, and whether none was before
pub record Put (ws : List ℕ) (w mask : ℕ) (free : Bool) (ws' : List ℕ) : Type 0 where
  pub words : ws' ≡ set ws w (bit_or (get_or ws w 0) mask)
  pub none : free ≡ eqb (bit_and (get_or ws w 0) mask) 0
