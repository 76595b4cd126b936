-- Text put into a buffer: as much of it as fits.
use Rattle.std.specs.Prelude.{◌≡◌, List, ℕ, ◌+◌, ◌-◌, length, take}
use Rattle.number_octets.specs.Octets.{overlay}

-- what of a text fits into a buffer from `at` on
abbrev pub fitting : List ℕ → ℕ → List ℕ → List ℕ
fitting buffer at text = take (length buffer - at) text

-- `buffer` with `text` put into it at `at` is `left`, and what was put ends at `end`
pub record Put (buffer : List ℕ) (at : ℕ) (text : List ℕ) (end : ℕ) (left : List ℕ) : Type 0 where
  pub ends : end ≡ at + length (fitting buffer at text)
  pub leaves : left ≡ overlay buffer at (fitting buffer at text)
