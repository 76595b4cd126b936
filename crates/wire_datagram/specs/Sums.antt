-- A sum that begins with some bytes.
use Rattle.std.specs.Prelude.{◌≡◌, false, List, ◌++◌, ℕ, ◌+◌}
use Rattle.number_checksum.specs.Checksum.{word_sum, folded}

-- `sum` may stand for `front` in any sum that is to be folded, whatever stands behind it
pub record Begins (sum : ℕ) (front : List ℕ) : Type 0 where
  pub folds : (rest : List ℕ) → folded (sum + word_sum false rest) ≡ folded (word_sum false (front ++ rest))
