-- The hexadecimal form of a list is that of its bytes in order.
-- Assumes nothing.
use mathlib.Core.Path.{◌≡◌, refl, ap, ◌∙◌}
use mathlib.Core.List.{List, [], ◌∷◌, ◌++◌}
use Prim.Native.Nat.{ℕ, ◌+◌, ◌/◌, ◌%◌, ◌<◌}
use native.Mathlib.Numerals.{add-one}
use lib.ListN.{length, take, get_or}
use lib.Seq.{take-suc}
use Rattle.program_text.specs.Digits.{hex_digit, hex_of}

hex-append : (a b : List ℕ) → hex_of (a ++ b) ≡ hex_of a ++ hex_of b
unfolding hex_of
hex-append [] b = refl
hex-append (x ∷ a) b = ap (λ (l : List ℕ). hex_digit (x / 16) ∷ hex_digit (x % 16) ∷ l) (hex-append a b)

-- one byte more
pub hex-more : (l : List ℕ) (i : ℕ) → i < length l → hex_of (take (i + 1) l) ≡ hex_of (take i l) ++ hex_of (get_or l i 0 ∷ [])
hex-more l i h = ap (λ (n : ℕ). hex_of (take n l)) (add-one i) ∙ ap hex_of (take-suc l i 0 h) ∙ hex-append (take i l) (get_or l i 0 ∷ [])
