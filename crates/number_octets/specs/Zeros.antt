-- Bytes that are all zero.
use Rattle.std.specs.Prelude.{Bool, true, cond, ◌&&◌, List, [], ◌∷◌, ℕ, ◌+◌, eqb}

unfoldable pub all_zero : List ℕ → Bool
all_zero [] = true
all_zero (b ∷ bs) = eqb b 0 && all_zero bs

-- how many zero bytes stand in front of the first other one; all of them where there is none
unfoldable pub zeros_of : List ℕ → ℕ
zeros_of [] = 0
zeros_of (b ∷ bs) = cond (eqb b 0) (1 + zeros_of bs) 0
