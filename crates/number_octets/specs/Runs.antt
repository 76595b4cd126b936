-- Bytes of one value in a row.
use Rattle.std.specs.Prelude.{cond, List, [], ◌∷◌, ℕ, ◌+◌, eqb}

-- how many bytes of that value stand at the front of a list
unfoldable pub run_of : ℕ → List ℕ → ℕ
run_of byte [] = 0
run_of byte (b ∷ bs) = cond (eqb b byte) (1 + run_of byte bs) 0
