-- Tests in order, each with the number of its refusal (document 01: the first that applies is the answer).
use Rattle.std.specs.Prelude.{ℕ, Bool, cond, List, [], ◌∷◌}
use Rattle.std.proofs.Math.Option.{Option, none, some}

-- the number of the first test that applies
unfoldable pub first_of : List (Bool × ℕ) → Option ℕ
first_of [] = none
first_of (x ∷ xs) = cond x.0 (some x.1) (first_of xs)
