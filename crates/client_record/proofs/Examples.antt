-- Computed examples of the completion test: where no fragment contradicts another the sum gives the definition's answer, and where one does it may not.
-- Assumes nothing.
use Prim.Native.Nat.{ℕ, ◌-◌}
use mathlib.Core.Path.{◌≡◌, refl}
use mathlib.Core.Bool.{Bool, true, false}
use mathlib.Core.List.{List, [], ◌∷◌}
use lib.Dec.{eqb}
use Rattle.client_record.specs.declared.Fragment.{Fragment}
use Rattle.client_record.specs.Lists.{all, any, pairs, sum}
use Rattle.client_record.specs.Record.{
  fresh_fragment,
  is_last,
  end,
  covers,
  overlaps,
  both_last,
  outruns,
  conflicts,
  compatible,
  covered_to,
  last_of,
  whole,
}

abbrev piece : ℕ → ℕ → Fragment
piece from to = record { offset = from; length = to - from; option_start = 0; last = 0 }

abbrev last_piece : ℕ → ℕ → Fragment
last_piece from to = record { offset = from; length = to - from; option_start = 0; last = 1 }

-- the sum of the lengths is the known end
abbrev sum_fits : List Fragment → Bool
sum_fits fs = eqb (sum (λ f. f.length) fs) (end (last_of fs))

-- compatible, the sum fits, whole
abbrev answers : List Fragment → List Bool
answers fs = compatible fs ∷ sum_fits fs ∷ whole fs ∷ []

pub all_there : answers (last_piece 8 12 ∷ piece 0 8 ∷ []) ≡ true ∷ true ∷ true ∷ []
unfolding is_last end covers overlaps both_last outruns conflicts compatible covered_to last_of whole all any pairs sum
all_there = refl

pub one-byte-open : answers (last_piece 8 12 ∷ piece 0 7 ∷ []) ≡ true ∷ false ∷ false ∷ []
unfolding is_last end covers overlaps both_last outruns conflicts compatible covered_to last_of whole all any pairs sum
one-byte-open = refl

-- no last one: the bytes are there, and the end is not known
pub no-last-one : answers (piece 0 8 ∷ piece 8 12 ∷ []) ≡ true ∷ false ∷ false ∷ []
unfolding is_last end covers overlaps both_last outruns conflicts compatible covered_to last_of whole all any pairs sum fresh_fragment
no-last-one = refl

-- 0 to 4 and 0 to 2 overlap: the sum fits, and 4 and 5 are open
pub sum-misleads : answers (piece 0 4 ∷ piece 0 2 ∷ last_piece 6 8 ∷ []) ≡ false ∷ true ∷ false ∷ []
unfolding is_last end covers overlaps both_last outruns conflicts compatible covered_to last_of whole all any pairs sum
sum-misleads = refl
