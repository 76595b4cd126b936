-- Lines of verdicts, computed.
-- Assumes nothing.
use mathlib.Core.Path.{◌≡◌, refl}
use mathlib.Core.List.{[], ◌∷◌}
use Rattle.wire_reading.specs.declared.Verdict.TheVariants.{Bare, Malformed}
use Rattle.program_text.specs.Digits.{digits_in, decimal_of}
use Rattle.program_text.specs.Offsets.{at_offset}
use Rattle.program_verdict.specs.Words.{verdict_line}

-- verdict none
verdict-none : verdict_line Bare ≡ 118 ∷ 101 ∷ 114 ∷ 100 ∷ 105 ∷ 99 ∷ 116 ∷ 32 ∷ 110 ∷ 111 ∷ 110 ∷ 101 ∷ 10 ∷ []
unfolding verdict_line
verdict-none = refl

-- verdict malformed at 12
verdict-malformed : verdict_line (Malformed (record { 0 = 12 }))
    ≡ 118 ∷ 101 ∷ 114 ∷ 100 ∷ 105 ∷ 99 ∷ 116 ∷ 32 ∷ 109 ∷ 97 ∷ 108 ∷ 102 ∷ 111 ∷ 114 ∷ 109 ∷ 101 ∷ 100 ∷ 32 ∷ 97 ∷ 116 ∷ 32 ∷ 49 ∷ 50 ∷ 10 ∷ []
unfolding verdict_line at_offset decimal_of digits_in
verdict-malformed = refl
