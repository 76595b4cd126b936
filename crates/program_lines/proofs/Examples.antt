-- Lines of options, computed: numbers and bodies as document 01 and its open points show them.
-- Assumes nothing.
use mathlib.Core.Path.{◌≡◌, refl}
use mathlib.Core.List.{[], ◌∷◌}
use Rattle.number_octets.specs.Octets.{number}
use Rattle.program_text.specs.Digits.{digits_in, decimal_of, hex_digit, hex_of}
use Rattle.program_text.specs.Offsets.{at_offset}
use Rattle.program_lines.specs.Lines.{numbers_of, body_of, option_line, option_lines}

-- kind 6 300 at 10
token : option_line (record { 0 = 10 }) (record { kind = 6; body = 0 ∷ 0 ∷ 1 ∷ 44 ∷ [] })
    ≡ 107 ∷ 105 ∷ 110 ∷ 100 ∷ 32 ∷ 54 ∷ 32 ∷ 51 ∷ 48 ∷ 48 ∷ 32 ∷ 97 ∷ 116 ∷ 32 ∷ 49 ∷ 48 ∷ 10 ∷ []
unfolding option_line at_offset numbers_of number decimal_of digits_in
token = refl

-- kind 5 8192 4 at 11
sizes : option_line (record { 0 = 11 }) (record { kind = 5; body = 32 ∷ 0 ∷ 4 ∷ [] })
    ≡ 107 ∷ 105 ∷ 110 ∷ 100 ∷ 32 ∷ 53 ∷ 32 ∷ 56 ∷ 49 ∷ 57 ∷ 50 ∷ 32 ∷ 52 ∷ 32 ∷ 97 ∷ 116 ∷ 32 ∷ 49 ∷ 49 ∷ 10 ∷ []
unfolding option_line at_offset numbers_of number decimal_of digits_in
sizes = refl

-- kind 9 at 10, with an empty body; then kind 9 0af1 at 12: of a list that ends at 16, where 6 and 4 bytes remain
bodies : option_lines 16
    (record { remains = 6; size = 2; item = record { kind = 9; body = [] } }
    ∷ record { remains = 4; size = 4; item = record { kind = 9; body = 10 ∷ 241 ∷ [] } } ∷ [])
    ≡ 107 ∷ 105 ∷ 110 ∷ 100 ∷ 32 ∷ 57 ∷ 32 ∷ 97 ∷ 116 ∷ 32 ∷ 49 ∷ 48 ∷ 10
    ∷ 107 ∷ 105 ∷ 110 ∷ 100 ∷ 32 ∷ 57 ∷ 32 ∷ 48 ∷ 97 ∷ 102 ∷ 49 ∷ 32 ∷ 97 ∷ 116 ∷ 32 ∷ 49 ∷ 50 ∷ 10 ∷ []
unfolding option_lines option_line at_offset body_of hex_of hex_digit decimal_of digits_in
bodies = refl
