-- A line of a report, computed: a count as document 01 shows it.
-- Assumes nothing.
use mathlib.Core.Path.{◌≡◌, refl}
use mathlib.Core.List.{[], ◌∷◌}
use Rattle.program_text.specs.Digits.{digits_in, decimal_of}
use Rattle.program_report.specs.Words.{user_word}
use Rattle.program_report.specs.Report.{number_line}

-- user 0
user-none : number_line user_word 0 ≡ 117 ∷ 115 ∷ 101 ∷ 114 ∷ 32 ∷ 48 ∷ 10 ∷ []
unfolding number_line decimal_of digits_in
user-none = refl
