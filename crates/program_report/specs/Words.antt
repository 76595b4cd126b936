-- The labels of a report, as lists of ASCII characters (document 01, "The program").
use Rattle.std.specs.Prelude.{List, [], ◌∷◌, ℕ}

-- user
abbrev pub user_word : List ℕ
user_word = 117 ∷ 115 ∷ 101 ∷ 114 ∷ []

-- fill
abbrev pub fill_word : List ℕ
fill_word = 102 ∷ 105 ∷ 108 ∷ 108 ∷ []

-- refused
abbrev pub refused_word : List ℕ
refused_word = 114 ∷ 101 ∷ 102 ∷ 117 ∷ 115 ∷ 101 ∷ 100 ∷ []
