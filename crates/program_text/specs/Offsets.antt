-- The end of a line that says where something stands. Document 02, R-7: "the program's option lines end in ` at N`, and the fault verdict line too".
use Rattle.std.specs.Prelude.{List, [], ◌∷◌, ◌++◌, ℕ}
use Rattle.number_offsets.specs.declared.PacketOffset.{PacketOffset}
use Rattle.program_text.specs.Digits.{decimal_of}
use Rattle.program_text.specs.Characters.{blank, newline}

-- at
abbrev pub at_word : List ℕ
at_word = 97 ∷ 116 ∷ []

unfoldable pub at_offset : PacketOffset → List ℕ
at_offset offset = (blank ∷ []) ++ at_word ++ (blank ∷ []) ++ decimal_of offset.0 ++ (newline ∷ [])
