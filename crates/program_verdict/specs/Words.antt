-- The words of verdicts, as lists of ASCII characters (document 01, "The program" and "Reading one IPv4 payload").
use Rattle.std.specs.Prelude.{Option, Some, None, List, [], ◌∷◌, ◌++◌, ℕ}
use Rattle.number_offsets.specs.declared.PacketOffset.{PacketOffset}
use Rattle.wire_reading.specs.declared.Verdict.{Verdict}
use Rattle.wire_reading.specs.Verdict.{verdict_says, fault_at}
use Rattle.program_text.specs.Characters.{blank, newline}
use Rattle.program_text.specs.Offsets.{at_offset}

-- verdict
abbrev pub verdict_word : List ℕ
verdict_word = 118 ∷ 101 ∷ 114 ∷ 100 ∷ 105 ∷ 99 ∷ 116 ∷ []

-- the word of a verdict
abbrev pub word_of : Verdict → List ℕ
word_of verdict = (verdict_says verdict).word

-- the end of the line, with the offset where a fault was met (document 02, R-7)
abbrev pub end_by : Option PacketOffset → List ℕ
end_by None = newline ∷ []
end_by (Some at) = at_offset at

unfoldable pub verdict_line : Verdict → List ℕ
verdict_line verdict = verdict_word ++ (blank ∷ []) ++ word_of verdict ++ end_by (fault_at verdict)
