-- The report on a payload (document 01, "The program").
use Rattle.std.specs.Prelude.{cond, List, [], ◌∷◌, ◌++◌, ℕ}
use Rattle.wire_nops.specs.declared.Strictness.TheVariants.{Plain}
use Rattle.wire_options.specs.Walk.{walk_from, option_limit, options_of}
use Rattle.wire_reading.specs.Extents.{size_of, bytes_in}
use Rattle.wire_datagram.specs.Reading.{Answer, refused, reads, reading}
use Rattle.wire_reading.specs.Reading.{is_read}
use Rattle.wire_reading.specs.declared.Extent.{Extent}
use Rattle.wire_reading.specs.Packet.{PacketReading as Reading}
use Rattle.program_text.specs.Digits.{decimal_of}
use Rattle.program_text.specs.Characters.{blank, newline}
use Rattle.program_lines.specs.Lines.{option_lines}
use Rattle.program_verdict.specs.Words.{verdict_line}
use Rattle.program_report.specs.Words.{user_word, fill_word, refused_word}

-- a label and a number
unfoldable pub number_line : List ℕ → ℕ → List ℕ
number_line word n = word ++ (blank ∷ []) ++ decimal_of n ++ (newline ∷ [])

-- the options that an extent of the payload lists, and the fill
unfoldable pub listing_of : List ℕ → Extent → ℕ → List ℕ
listing_of payload options fill =
    option_lines options.to.0 (options_of (walk_from option_limit 0 (bytes_in options payload))) ++ number_line fill_word fill

-- the count of user bytes, the verdict and, only with "read", the options
unfoldable pub reading_text : List ℕ → Reading → List ℕ
reading_text payload reading =
    number_line user_word (size_of reading.user) ++ verdict_line reading.verdict
    ++ cond (is_read reading.verdict) (listing_of payload reading.options reading.fill) []

abbrev pub answer_text : List ℕ → Answer → List ℕ
answer_text payload (refused number) = number_line refused_word number
answer_text payload (reads reading) = reading_text payload reading

-- what is printed of a payload between a source and a destination: "the small program is not strict" (document 02, R-6)
unfoldable pub report_of : List ℕ → List ℕ → List ℕ → List ℕ
report_of payload source destination = answer_text payload (reading Plain payload source destination)
