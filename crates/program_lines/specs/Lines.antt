-- The lines of an option list in a report (document 01, "The program").
use Rattle.std.specs.Prelude.{Bool, true, false, List, [], ◌∷◌, ◌++◌, ℕ, take, drop}
use Rattle.number_octets.specs.Octets.{number}
use Rattle.wire_step.specs.Kinds.{widths_of}
use Rattle.number_offsets.specs.declared.PacketOffset.{PacketOffset}
use Rattle.wire_options.specs.Walk.{Item, Located, Walked, listed, faulty, offset_before}
use Rattle.program_text.specs.Digits.{decimal_of, hex_of}
use Rattle.program_text.specs.Characters.{blank}
use Rattle.program_text.specs.Offsets.{at_offset}

-- ---- an option

-- each number of a body in decimal, behind a blank
unfoldable pub numbers_of : List ℕ → List ℕ → List ℕ
numbers_of [] body = []
numbers_of (width ∷ widths) body = (blank ∷ []) ++ decimal_of (number (take width body)) ++ numbers_of widths (drop width body)

-- a body in hexadecimal behind a blank; of an empty one nothing
unfoldable pub body_of : List ℕ → List ℕ
body_of [] = []
body_of (b ∷ bs) = (blank ∷ []) ++ hex_of (b ∷ bs)

abbrev pub fields_by : List ℕ → List ℕ → List ℕ
fields_by [] body = body_of body
fields_by (width ∷ widths) body = numbers_of (width ∷ widths) body

-- what is shown of an option's fields, each number as wide as its kind says, or of its body
abbrev pub fields_of : ℕ → List ℕ → List ℕ
fields_of kind body = fields_by (widths_of kind) body

-- kind
abbrev pub kind_word : List ℕ
kind_word = 107 ∷ 105 ∷ 110 ∷ 100 ∷ []

-- an option that stands at a packet offset
unfoldable pub option_line : PacketOffset → Item → List ℕ
option_line offset item = kind_word ++ (blank ∷ []) ++ decimal_of item.kind ++ fields_of item.kind item.body ++ at_offset offset

-- ---- a list

-- a line for each option of a list that ends at the packet offset `end`, in order
unfoldable pub option_lines : ℕ → List Located → List ℕ
option_lines end [] = []
option_lines end (option ∷ options) = option_line (offset_before end option.remains) option.item ++ option_lines end options

-- the walk meets no fault
abbrev pub is_listed : Walked → Bool
is_listed (listed options fill) = true
is_listed (faulty fault remains) = false
