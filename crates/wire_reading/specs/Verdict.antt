-- What document 01 says of a verdict and of the APCs ("Reading one IPv4 payload"): a number in its order, its word, and the values that it has.
use Rattle.std.specs.Prelude.{Option, Some, None, List, [], ◌∷◌, ℕ}
use Rattle.number_offsets.specs.declared.PacketOffset.{PacketOffset}
use Rattle.wire_area.specs.declared.Fragment.{Fragment}
use Rattle.wire_reading.specs.declared.Apc.{Apc}
use Rattle.wire_reading.specs.declared.Apc.TheVariants.{Absent, Right, Wrong}
use Rattle.wire_reading.specs.declared.Verdict.{Verdict}
use Rattle.wire_reading.specs.declared.Verdict.TheVariants.{Bare, Short, Pad, Unsummed, BadSum, Malformed, Unsafe, FragData, Crowded, Tail, Padded, Read, Piece}

-- ---- the words, as lists of ASCII characters

-- none
abbrev pub none_word : List ℕ
none_word = 110 ∷ 111 ∷ 110 ∷ 101 ∷ []

-- short
abbrev pub short_word : List ℕ
short_word = 115 ∷ 104 ∷ 111 ∷ 114 ∷ 116 ∷ []

-- pad
abbrev pub pad_word : List ℕ
pad_word = 112 ∷ 97 ∷ 100 ∷ []

-- unsummed
abbrev pub unsummed_word : List ℕ
unsummed_word = 117 ∷ 110 ∷ 115 ∷ 117 ∷ 109 ∷ 109 ∷ 101 ∷ 100 ∷ []

-- badsum
abbrev pub badsum_word : List ℕ
badsum_word = 98 ∷ 97 ∷ 100 ∷ 115 ∷ 117 ∷ 109 ∷ []

-- malformed
abbrev pub malformed_word : List ℕ
malformed_word = 109 ∷ 97 ∷ 108 ∷ 102 ∷ 111 ∷ 114 ∷ 109 ∷ 101 ∷ 100 ∷ []

-- unsafe
abbrev pub unsafe_word : List ℕ
unsafe_word = 117 ∷ 110 ∷ 115 ∷ 97 ∷ 102 ∷ 101 ∷ []

-- fragdata
abbrev pub fragdata_word : List ℕ
fragdata_word = 102 ∷ 114 ∷ 97 ∷ 103 ∷ 100 ∷ 97 ∷ 116 ∷ 97 ∷ []

-- crowded
abbrev pub crowded_word : List ℕ
crowded_word = 99 ∷ 114 ∷ 111 ∷ 119 ∷ 100 ∷ 101 ∷ 100 ∷ []

-- tail
abbrev pub tail_word : List ℕ
tail_word = 116 ∷ 97 ∷ 105 ∷ 108 ∷ []

-- padded
abbrev pub padded_word : List ℕ
padded_word = 112 ∷ 97 ∷ 100 ∷ 100 ∷ 101 ∷ 100 ∷ []

-- read
abbrev pub read_word : List ℕ
read_word = 114 ∷ 101 ∷ 97 ∷ 100 ∷ []

-- piece
abbrev pub piece_word : List ℕ
piece_word = 112 ∷ 105 ∷ 101 ∷ 99 ∷ 101 ∷ []

-- right
abbrev pub right_word : List ℕ
right_word = 114 ∷ 105 ∷ 103 ∷ 104 ∷ 116 ∷ []

-- wrong
abbrev pub wrong_word : List ℕ
wrong_word = 119 ∷ 114 ∷ 111 ∷ 110 ∷ 103 ∷ []

-- ---- the cases

pub record Said (Values : Type 0) : Type 0 where
  pub number : ℕ
  pub word : List ℕ
  pub values : Values

abbrev said : ℕ → List ℕ → Said (Option Fragment)
said number word = record { number = number; word = word; values = None }

-- "The verdict is the first of these that applies": numbered in that order from 0, and "tail" and "padded", which came later, behind them all, so
-- that the other numbers stay. "piece" has a fragment.
abbrev pub verdict_says : Verdict → Said (Option Fragment)
verdict_says Bare = said 0 none_word
verdict_says Short = said 1 short_word
verdict_says Pad = said 2 pad_word
verdict_says Unsummed = said 3 unsummed_word
verdict_says BadSum = said 4 badsum_word
verdict_says (Malformed at) = said 5 malformed_word
verdict_says (Unsafe at) = said 6 unsafe_word
verdict_says (FragData at) = said 7 fragdata_word
verdict_says (Crowded at) = said 8 crowded_word
verdict_says (Tail at) = said 11 tail_word
verdict_says (Padded at) = said 12 padded_word
verdict_says Read = said 9 read_word
verdict_says (Piece fragment) = record { number = 10; word = piece_word; values = Some fragment }

-- "with a fault verdict of the walk, the offset where the fault was met" (document 02, R-7); the others have none
abbrev pub fault_at : Verdict → Option PacketOffset
fault_at (Malformed at) = Some at
fault_at (Unsafe at) = Some at
fault_at (FragData at) = Some at
fault_at (Crowded at) = Some at
fault_at (Tail at) = Some at
fault_at (Padded at) = Some at
fault_at Bare = None
fault_at Short = None
fault_at Pad = None
fault_at Unsummed = None
fault_at BadSum = None
fault_at Read = None
fault_at (Piece fragment) = None

-- "APC none, right or wrong"
abbrev pub apc_says : Apc → Said Unit
apc_says Absent = record { number = 0; word = none_word; values = tt }
apc_says Right = record { number = 1; word = right_word; values = tt }
apc_says Wrong = record { number = 2; word = wrong_word; values = tt }
