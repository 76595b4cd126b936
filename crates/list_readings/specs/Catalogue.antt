-- Listing a reading. Document 01, "Dockets and the writer": "A reading can be listed as a docket into a lent buffer (8 if too small; bytes behind
-- stay), with no option and fill 0 unless the verdict is "read"".
use Rattle.std.specs.Prelude.{Bool, cond, ◌&&◌, List, [], ℕ, ◌-◌, leb, length}
use Rattle.number_octets.specs.Octets.{part}
use Rattle.wire_options.specs.Walk.{Walked, listed, walk_from, option_limit}
use Rattle.wire_reading.specs.Reading.{is_read}
use Rattle.wire_reading.specs.declared.Verdict.{Verdict}

-- The verdict is "read" and the option list lies within so many bytes. With a value that no reading gave, it need not.
abbrev pub is_listed : Verdict → ℕ → ℕ → ℕ → Bool
is_listed verdict from to size = is_read verdict && leb from to && leb to size

-- What a reading or a rereading of these bytes has to list, by its verdict and the ends of its option list.
unfoldable pub walk_of_value : List ℕ → Verdict → ℕ → ℕ → Walked
walk_of_value bytes verdict from to =
    cond (is_listed verdict from to (length bytes)) (walk_from option_limit 0 (part from (to - from) bytes)) (listed [] 0)
