-- The start of a surplus area: pad and option checksum (document 01, "Reading one IPv4 payload"; RFC 9868 sections 8 and 9).
use Rattle.std.specs.Prelude.{Bool, cond, not, ◌&&◌, Result, Ok, Err, List, ℕ, ◌+◌, eqb, ltb, length, get_or}
use Rattle.number_octets.specs.Octets.{number, part}
use Rattle.number_checksum.specs.Checksum.{word_sum, folded, all_ones}
use Rattle.wire_surplus.specs.declared.Unlisted.{Unlisted}
use Rattle.wire_surplus.specs.declared.Unlisted.TheVariants.{Empty, Short, Pad, Unsummed, BadSum}

-- the pad is one byte if the area starts at an odd offset, else none
abbrev pub pad_of : Bool → ℕ
pad_of odd = cond odd 1 0

-- the option checksum, behind the pad
abbrev pub ocs_of : Bool → List ℕ → ℕ
ocs_of odd area = number (part (pad_of odd) 2 area)

-- the sum over the area's length and the area, paired on even offsets from the UDP header, is FFFF
abbrev pub ocs_holds : Bool → List ℕ → Bool
ocs_holds odd area = eqb (folded (length area + word_sum odd area)) all_ones

-- what the option checksum says: missing beside a UDP checksum, wrong, or that the list starts behind it
abbrev pub summed_of : Bool → Bool → List ℕ → Result ℕ Unlisted
summed_of odd unused area =
    cond (eqb (ocs_of odd area) 0 && not unused) (Err Unsummed)
    (cond (not (eqb (ocs_of odd area) 0) && not (ocs_holds odd area)) (Err BadSum)
    (Ok (pad_of odd + 2)))

-- The first of these that applies; else what the option checksum says. `odd`: the area starts at an odd offset from the UDP header.
-- `unused`: the UDP checksum is zero.
unfoldable pub start_of : Bool → Bool → List ℕ → Result ℕ Unlisted
start_of odd unused area =
    cond (eqb (length area) 0) (Err Empty)
    (cond (ltb (length area) (pad_of odd + 2)) (Err Short)
    (cond (odd && not (eqb (get_or area 0 0) 0)) (Err Pad)
    (summed_of odd unused area)))
