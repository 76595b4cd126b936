-- What a reading says (document 01, "Reading one IPv4 payload" and "Walking the list"): by how the surplus area starts, and what the walk of its list comes to.
use Rattle.std.specs.Prelude.{Bool, true, false, cond, ◌&&◌, Result, Ok, Err, List, [], ◌∷◌, ℕ, ◌+◌, ◌-◌, ◌%◌, eqb, length, drop}
use Rattle.number_octets.specs.Octets.{number, part}
use Rattle.number_offsets.specs.Offsets.{udp_header}
use Rattle.number_offsets.specs.declared.PacketOffset.{PacketOffset}
use Rattle.number_crc32c.specs.Crc.{crc_of}
use Rattle.wire_nops.specs.declared.Strictness.{Strictness}
use Rattle.wire_step.specs.Kinds.{apc}
use Rattle.wire_options.specs.Walk.{Item, items_in}
use Rattle.wire_area.specs.Area.{AreaWalk, plain, piece, fault, area_of}
use Rattle.wire_options.specs.declared.walk.Fault.{Fault}
use Rattle.wire_options.specs.declared.walk.Fault.TheVariants.{Malformed as malformed_list, Unsafe as unsafe_list, FragData as frag_data, Crowded as crowded_list, Tail as tailed, Padded as padded_list}
use Rattle.wire_surplus.specs.declared.Unlisted.{Unlisted}
use Rattle.wire_surplus.specs.declared.Unlisted.TheVariants.{
  Empty,
  Short as short_area,
  Pad as bad_pad,
  Unsummed as no_sum,
  BadSum as bad_sum,
}
use Rattle.wire_reading.specs.declared.Extent.{Extent}
use Rattle.wire_reading.specs.declared.Apc.{Apc}
use Rattle.wire_reading.specs.declared.Apc.TheVariants.{Absent, Right, Wrong}
use Rattle.wire_reading.specs.declared.Verdict.{Verdict}
use Rattle.wire_reading.specs.declared.Verdict.TheVariants.{Bare, Short, Pad, Unsummed, BadSum, Malformed, Unsafe, FragData, Crowded, Tail, Padded, Read, Piece}
use Rattle.wire_reading.specs.Packet.{PacketReading as Reading}

-- ---- limits

-- an IPv4 packet of 65,535 bytes less its header
unfoldable pub payload_limit : ℕ
payload_limit = 65515

-- ---- what a reading says

abbrev pub extent : ℕ → ℕ → Extent
extent from to = record { from = record { 0 = from }; to = record { 0 = to } }

-- the values of the APCs in a list
unfoldable pub apc_values : List Item → List ℕ
apc_values [] = []
apc_values (item ∷ items) = cond (eqb item.kind apc) (number item.body ∷ apc_values items) (apc_values items)

unfoldable pub all_are : ℕ → List ℕ → Bool
all_are n [] = true
all_are n (x ∷ xs) = eqb x n && all_are n xs

-- none without an APC, wrong if any differs from the CRC32c of the user data
abbrev pub apc_of : List ℕ → List ℕ → Apc
apc_of user [] = Absent
apc_of user (v ∷ values) = cond (all_are (crc_of user) (v ∷ values)) Right Wrong

-- a reading that reports no option
abbrev pub optionless : ℕ → Verdict → Reading
optionless size verdict = record { user = extent udp_header size; verdict = verdict; options = extent 0 0; count = 0; fill = 0; apc = Absent }

-- a fault that was met at an offset
abbrev pub verdict_of : Fault → PacketOffset → Verdict
verdict_of malformed_list at = Malformed at
verdict_of unsafe_list at = Unsafe at
verdict_of frag_data at = FragData at
verdict_of crowded_list at = Crowded at
verdict_of tailed at = Tail at
verdict_of padded_list at = Padded at

-- an area that has no option list
abbrev pub unlisted_verdict : Unlisted → Verdict
unlisted_verdict Empty = Bare
unlisted_verdict short_area = Short
unlisted_verdict bad_pad = Pad
unlisted_verdict no_sum = Unsummed
unlisted_verdict bad_sum = BadSum

-- the reading after the walk of a list at packet offset `from`
abbrev pub walked : List ℕ → ℕ → ℕ → AreaWalk → Reading
walked payload size from (plain list fill) = record {
  user = extent udp_header size;
  verdict = Read;
  options = extent from (length payload);
  count = length list;
  fill = fill;
  apc = apc_of (part udp_header (size - udp_header) payload) (apc_values (items_in list));
}
walked payload size from (piece fragment) = optionless size (Piece fragment)
walked payload size from (fault f at) = optionless size (verdict_of f at)

-- whether there is no user data: L is that of a header alone
abbrev pub no_data : ℕ → Bool
no_data size = eqb size udp_header

abbrev pub started : Strictness → List ℕ → ℕ → Result ℕ Unlisted → Reading
started how payload size (Ok at) =
    walked payload size (size + at) (area_of how (no_data size) (size + at) (drop (size + at) payload))
started how payload size (Err unlisted) = optionless size (unlisted_verdict unlisted)

-- whether an offset is odd
abbrev pub is_odd : ℕ → Bool
is_odd n = eqb (n % 2) 1

-- options are reported only with "read"
abbrev pub is_read : Verdict → Bool
is_read Bare = false
is_read Short = false
is_read Pad = false
is_read Unsummed = false
is_read BadSum = false
is_read (Malformed at) = false
is_read (Unsafe at) = false
is_read (FragData at) = false
is_read (Crowded at) = false
is_read (Tail at) = false
is_read (Padded at) = false
is_read Read = true
is_read (Piece fragment) = false
