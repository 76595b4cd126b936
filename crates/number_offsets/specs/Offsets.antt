-- Where bytes stand: an offset in a packet counts from that packet's UDP header, a place in the original (document 01) from the
-- original's first user byte. RFC 9868 section 11.4 counts its two fields from the original's UDP header.
use Rattle.std.specs.Prelude.{Bool, true, false, Option, Some, None, ℕ, ◌+◌, ◌-◌, ltb}
use Rattle.number_offsets.specs.declared.PacketOffset.{PacketOffset}
use Rattle.number_offsets.specs.declared.OriginalOffset.{OriginalOffset}

-- the length of a UDP header (RFC 768)
unfoldable pub udp_header : ℕ
udp_header = 8

-- a value before the origin of user data names no place
abbrev pub origin_of : Bool → ℕ → Option OriginalOffset
origin_of true field = None
origin_of false field = Some (record { 0 = field - udp_header })

-- the place that a field of section 11.4 names
unfoldable pub place_of : ℕ → Option OriginalOffset
place_of field = origin_of (ltb field udp_header) field

-- the way back: where a place stands, counted from the original's UDP header
unfoldable pub offset_of : OriginalOffset → PacketOffset
offset_of place = record { 0 = udp_header + place.0 }
