-- Names for what private functions answer: parts of a payload laid over a buffer.
use Rattle.std.specs.Prelude.{◌≡◌, Bool, true, false, cond, List, [], ◌∷◌, ◌++◌, ℕ, zero, suc, ◌+◌, eqb, leb, length, drop, replicate}
use Rattle.number_octets.specs.Octets.{octets, overlay}
use Rattle.number_crc32c.specs.Crc.{crc_of}
use Rattle.wire_step.specs.Kinds.{apc}
use Rattle.wire_options.specs.Walk.{Item}
use Rattle.wire_reading.specs.Reading.{is_odd}
use Rattle.list_entry.specs.Shape.{shape_of}
use Rattle.list_entry.specs.Option.{Read, got, failed, read_number, read_option}
use Rattle.list_encoding.specs.Wire.{longest_short, crc_width, widths_of}
use Rattle.list_payload.specs.Payload.{wire_of, area_of, Datagram, size_of, datagram_with, udp_checksum_of}

-- bytes laid over a buffer from a position on, and the position behind them
pub record Laid (entry : List ℕ) (at : ℕ) (bytes exit : List ℕ) (end : ℕ) : Type 0 where
  pub over : exit ≡ overlay entry at bytes
  pub ends : end ≡ at + length bytes

-- the kind and the length in front of a body of a given size
unfoldable pub head_of : ℕ → ℕ → List ℕ
head_of kind size = cond (leb (size + 2) longest_short) (kind ∷ (size + 2) ∷ []) (kind ∷ 255 ∷ octets 2 (size + 4))

-- the bytes of at most two fields, by their widths
abbrev pub field_bytes : List ℕ → ℕ → ℕ → List ℕ
field_bytes [] first second = []
field_bytes (width ∷ []) first second = octets width first
field_bytes (width ∷ other ∷ widths) first second = octets width first ++ octets other second

-- the body of an option with fields; an APC's is the CRC
unfoldable pub field_body : ℕ → ℕ → ℕ → ℕ → List ℕ
field_body kind first second crc = cond (eqb kind apc) (octets crc_width crc) (field_bytes (widths_of (shape_of kind)) first second)

-- an option with the CRC worked out
unfoldable pub worked_by : ℕ → Item → Item
worked_by crc item = cond (eqb item.kind apc) (record { kind = apc; body = octets 4 crc }) item

-- what an option that was read takes on the wire, and what is left behind it; nothing is taken of what can't be read
abbrev pub wire_read : ℕ → Read Item → List ℕ
wire_read crc (got item rest) = wire_of (worked_by crc item)
wire_read crc (failed refusal) = []

abbrev pub left_behind : List ℕ → Read Item → List ℕ
left_behind l (got item rest) = rest
left_behind l (failed refusal) = l

-- so many options from the front of a list
unfoldable pub wires_read : ℕ → ℕ → List ℕ → List ℕ
wires_read crc zero l = []
wires_read crc (suc count) l = wire_read crc (read_option l) ++ wires_read crc count (left_behind l (read_option l))

-- all options of an encoded list
abbrev pub wires_counted : ℕ → Read ℕ → List ℕ
wires_counted crc (got count rest) = wires_read crc count rest
wires_counted crc (failed refusal) = []

unfoldable pub wires_listed : ℕ → List ℕ → List ℕ
wires_listed crc l = wires_counted crc (read_number 33 l)

-- one option of a list: its bytes laid over a buffer, and the list from the next one on
pub record Passes (list : List ℕ) (from crc : ℕ) (entry : List ℕ) (at : ℕ) (exit : List ℕ) (next end : ℕ) : Type 0 where
  pub laid : Laid entry at (wire_read crc (read_option (drop from list))) exit end
  pub left : drop next list ≡ left_behind (drop from list) (read_option (drop from list))

-- whether an option that was read is an APC, and whether one of so many is
abbrev pub apc_read : Read Item → Bool
apc_read (got item rest) = eqb item.kind apc
apc_read (failed refusal) = false

unfoldable pub apcs_read : ℕ → List ℕ → Bool
apcs_read zero l = false
apcs_read (suc count) l = cond (apc_read (read_option l)) true (apcs_read count (left_behind l (read_option l)))

-- one option of a list looked at: whether it is an APC, and the list from the next one on
pub record Sees (list : List ℕ) (from next : ℕ) (found : Bool) : Type 0 where
  pub wanted : found ≡ apc_read (read_option (drop from list))
  pub left : drop next list ≡ left_behind (drop from list) (read_option (drop from list))

-- behind the option checksum: the options of an encoded list, and the fill
abbrev pub listed_bytes : ℕ → List ℕ → ℕ → List ℕ
listed_bytes crc list fill = wires_listed crc list ++ replicate fill 0

-- a datagram before its options are known
abbrev pub plainly : (source destination : List ℕ) (source_port destination_port : ℕ) (user : List ℕ) → Datagram
plainly source destination source_port destination_port user = record {
  source = source;
  destination = destination;
  source_port = source_port;
  destination_port = destination_port;
  user = user;
  items = [];
  fill = 0;
}

-- header and user data, with the UDP checksum
abbrev pub summed : Datagram → List ℕ
summed d = datagram_with d (octets 2 (udp_checksum_of d))

-- the payload, by the encoded list of its options
abbrev pub payload_from : Datagram → List ℕ → ℕ → List ℕ
payload_from d list fill = summed d ++ area_of (is_odd (size_of d)) (listed_bytes (crc_of d.user) list fill)
