-- The payload that the writer makes (document 01, "Dockets and the writer").
use Rattle.std.specs.Prelude.{Bool, cond, List, [], ◌∷◌, ◌++◌, ℕ, ◌+◌, eqb, leb, length, replicate}
use Rattle.number_octets.specs.Octets.{octets}
use Rattle.number_offsets.specs.Offsets.{udp_header}
use Rattle.number_checksum.specs.Checksum.{word_sum, folded, sent}
use Rattle.number_crc32c.specs.Crc.{crc_of}
use Rattle.wire_step.specs.Kinds.{apc}
use Rattle.wire_options.specs.Walk.{Item, Located}
use Rattle.wire_datagram.specs.Reading.{pseudo_header, udp_sum}
use Rattle.wire_reading.specs.Reading.{is_odd}
use Rattle.list_encoding.specs.Wire.{longest_short, crc_width}

-- an option on the wire: the extended form is used only where the short would pass 254
unfoldable pub wire_of : Item → List ℕ
wire_of item =
    cond (leb (length item.body + 2) longest_short)
    (item.kind ∷ (length item.body + 2) ∷ item.body)
    (item.kind ∷ 255 ∷ (octets 2 (length item.body + 4) ++ item.body))

-- the writer works an APC out
unfoldable pub worked : List ℕ → Item → Item
worked user item = cond (eqb item.kind apc) (record { kind = apc; body = octets crc_width (crc_of user) }) item

unfoldable pub worked_all : List ℕ → List Item → List Item
worked_all user [] = []
worked_all user (item ∷ items) = worked user item ∷ worked_all user items

-- options in order without NOPs
unfoldable pub wires : List Item → List ℕ
wires [] = []
wires (item ∷ items) = wire_of item ++ wires items

-- where each of them stands, with the fill behind them: what is written from it on remains there
abbrev pub standing : List Item → ℕ → List Located
standing [] fill = []
standing (item ∷ items) fill =
    record { remains = length (wires (item ∷ items)) + fill; size = length (wire_of item); item = item } ∷ standing items fill

-- behind the option checksum: options, then the fill as zero bytes, the first being EOL
unfoldable pub list_of : List ℕ → List Item → ℕ → List ℕ
list_of user items fill = wires (worked_all user items) ++ replicate fill 0

-- the pad before the option checksum, and the area with a given option checksum
abbrev pub padding : Bool → List ℕ
padding odd = cond odd (0 ∷ []) []

abbrev pub area_with : Bool → List ℕ → List ℕ → List ℕ
area_with odd ocs list = padding odd ++ (ocs ++ list)

-- both checksums are always worked out; a 0 is sent as FFFF
unfoldable pub area_of : Bool → List ℕ → List ℕ
area_of odd list =
    let blank = area_with odd (0 ∷ 0 ∷ []) list in
    area_with odd (octets 2 (sent (folded (length blank + word_sum odd blank)))) list

-- what a datagram is made from
pub record Datagram : Type 0 where
  pub source : List ℕ
  pub destination : List ℕ
  pub source_port : ℕ
  pub destination_port : ℕ
  pub user : List ℕ
  pub items : List Item
  pub fill : ℕ

abbrev pub size_of : Datagram → ℕ
size_of d = udp_header + length d.user

-- ports and UDP length, before the checksum
abbrev pub front_of : Datagram → List ℕ
front_of d = octets 2 d.source_port ++ (octets 2 d.destination_port ++ octets 2 (size_of d))

-- header and user data with a given UDP checksum
abbrev pub datagram_with : Datagram → List ℕ → List ℕ
datagram_with d sum = front_of d ++ (sum ++ d.user)

unfoldable pub udp_checksum_of : Datagram → ℕ
udp_checksum_of d = sent (udp_sum (pseudo_header d.source d.destination (size_of d)) (datagram_with d (0 ∷ 0 ∷ [])))

-- the whole payload: header, data, pad, option checksum, options, fill
unfoldable pub payload_of : Datagram → List ℕ
payload_of d = datagram_with d (octets 2 (udp_checksum_of d)) ++ area_of (is_odd (size_of d)) (list_of d.user d.items d.fill)
