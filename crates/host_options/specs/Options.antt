-- The options of a reading or a rereading one by one, as values of include/wuraketozo.h. Document 02, R-7: "Each step of the walk shall also give the
-- option's offset from the UDP header"; "In a reread original an offset is 8 plus the place". What a value does not say is 0.
use Rattle.std.specs.Prelude.{ℕ, ◌+◌, ◌-◌, ◌≤◌, ◌<◌, cond, List, length, Option, Some, None}
use Rattle.number_octets.specs.Octets.{part}
use Rattle.number_offsets.specs.Offsets.{offset_of}
use Rattle.wire_offsets.specs.Next.{next_of}
use Rattle.wire_offsets.specs.declared.Found.{Found}
use Rattle.wire_reading.specs.Reading.{extent}
use Rattle.wire_reading.specs.declared.Extent.{Extent}
use Rattle.wire_reading.specs.declared.Verdict.{Verdict}
use Rattle.wire_original.specs.Rereading.{places}
use Rattle.wire_original.specs.declared.OriginalExtent.{OriginalExtent}
use Rattle.list_readings.specs.Catalogue.{is_listed}
use Rattle.host_options.specs.declared.PacketOption.{PacketOption}
use Rattle.host_options.specs.declared.OriginalOption.{OriginalOption}

-- ---- of a payload

abbrev pub no_packet_option : PacketOption
no_packet_option = record { found = 0; kind = 0; offset = record { 0 = 0 }; body = extent 0 0 }

-- an option of the list that starts at the packet offset `from`: its kind byte, and its fields or body behind the header
abbrev pub packet_option : ℕ → Option Found → PacketOption
packet_option from (Some f) =
    record { found = 1; kind = f.kind; offset = record { 0 = from + f.at }; body = extent (from + f.at + f.header) (from + f.at + f.size) }
packet_option from None = no_packet_option

-- The first option in a part of the payload. None with any verdict but "read", or where the part does not lie in the payload.
unfoldable pub next_in : List ℕ → Verdict → Extent → PacketOption
next_in payload verdict rest =
    cond (is_listed verdict rest.from.0 rest.to.0 (length payload))
    (packet_option rest.from.0 (next_of (part rest.from.0 (rest.to.0 - rest.from.0) payload)))
    no_packet_option

-- ---- of an original

abbrev pub no_original_option : OriginalOption
no_original_option = record { found = 0; kind = 0; offset = record { 0 = 0 }; body = places 0 0 }

-- the same of a list that starts at the place `from`: the offset is 8 plus the place of the kind byte
abbrev pub original_option : ℕ → Option Found → OriginalOption
original_option from (Some f) =
    record { found = 1; kind = f.kind; offset = offset_of (record { 0 = from + f.at }); body = places (from + f.at + f.header) (from + f.at + f.size) }
original_option from None = no_original_option

unfoldable pub renext_in : List ℕ → Verdict → OriginalExtent → OriginalOption
renext_in original verdict rest =
    cond (is_listed verdict rest.from.0 rest.to.0 (length original))
    (original_option rest.from.0 (next_of (part rest.from.0 (rest.to.0 - rest.from.0) original)))
    no_original_option

-- ---- what private functions ask

-- the option ends within as many bytes as a slice may have, and its header lies in it
abbrev pub Fits : ℕ → Option Found → Type 0
Fits from (Some f) = (f.header ≤ f.size) × (from + f.at + f.size < 9223372036854775808)
Fits from None = Unit {0}
