-- A reading by what the walk of the list answers: what the functions that make it answer.
use Rattle.std.specs.Prelude.{cond, Result, Ok, Err, List, ℕ, ◌-◌, eqb, length}
use Rattle.number_octets.specs.Octets.{part}
use Rattle.number_offsets.specs.Offsets.{udp_header}
use Rattle.number_crc32c.specs.Crc.{crc_of}
use Rattle.wire_options.specs.declared.walk.Apcs.{Apcs}
use Rattle.wire_options.specs.declared.walk.Apcs.TheVariants.{Absent as absent, Same, Different}
use Rattle.wire_options.specs.declared.walk.Met.{Met}
use Rattle.wire_area.specs.declared.Area.{Area}
use Rattle.wire_area.specs.declared.Area.TheVariants.{Listed, Piece as piece_area}
use Rattle.wire_reading.specs.Reading.{extent, optionless, verdict_of}
use Rattle.wire_reading.specs.declared.Apc.{Apc}
use Rattle.wire_reading.specs.declared.Apc.TheVariants.{Absent, Right, Wrong}
use Rattle.wire_reading.specs.declared.Verdict.TheVariants.{Read, Piece}
use Rattle.wire_reading.specs.Packet.{PacketReading as Reading}

-- APCs that differ from each other are not all right
abbrev pub apc_by : List ℕ → Apcs → Apc
apc_by user absent = Absent
apc_by user (Same v) = cond (eqb v (crc_of user)) Right Wrong
apc_by user Different = Wrong

abbrev pub reading_by : List ℕ → ℕ → ℕ → Result Area Met → Reading
reading_by payload size from (Ok (Listed list)) = record {
  user = extent udp_header size;
  verdict = Read;
  options = extent from (length payload);
  count = list.count;
  fill = list.fill;
  apc = apc_by (part udp_header (size - udp_header) payload) list.apcs;
}
reading_by payload size from (Ok (piece_area fragment)) = optionless size (Piece fragment)
reading_by payload size from (Err met) = optionless size (verdict_of met.fault met.at)
