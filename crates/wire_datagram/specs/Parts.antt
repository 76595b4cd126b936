-- The reading and the outcome that parts stand for.
use Rattle.std.specs.Prelude.{Result, Ok, Err}
use Rattle.wire_datagram.specs.declared.parts.Parts.{Parts}
use Rattle.wire_datagram.specs.declared.reading.Refusal.{Refusal}
use Rattle.wire_reading.specs.Packet.{PacketReading as Reading}

abbrev pub gathered : Parts → Reading
gathered p = record {
  user = record { from = p.user_from; to = p.user_to };
  verdict = p.verdict;
  options = record { from = p.options_from; to = p.options_to };
  count = p.count;
  fill = p.fill;
  apc = p.apc;
}

abbrev pub outcome_of : Result Parts Refusal → Result Reading Refusal
outcome_of (Ok parts) = Ok (gathered parts)
outcome_of (Err refusal) = Err refusal
