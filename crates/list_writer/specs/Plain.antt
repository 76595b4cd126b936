-- The datagram that is handed over, before its options are known.
use Rattle.list_payload.specs.Payload.{Datagram}
use Rattle.list_wire.specs.Parts.{plainly}
use Rattle.list_writer.specs.declared.header.Datagram as declared

abbrev pub plain : declared.Datagram → Datagram
plain d = plainly d.source d.destination d.source_port d.destination_port d.«data».now
