-- A reading of a packet: its positions count from the UDP header.
use Rattle.wire_reading.specs.declared.Extent.{Extent}
use Rattle.wire_reading.specs.declared.Reading.{Reading}

abbrev pub PacketReading : Type 0
PacketReading = Reading Extent
