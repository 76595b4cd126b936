-- `host_wire::list` meets its contract: the value that it lists has the numbers it was given.
use mathlib.Core.Path.{ap}
use Rattle.wire_reading.specs.Packet.{PacketReading}
use Rattle.list_readings.specs.Catalogue.{walk_of_value}
use Rattle.host_wire.proofs.Facts.{lists}
use Rattle.host_wire.proofs.list.Goals as goal

pub returns : goal.returns
returns c = let a = c.args in
    lists (ap (λ (r : PacketReading). walk_of_value a.payload.now r.verdict r.options.from.0 r.options.to.0) c.reading_for-reading.ensures) c.list_reading.ensures
    c.from.ensures
