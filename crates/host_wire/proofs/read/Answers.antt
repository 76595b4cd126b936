-- `host_wire::read` meets its contract: the value of the reading.
use mathlib.Core.Path.{ap, ◌∙◌}
use Rattle.std.proofs.Common.{Result}
use Rattle.wire_nops.specs.declared.Strictness.{Strictness}
use Rattle.wire_datagram.specs.Reading.{reading, answer_of}
use Rattle.wire_datagram.specs.declared.reading.Refusal.{Refusal}
use Rattle.wire_reading.specs.Packet.{PacketReading as Reading}
use Rattle.host_readings.specs.Reading.{host_reading}
use Rattle.host_wire.proofs.read.Goals as goal

pub returns : goal.returns
returns c = let a = c.args in
    c.from.ensures ∙ ap (λ (o : Result Reading Refusal). host_reading (answer_of o)) c.outcome_of.ensures
    ∙ ap host_reading (c.examine.ensures
    ∙ ap (λ (how : Strictness). reading how a.payload.now a.source.octets a.destination.octets) c.strictness_for-how.ensures)
