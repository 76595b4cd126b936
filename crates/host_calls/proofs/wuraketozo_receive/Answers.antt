-- `host_calls::wuraketozo_receive` meets its contract: the value of what became of the datagram.
use mathlib.Core.Path.{ap}
use Rattle.wire_nops.specs.declared.Strictness.{Strictness}
use Rattle.table_rules.specs.Table.{table_of}
use Rattle.table_receiver.specs.Receive.{Packet, receive_on}
use Rattle.host_calls.proofs.Facts.{receives}
use Rattle.host_calls.proofs.wuraketozo_receive.Goals as goal

pub returns : goal.returns
returns c = let a = c.args in
    let as-asked : Strictness → Packet = λ how. record {
      time = a.time;
      source = a.source.octets;
      destination = a.destination.octets;
      strictness = how;
      payload = a.payload.now;
    } in
    receives
    (ap (λ (how : Strictness). receive_on a.k (as-asked how) a.out.now (table_of a.records.now a.store.now)) c.strictness_for-how.ensures)
    c.receive-received.ensures c.from.ensures
