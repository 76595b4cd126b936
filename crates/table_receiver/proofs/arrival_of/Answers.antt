-- `table_receiver::arrival_of` meets its contract: the ports are the header's first two numbers.
use mathlib.Core.Path.{ap₂}
use Rattle.table_receiver.specs.Receive.{with_ports}
use Rattle.table_receiver.proofs.arrival_of.Goals as goal

pub returns : goal.returns
returns c = let a = c.args in
    ap₂ (with_ports a.source a.destination a.time a.fragment) c.get_u16.ensures
    c.get_u16-2.ensures
