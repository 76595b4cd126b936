-- `host_wire::relist` meets its contract: the value that it lists has the numbers it was given.
use mathlib.Core.Path.{ap}
use Rattle.wire_original.specs.Original.{OriginalReading}
use Rattle.list_readings.specs.Catalogue.{walk_of_value}
use Rattle.host_wire.proofs.Facts.{lists}
use Rattle.host_wire.proofs.relist.Goals as goal

pub returns : goal.returns
returns c = let a = c.args in
    lists (ap (λ (r : OriginalReading). walk_of_value a.original.now r.verdict r.options.from.0 r.options.to.0) c.rereading_for-rereading.ensures) c.list_reading.ensures
    c.from.ensures
