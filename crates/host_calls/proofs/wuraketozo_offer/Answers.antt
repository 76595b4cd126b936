-- `host_calls::wuraketozo_offer` meets its contract: the value of the table's answer to the fragment.
use Rattle.table_rules.specs.Table.{table_of}
use Rattle.host_calls.proofs.Facts.{offers}
use Rattle.host_calls.proofs.wuraketozo_offer.Goals as goal

pub returns : goal.returns
returns c = let a = c.args in
    offers a.k a.fragment a.bytes.now a.out.now (table_of a.records.now a.store.now) c.from-arrival.ensures c.offer.ensures c.from.ensures
