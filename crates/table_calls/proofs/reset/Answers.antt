-- `table_calls::reset` meets its contract: what the admission refuses leaves everything, and behind it every record is made fresh in its place.
use mathlib.Core.Path.{ap, ◌∙◌}
use lib.ListN.{set}
use Rattle.std.proofs.lemmas.Result.{err_from_is_err_and}
use Rattle.client_reassembly.proofs.Laws.{mapped_in_place}
use Rattle.table_rules.specs.Table.{table_of}
use Rattle.table_calls.proofs.Contracts.{refused-reset, granted-reset}
use Rattle.table_calls.proofs.Replaced.{replaced-all}
use Rattle.table_calls.proofs.reset.Goals as goal
use Rattle.table_calls.proofs.reset.Invariants.{anew}

pub returns-in_err-admit : goal.returns-in_err-admit
returns-in_err-admit c =
    let p = err_from_is_err_and c.from_residual.result c.from_residual.ensures.1 in
    rw (p.1, p.2) (refused-reset (table_of c.args.records.now c.args.store.now) _ c.in_err-admit.ensures)

pub loop-record-preserved : goal.loop-record-preserved
loop-record-preserved c =
    ap (set c.loop-record.record-items c.loop-record.record-index) c.fresh.ensures
    ∙ mapped_in_place anew c.args.records.now c.loop-record.record-items c.loop-record.record-index _ c.loop-record-test.true c.loop-record.invariant

pub returns : goal.returns
returns c =
    granted-reset (table_of c.args.records.now c.args.store.now) _ c.in_ok-admit.ensures _
    (c.loop-record.invariant ∙ replaced-all anew _ c.args.records.now c.loop-record-test.false)
