-- `table_calls::advance` meets its contract: what the admission refuses leaves everything, and behind it it is the client's own clock, which does not
-- touch its share.
use mathlib.Core.Path.{refl, sym, ap, subst}
use mathlib.Core.List.{[]}
use Prim.Native.Nat.{ℕ}
use lib.ListN.{get_or, set}
use native.Mathlib.Omega.{arith}
use Rattle.std.proofs.lemmas.List.{get_or_default}
use Rattle.client_record.specs.declared.Client.{Client}
use Rattle.client_record.specs.Limits.{client_limit, share_size}
use Rattle.client_record.specs.Record.{blank_client}
use Rattle.client_reassembly.specs.declared.Step.{Step}
use Rattle.client_reassembly.specs.Advance.{advance_on}
use Rattle.client_reassembly.specs.Post.{StepGives}
use Rattle.client_ledger.specs.History.{advancing}
use Rattle.table_rules.specs.Table.{Table, plans_of, table_of, record_of, share_start, ask_on, Leaves}
use Rattle.table_rules.proofs.Facts.{share-fits, same-part}
use Rattle.std.proofs.lemmas.Result.{err_from_is_err_and}
use Rattle.table_calls.proofs.Contracts.{Granted, few-of, granted, refused-call, granted-leaves}
use Rattle.table_calls.proofs.advance.Goals as goal

-- the client's own clock, of the record that is read of client k
advance-leaves : (t : Table) (k from time : ℕ) (d : Client) (step : Step) → Granted t k from
    → StepGives (advance_on (get_or t.records k d) time) step
    → Leaves (ask_on k (advancing time) t) step.answer (set t.records k step.client) t.store []
advance-leaves t k from time d step g gives =
    let did : StepGives (advance_on (record_of k t) time) step =
    subst (λ (c : Client). StepGives (advance_on c time) step) (get_or_default t.records k d blank_client g.there) gives in
    granted-leaves k (advancing time) t _ _ t.store [] g.fit g.there
    (record {
      answers = did.reply;
      records_left = ap (set t.records k) did.client;
      store_left = sym (same-part t.store (share_start k (plans_of t.records)) (share_size (record_of k t).plan) (share-fits t k g.fit g.there));
      out_left = refl;
    })

pub returns-in_err-admit : goal.returns-in_err-admit
returns-in_err-admit c =
    let p = err_from_is_err_and c.from_residual.result c.from_residual.ensures.1 in
    rw (p.1, p.2) (refused-call c.args.k (table_of c.args.records.now c.args.store.now) _ c.in_err-admit.ensures (advancing c.args.time))

pub offset_bounds-records-k : goal.offset_bounds-records-k
unfolding client_limit
offset_bounds-records-k c =
    let g = granted c.args.k (table_of c.args.records.now c.args.store.now) _ c.in_ok-admit.ensures in
    omega (arith, g.there, few-of g)

pub slice_copy_out-client : goal.slice_copy_out-client
slice_copy_out-client c = (granted _ (table_of c.args.records.now c.args.store.now) _ c.in_ok-admit.ensures).there

pub offset_bounds-records-k-2 : goal.offset_bounds-records-k-2
unfolding client_limit
offset_bounds-records-k-2 c =
    let g = granted c.args.k (table_of c.args.records.now c.args.store.now) _ c.in_ok-admit.ensures in
    omega (arith, g.there, few-of g)

pub bounds-records-k : goal.bounds-records-k
bounds-records-k c = (granted _ (table_of c.args.records.now c.args.store.now) _ c.in_ok-admit.ensures).there

pub returns : goal.returns
returns c =
    let g = granted c.args.k (table_of c.args.records.now c.args.store.now) _ c.in_ok-admit.ensures in
    advance-leaves _ c.args.k _ c.args.time _ _ g c.advance-step.ensures
