-- `table_calls::offer` meets its contract: what the admission refuses leaves everything. Behind it there is a record k, and its share lies within the
-- store (`granted`), so the client's own rules get that record and that share, and what they leave is put back in its place.
use Prim.Native.Nat.{ℕ, ◌+◌, ◌-◌, ◌≤◌}
use mathlib.Core.Path.{◌≡◌, sym, ap, ap₂, subst, ◌∙◌}
use mathlib.Core.List.{List, ◌++◌}
use native.Mathlib.Omega.{arith}
use lib.ListN.{length, take, drop, set}
use lib.Seq.{drop-drop}
use borrow.Rule.Slice.PartMut.{put_mid}
use Rattle.number_octets.specs.Octets.{part, overlay}
use Rattle.client_record.specs.Limits.{share_size, client_limit}
use Rattle.client_record.specs.declared.Client.{Client}
use Rattle.client_reassembly.specs.declared.Arrival.{Arrival}
use Rattle.client_reassembly.specs.declared.Step.{Step}
use Rattle.client_reassembly.specs.Offer.{fragment_on}
use Rattle.client_reassembly.specs.Post.{Share, Left}
use Rattle.client_ledger.specs.History.{offering}
use Rattle.table_rules.specs.Table.{Table, share_of, record_of, ask_on, table_of, Leaves}
use Rattle.table_rules.proofs.Facts.{plan-few, share-fits, share-length}
use Rattle.std.proofs.lemmas.Result.{err_from_is_err_and}
use Rattle.table_calls.proofs.Contracts.{Granted, few-of, granted, refused-call, granted-leaves}
use lib.ListN.{get_or}
use Rattle.std.proofs.lemmas.List.{get_or_default}
use Rattle.client_record.specs.Limits.{assembly_limit}
use Rattle.client_record.specs.Record.{blank_client}
use Rattle.table_calls.proofs.offer.Goals as goal

-- the store after client k's share came back as y, as the code puts it there
put-mid : (store y : List ℕ) (at n : ℕ) → length y ≡ n → put_mid at (at + n - at) store y ≡ overlay store at y
put-mid store y at n e =
    let m : at + n - at ≡ length y = omega (arith, e) in
    ap (λ (l : List ℕ). take at store ++ (y ++ l)) (drop-drop (at + n - at) at store ∙ ap (λ (m : ℕ). drop (at + m) store) m)

module _ (t : Table) (k from size : ℕ) (g : Granted t k from) (is : size ≡ share_size (record_of k t).plan) where
  -- client k's share, as the code cuts it out of the store
  cut : part from (from + size - from) t.store ≡ share_of k t
  cut =
      let n : from + size - from ≡ size = omega arith in
      ap₂ (λ (at m : ℕ). part at m t.store) g.starts (n ∙ is)

  cut-within : from + size ≤ length t.store
  cut-within = omega (arith, g.starts, is, share-fits t k g.fit g.there)

  own-share : Share (record_of k t) (part from (from + size - from) t.store)
  own-share = record { plan = plan-few t k g.fit g.there; size = ap length cut ∙ share-length t k g.fit g.there }

  -- the client's own rules, on that share
  offer-leaves : (o : Arrival) (bytes out : List ℕ) (step : Step) (share' out' : List ℕ)
      → Left (fragment_on (record_of k t) (part from (from + size - from) t.store) out o bytes) step share' out'
      → length share' ≡ length (part from (from + size - from) t.store)
      → Leaves (ask_on k (offering o bytes out) t) step.answer (set t.records k step.client) (put_mid from (from + size - from) t.store share') out'
  offer-leaves o bytes out step share' out' l n =
      let did : Left (fragment_on (record_of k t) (share_of k t) out o bytes) step share' out' =
      subst (λ (share : List ℕ). Left (fragment_on (record_of k t) share out o bytes) step share' out') cut l in
      let long : length share' ≡ size = n ∙ ap length cut ∙ share-length t k g.fit g.there ∙ sym is in
      granted-leaves k (offering o bytes out) t step.answer _ _ out' g.fit g.there
      (record {
        answers = did.reply;
        records_left = ap (set t.records k) did.client;
        store_left = put-mid t.store share' from size long ∙ ap₂ (overlay t.store) g.starts did.share_left;
        out_left = did.out_left;
      })

-- the record that is read of client k
read-is : (t : Table) (k from : ℕ) (d : Client) → Granted t k from → get_or t.records k d ≡ record_of k t
read-is t k from d g = get_or_default t.records k d blank_client g.there

-- its plan's share is as long as the client's
size-is : (t : Table) (k from size : ℕ) (d : Client) → Granted t k from → size ≡ share_size (get_or t.records k d).plan
    → size ≡ share_size (record_of k t).plan
size-is t k from size d g e = e ∙ ap (λ (c : Client). share_size c.plan) (read-is t k from d g)

pub returns-in_err-start : goal.returns-in_err-start
returns-in_err-start c =
    let p = err_from_is_err_and c.from_residual.result c.from_residual.ensures.1 in
    rw (p.1, p.2) (refused-call c.args.k (table_of c.args.records.now c.args.store.now) _ c.in_err-start.ensures (offering c.args.arrival c.args.bytes.now c.args.out.now))

pub offset_bounds-records-k : goal.offset_bounds-records-k
unfolding client_limit
offset_bounds-records-k c =
    let g = granted c.args.k (table_of c.args.records.now c.args.store.now) _ c.in_ok-start.ensures in
    omega (arith, g.there, few-of g)

pub slice_copy_out-client : goal.slice_copy_out-client
slice_copy_out-client c = (granted _ (table_of c.args.records.now c.args.store.now) _ c.in_ok-start.ensures).there

pub offset_bounds-records-k-2 : goal.offset_bounds-records-k-2
unfolding client_limit
offset_bounds-records-k-2 c =
    let g = granted c.args.k (table_of c.args.records.now c.args.store.now) _ c.in_ok-start.ensures in
    omega (arith, g.there, few-of g)

pub bounds-records-k : goal.bounds-records-k
bounds-records-k c = (granted _ (table_of c.args.records.now c.args.store.now) _ c.in_ok-start.ensures).there

pub share_of-requires : goal.share_of-requires
share_of-requires c =
    let t = table_of c.args.records.now c.args.store.now in
    let g = granted c.args.k t _ c.in_ok-start.ensures in
    subst (λ (c : Client). c.plan ≤ assembly_limit) (sym (read-is t c.args.k _ _ g)) (plan-few t c.args.k g.fit g.there)

pub overflow_add-end : goal.overflow_add-end
overflow_add-end c =
    let t = table_of c.args.records.now c.args.store.now in
    let g = granted c.args.k t _ c.in_ok-start.ensures in
    let size = size-is t c.args.k _ _ _ g c.share_of.ensures in
    omega (arith, cut-within t c.args.k _ _ g size)

pub slice_bounds-offer-end : goal.slice_bounds-offer-end
slice_bounds-offer-end c =
    let t = table_of c.args.records.now c.args.store.now in
    let g = granted c.args.k t _ c.in_ok-start.ensures in
    let size = size-is t c.args.k _ _ _ g c.share_of.ensures in
    omega (arith, cut-within t c.args.k _ _ g size)

pub offer-step-requires : goal.offer-step-requires
offer-step-requires c =
    let t = table_of c.args.records.now c.args.store.now in
    let g = granted c.args.k t _ c.in_ok-start.ensures in
    let size = size-is t c.args.k _ _ _ g c.share_of.ensures in
    let start = c.in_ok-start.start in
    subst (λ (r : Client). Share r (part start (start + c.share_of.result - start) c.args.store.now)) (sym (read-is t c.args.k _ _ g))
    (own-share t c.args.k _ _ g size)

pub returns : goal.returns
returns c =
    let a = c.args in
    let t = table_of c.args.records.now c.args.store.now in
    let g = granted c.args.k t _ c.in_ok-start.ensures in
    let size = size-is t c.args.k _ _ _ g c.share_of.ensures in
    let start = c.in_ok-start.start in
    let n = start + c.share_of.result - start in
    offer-leaves t a.k _ _ g size a.arrival a.bytes.now a.out.now c.offer-step.result c.offer-step.new.share c.offer-step.new.out
    (subst
    (λ (r : Client). Left (fragment_on r (part start n a.store.now) a.out.now a.arrival a.bytes.now) c.offer-step.result c.offer-step.new.share
    c.offer-step.new.out)
    (read-is t a.k _ _ g) c.offer-step.ensures)
    c.offer-step.auto.share
