-- What a call of one client leaves of the table: its own record and share as its own rules left them, all else as it was. Of the records only
-- their shape is known.
-- Assumes nothing.
use Prim.Native.Nat.{ℕ, ◌+◌, ◌<◌, ◌≤◌}
use mathlib.Core.Path.{◌≡◌, refl, sym, ap, ap₂, subst, ◌∙◌}
use mathlib.Core.Bool.{Bool, true, false, not}
use mathlib.Core.List.{List, ◌∷◌, []}
use mathlib.Core.Option.{Option, none, some}
use native.Mathlib.Omega.{arith}
use lib.Dec.{eqb, ltb}
use lib.ListN.{length, length-set}
use lib.Seq.{get_or-set_same, get_or-set_other}
use borrow.Author.Tests.{eqb-true, eqb-false, ltb-true, ltb-false}
use Rattle.number_tests.specs.Tests.{first_of}
use Rattle.number_octets.specs.Octets.{part, overlay}
use Rattle.number_octets.proofs.Laws.{length-overlay, part-overlay}
use Rattle.client_record.specs.declared.Client.{Client}
use Rattle.client_record.specs.Limits.{share_size}
use Rattle.client_record.specs.Record.{blank_client, sound_record}
use Rattle.client_reassembly.specs.Answer.{advanced}
use Rattle.client_reassembly.specs.Advance as Advance
use Rattle.client_reassembly.specs.Advance.{elapse, advance_on}
use Rattle.client_reassembly.specs.Offer.{Outcome}
use Rattle.client_reassembly.specs.Shapes as Record
use Rattle.client_reassembly.proofs.Lasting.{elapse-shaped, fragment-call-sound, fragment-call-shaped, advance-call-sound}
use Rattle.client_reassembly.proofs.Plans.{fragment-plan, advance-plan, account-plan}
use Rattle.client_ledger.specs.Shapes.{Shaped}
use Rattle.client_ledger.specs.History.{Lent, Ask, offering, advancing, accounting, call_on}
use Rattle.client_ledger.proofs.Shares.{fragment-call-share}
use Rattle.table_rules.specs.Table.{Table, plans_of, lent_of, sized, share_start, share_of, record_of, After, put_back, ask_on}
use Rattle.table_rules.specs.Apart.{Formed, Tested, Same}
use Rattle.table_rules.proofs.Facts.{
  plans-length,
  plan-of,
  plans-set,
  share-fits,
  shares-apart,
  unknown-is,
  granted-is,
  part-before,
  part-behind,
  account-keeps,
}

-- ---- one client's own rules

advance-shaped : (c : Client) (t : ℕ) → Record.Shaped c → Record.Shaped (advance_on c t).client
unfolding advance_on
advance-shaped c t s = go (first_of ((not (sound_record c), 22) ∷ (ltb t c.time, 27) ∷ []))
  where
    go : (r : Option ℕ) → Record.Shaped (Advance.refuse_or c r (record { client = elapse t c; reply = advanced })).client
    go none = elapse-shaped t c s
    go (some n) = s

-- no call changes the plan
own-plan : (c : Client) (share : List ℕ) (a : Ask) → (call_on c share a).client.plan ≡ c.plan
own-plan c share (offering o bytes out) = fragment-plan c share out o bytes
own-plan c share (advancing t) = advance-plan c t
own-plan c share accounting = account-plan c

-- every call leaves the shape, and a record that passes the record test passes it again
own-shaped : (c : Client) (share : List ℕ) (a : Ask) → Shaped c share → Shaped (call_on c share a).client (call_on c share a).share
own-shaped c share (offering o bytes out) s = record {
  lists = fragment-call-shaped c share out o bytes s.lists;
  size = fragment-call-share c share out o bytes s ∙ ap share_size (sym (fragment-plan c share out o bytes));
}
own-shaped c share (advancing t) s = record {
  lists = advance-shaped c t s.lists;
  size = s.size ∙ ap share_size (sym (advance-plan c t));
}
own-shaped c share accounting s = subst (λ (x : Client). Shaped x share) (sym (account-keeps c)) s

own-sound : (c : Client) (share : List ℕ) (a : Ask) → Shaped c share → sound_record c ≡ true → sound_record (call_on c share a).client ≡ true
own-sound c share (offering o bytes out) s ok = fragment-call-sound c share out o bytes ok s.lists
own-sound c share (advancing t) s ok = advance-call-sound c t ok
own-sound c share accounting s ok = ap sound_record (account-keeps c) ∙ ok

-- ---- what is put back in one place

module _ (t : Table) (j : ℕ) (o : Outcome) (fit : sized (lent_of t) ≡ true) (there : j < length t.records)
    (plan : o.client.plan ≡ (record_of j t).plan) (whole : length o.share ≡ share_size o.client.plan) where
  abbrev plans : List ℕ
  plans = plans_of t.records

  full : length o.share ≡ share_size (record_of j t).plan
  full = whole ∙ ap share_size plan

  within : share_start j plans + length o.share ≤ length t.store
  within = omega (arith, full, share-fits t j fit there)

  -- the plans are as they were, and so are the shares' places
  same-plans : plans_of (put_back j o t).records ≡ plans
  same-plans = plans-set t.records j o.client plan

  in-plans : (k : ℕ) → k < length t.records → k < length plans
  in-plans k h = omega (arith, plans-length t.records)

  module _ (k : ℕ) (other : j ≡ k → ⊥) where
    other-record : record_of k (put_back j o t) ≡ record_of k t
    other-record = get_or-set_other t.records j k _ blank_client (λ e. other (sym e))

    other-share : share_of k (put_back j o t) ≡ share_of k t
    other-share =
        ap₂ (λ (ps : List ℕ) (c : Client). part (share_start k ps) (share_size c.plan) (overlay t.store (share_start j plans) o.share)) same-plans
        other-record
        ∙ go (ltb j k) refl
      where
        go : (b : Bool) → ltb j k ≡ b
            → part (share_start k plans) (share_size (record_of k t).plan) (overlay t.store (share_start j plans) o.share) ≡ share_of k t
        go true e =
            part-behind t.store (share_start j plans) o.share (share_start k plans) (share_size (record_of k t).plan) within
            (omega (arith, full, ap share_size (plan-of t.records j), shares-apart plans j k (ltb-true j k e) (in-plans j there)))
        go false e =
            let less : k < j = omega (arith, ltb-false j k e, other) in
            part-before t.store (share_start j plans) o.share (share_start k plans) (share_size (record_of k t).plan) within
            (omega (arith, ap share_size (plan-of t.records k), shares-apart plans k j less (in-plans k (omega (arith, less, there)))))

  same-sizes : lent_of (put_back j o t) ≡ lent_of t
  same-sizes =
      let count = length-set t.records j o.client in
      let bytes = length-overlay t.store (share_start j plans) o.share within in
      λ i. record { count = count i; bytes = bytes i; plans = same-plans i }

  own-record : record_of j (put_back j o t) ≡ o.client
  own-record = get_or-set_same t.records j o.client blank_client there

  own-share : share_of j (put_back j o t) ≡ o.share
  own-share =
      ap₂ (λ (ps : List ℕ) (n : ℕ). part (share_start j ps) n (overlay t.store (share_start j plans) o.share)) same-plans
      (ap (λ (c : Client). share_size c.plan) own-record ∙ sym whole)
      ∙ part-overlay t.store (share_start j plans) o.share within

-- ---- a call of client j

module _ (t : Table) (f : Formed t) (j : ℕ) (a : Ask) where
  abbrev did : Outcome
  did = call_on (record_of j t) (share_of j t) a

  pub unknown-table : length t.records ≤ j → (ask_on j a t).table ≡ t
  unknown-table h = ap (λ (x : After). x.table) (unknown-is j a t f.fit h)

  module _ (there : j < length t.records) where
    kept-shape : Shaped did.client did.share
    kept-shape = own-shaped (record_of j t) (share_of j t) a (f.each j there)

    kept-plan : did.client.plan ≡ (record_of j t).plan
    kept-plan = own-plan (record_of j t) (share_of j t) a

    granted-table : (ask_on j a t).table ≡ put_back j did t
    granted-table = ap (λ (x : After). x.table) (granted-is j a t f.fit there)

    granted-sizes : lent_of (ask_on j a t).table ≡ lent_of t
    granted-sizes = ap lent_of granted-table ∙ same-sizes t j did f.fit there kept-plan kept-shape.size

    pub asked-record : record_of j (ask_on j a t).table ≡ did.client
    asked-record = ap (record_of j) granted-table ∙ own-record t j did f.fit there kept-plan kept-shape.size

    pub asked-share : share_of j (ask_on j a t).table ≡ did.share
    asked-share = ap (share_of j) granted-table ∙ own-share t j did f.fit there kept-plan kept-shape.size

    granted-other : (k : ℕ) → (j ≡ k → ⊥) → Same k (ask_on j a t).table t
    granted-other k other = record {
      count = ap (λ (l : Lent). l.count) granted-sizes;
      client = ap (record_of k) granted-table ∙ other-record t j did f.fit there kept-plan kept-shape.size k other;
      share = ap (share_of k) granted-table ∙ other-share t j did f.fit there kept-plan kept-shape.size k other;
    }

  -- by whether there is a client j
  by-client : (P : Table → Type 0) → (j < length t.records → P (ask_on j a t).table) → P t → P (ask_on j a t).table
  by-client P known unknown = go (ltb j (length t.records)) refl
    where
      go : (x : Bool) → ltb j (length t.records) ≡ x → P (ask_on j a t).table
      go true e = known (ltb-true j (length t.records) e)
      go false e = subst P (sym (unknown-table (ltb-false j (length t.records) e))) unknown

  -- the sizes stay, and so do other clients' records and shares
  pub asked-sizes : lent_of (ask_on j a t).table ≡ lent_of t
  asked-sizes = by-client (λ u. lent_of u ≡ lent_of t) granted-sizes refl

  pub asked-other : (k : ℕ) → (j ≡ k → ⊥) → Same k (ask_on j a t).table t
  asked-other k other =
      by-client (λ u. Same k u t) (λ there. granted-other there k other) (record { count = refl; client = refl; share = refl })

  asked-count : length (ask_on j a t).table.records ≡ length t.records
  asked-count = ap (λ (l : Lent). l.count) asked-sizes

  -- what holds of client k's record and share before and after its own rules holds after the call
  pub asked-each : (P : ℕ → Client → List ℕ → Type 0) → (j < length t.records → P j did.client did.share)
      → ((k : ℕ) → k < length t.records → (j ≡ k → ⊥) → P k (record_of k t) (share_of k t))
      → (k : ℕ) → k < length (ask_on j a t).table.records → P k (record_of k (ask_on j a t).table) (share_of k (ask_on j a t).table)
  asked-each P own others k in-it = go (eqb j k) refl
    where
      before : k < length t.records
      before = subst (λ (n : ℕ). k < n) asked-count in-it

      go : (x : Bool) → eqb j k ≡ x → P k (record_of k (ask_on j a t).table) (share_of k (ask_on j a t).table)
      go true e =
          let same = eqb-true j k e in
          let there : j < length t.records = subst (λ (n : ℕ). n < length t.records) (sym same) before in
          subst (λ (n : ℕ). P n (record_of n (ask_on j a t).table) (share_of n (ask_on j a t).table)) same
          (subst (P j (record_of j (ask_on j a t).table)) (sym (asked-share there))
          (subst (λ (c : Client). P j c did.share) (sym (asked-record there)) (own there)))
      go false e =
          let o = asked-other k (eqb-false j k e) in
          subst (P k (record_of k (ask_on j a t).table)) (sym o.share)
          (subst (λ (c : Client). P k c (share_of k t)) (sym o.client) (others k before (eqb-false j k e)))

  pub asked-formed : Formed (ask_on j a t).table
  asked-formed = record {
    fit = ap sized asked-sizes ∙ f.fit;
    each = asked-each (λ k c share. Shaped c share) kept-shape (λ k there other. f.each k there);
  }

  pub asked_tested : (k : ℕ) → Tested k t → Tested k (ask_on j a t).table
  asked_tested k ok = go (eqb j k) refl
    where
      go : (x : Bool) → eqb j k ≡ x → Tested k (ask_on j a t).table
      go true e in-it =
          let there : k < length t.records = subst (λ (n : ℕ). k < n) asked-count in-it in
          let same = eqb-true j k e in
          let here : j < length t.records = subst (λ (n : ℕ). n < length t.records) (sym same) there in
          subst (λ (n : ℕ). sound_record (record_of n (ask_on j a t).table) ≡ true) same
          (ap sound_record (asked-record here)
          ∙ own-sound (record_of j t) (share_of j t) a (f.each j here) (subst (λ (n : ℕ). sound_record (record_of n t) ≡ true) (sym same) (ok there)))
      go false e in-it =
          ap sound_record (asked-other k (eqb-false j k e)).client ∙ ok (subst (λ (n : ℕ). k < n) asked-count in-it)
