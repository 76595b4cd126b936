-- One event: what a table's records and shares stand for before it, they stand for after it, each client's for its own book. What a call leaves of
-- other clients is `PutBack`'s; here the one-client theorem says what becomes of the client's own.
-- Assumes nothing.
use Prim.Native.Nat.{ℕ, ◌<◌, ◌≤◌}
use mathlib.Core.Path.{◌≡◌, refl, sym, ap, subst, ◌∙◌}
use mathlib.Core.Bool.{Bool, true, false, cond}
use mathlib.Core.List.{List}
use mathlib.Core.Option.{Option, none, some}
use lib.Dec.{eqb, ltb}
use lib.ListN.{length}
use borrow.Author.Tests.{eqb-true, ltb-true, ltb-false, le-leb, lt-leb, eq-eqb, ne_eqb}
use Rattle.number_tests.specs.Tests.{first_of}
use Rattle.client_record.specs.declared.Client.{Client}
use Rattle.client_reassembly.specs.Answer.{refused}
use Rattle.client_ledger.specs.Book.{Book, Result, empty, leaving, call}
use Rattle.client_ledger.specs.Lent.{misfit, no_client, Own, Past, since, more, out_of, answered, book_of}
use Rattle.client_ledger.specs.Stands.{Stands}
use Rattle.client_ledger.specs.History.{Lent, Ask, offering, advancing, accounting, call_on}
use Rattle.client_ledger.specs.Bookkeeping.{call_of}
use Rattle.client_ledger.proofs.Theorem.{one-client-theorem}
use Rattle.client_ledger.proofs.Own.{own-refused, own-unknown, own_granted, book-more, book-none}
use Rattle.table_rules.specs.Table.{Table, lent_of, sized, share_of, record_of, After, cleared, reset_on, out_lent, ask_on}
use Rattle.table_rules.specs.Events.{Lending, current, another, Event, resetting, asking, table_for, next, given_by, Allowed}
use Rattle.table_rules.specs.Owed.{own_call, taken, sizes_after, past_after, given_in}
use Rattle.table_rules.specs.Apart.{Formed}
use Rattle.table_rules.proofs.Facts.{
  sized-none,
  Misfit,
  misfit-of,
  plan-of,
  plan-few,
  share-length,
  misfit-is,
  unknown-is,
  granted-is,
  reset-taken,
}
use Rattle.table_rules.proofs.PutBack.{unknown-table, asked-sizes, asked-each, asked-formed}
use Rattle.table_rules.proofs.Apart.{cleared-sizes, cleared-record, cleared-share}
use Rattle.table_rules.proofs.Tests.{size-tests-agree, client-agrees}

-- every record and share stands for its client's book
pub record Holds (t : Table) (b : ℕ → Book) : Type 0 where
  pub fit : sized (lent_of t) ≡ true
  pub each : (k : ℕ) → k < length t.records → Stands (record_of k t) (share_of k t) (b k)

formed : (t : Table) (b : ℕ → Book) → Holds t b → Formed t
formed t b h = let each = h.each in record { fit = h.fit; each = λ k there. (each k there).shape }

-- ---- the book's tests

pub fits-too : (l : Lent) → sized l ≡ true → misfit l ≡ none
fits-too l e = ap first_of (size-tests-agree l) ∙ sized-none l e

refused-too : (l : Lent) (m : Misfit l) → misfit l ≡ some m.number
refused-too l m = ap first_of (size-tests-agree l) ∙ m.found

client-too : (l : Lent) (k : ℕ) → k < l.count → no_client l k ≡ false
client-too l k h = client-agrees l k ∙ lt-leb l.count k h

none-too : (l : Lent) (k : ℕ) → l.count ≤ k → no_client l k ≡ true
none-too l k h = client-agrees l k ∙ le-leb l.count k h

-- ---- what a call answers

-- the out buffer is the same in both
same_out : (a : Ask) → out_lent a ≡ out_of (call_of a)
same_out (offering o bytes out) = refl
same_out (advancing t) = refl
same_out accounting = refl

-- refused by 20 or 32
misfit-answer : (u : Table) (j : ℕ) (a : Ask) (b : Book) → sized (lent_of u) ≡ false
    → given_by (ask_on j a u) ≡ given_in (answered (record { lent = lent_of u; client = j; call = call_of a }) b)
misfit-answer u j a b e =
    let m = misfit-of (lent_of u) e in
    ap given_by (misfit-is j a u m.number m.found) ∙ ap (λ (out : List ℕ). record { reply = refused m.number; out = out }) (same_out a)
    ∙ ap given_in (sym (own-refused (record { lent = lent_of u; client = j; call = call_of a }) b m.number (refused-too (lent_of u) m)))

-- refused by 21
unknown-answer : (t : Table) (j : ℕ) (a : Ask) (b : Book) → sized (lent_of t) ≡ true → length t.records ≤ j
    → given_by (ask_on j a t) ≡ given_in (answered (record { lent = lent_of t; client = j; call = call_of a }) b)
unknown-answer t j a b e h =
    ap given_by (unknown-is j a t e h) ∙ ap (λ (out : List ℕ). record { reply = refused 21; out = out }) (same_out a)
    ∙ ap given_in
    (sym (own-unknown (record { lent = lent_of t; client = j; call = call_of a }) b (fits-too (lent_of t) e) (none-too (lent_of t) j h)))

-- by the client's own rules
granted-answer : (t : Table) (j : ℕ) (a : Ask) (b : Book) → sized (lent_of t) ≡ true → j < length t.records → Stands (record_of j t) (share_of j t) b
    → given_by (ask_on j a t) ≡ given_in (call (call_of a) b)
granted-answer t j a b fit there st =
    let did = one-client-theorem.each_call (record_of j t) (share_of j t) b st a in
    ap given_by (granted-is j a t fit there) ∙ (λ i. record { reply = did.reply i; out = did.out i })

granted-book : (t : Table) (j : ℕ) (a : Ask) (b : Book) → sized (lent_of t) ≡ true → j < length t.records
    → answered (record { lent = lent_of t; client = j; call = call_of a }) b ≡ call (call_of a) b
granted-book t j a b fit there =
    own_granted (record { lent = lent_of t; client = j; call = call_of a }) b (fits-too (lent_of t) fit) (client-too (lent_of t) j there)

-- what any allowed call answers and leaves in out is the book's
pub call-answer : (t : Table) (b : ℕ → Book) → Holds t b → (g : Lending) (j : ℕ) (a : Ask) → Allowed (asking g j a)
    → given_by (ask_on j a (table_for g t)) ≡ given_in (answered (own_call g (lent_of t) j a) (b j))
call-answer t b h (another u) j a ok = misfit-answer u j a (b j) ok
call-answer t b h current j a ok = go (ltb j (length t.records)) refl
  where
    go : (x : Bool) → ltb j (length t.records) ≡ x
        → given_by (ask_on j a t) ≡ given_in (answered (record { lent = lent_of t; client = j; call = call_of a }) (b j))
    go true e =
        let there = ltb-true j (length t.records) e in
        granted-answer t j a (b j) h.fit there (h.each j there) ∙ ap given_in (sym (granted-book t j a (b j) h.fit there))
    go false e = unknown-answer t j a (b j) h.fit (ltb-false j (length t.records) e)

-- ---- any event

-- what an event leaves stands for the books after it, and has the sizes and plans that they know
pub record Next (t : Table) (past : ℕ → Past) (e : Event) : Type 0 where
  pub holds : Holds (next t e) (λ k. book_of (past_after k (lent_of t) (past k) e))
  pub sizes : lent_of (next t e) ≡ sizes_after (lent_of t) e

-- a set-up that is taken
pub cleared-holds : (u : Table) → sized (lent_of u) ≡ true → Holds (cleared u) (λ k. book_of (since k (lent_of u)))
cleared-holds u e = record {
  fit = ap sized (cleared-sizes u) ∙ e;
  each = λ k h.
      let there : k < length u.records = subst (λ (n : ℕ). k < n) (ap (λ (l : Lent). l.count) (cleared-sizes u)) h in
      subst (Stands (record_of k (cleared u)) (share_of k (cleared u))) (sym (book-none k (lent_of u) ∙ ap empty (plan-of u.records k)))
      (subst (λ (c : Client). Stands c (share_of k (cleared u)) (empty (record_of k u).plan)) (sym (cleared-record u k))
      (one-client-theorem.fresh (record_of k u).plan (share_of k (cleared u)) (plan-few u k e there)
      (ap length (cleared-share u k) ∙ share-length u k e there)));
}

reset-next : (t u : Table) (past : ℕ → Past) → Holds t (λ k. book_of (past k))
    → Holds (cond (sized (lent_of u)) (reset_on u).table t) (λ k. book_of (taken (misfit (lent_of u)) (past k) (since k (lent_of u))))
    × (lent_of (cond (sized (lent_of u)) (reset_on u).table t) ≡ taken (misfit (lent_of u)) (lent_of t) (lent_of u))
reset-next t u past h = go (sized (lent_of u)) refl
  where
    go : (x : Bool) → sized (lent_of u) ≡ x
        → Holds (cond x (reset_on u).table t) (λ k. book_of (taken (misfit (lent_of u)) (past k) (since k (lent_of u))))
        × (lent_of (cond x (reset_on u).table t) ≡ taken (misfit (lent_of u)) (lent_of t) (lent_of u))
    go true e =
        let is : (reset_on u).table ≡ cleared u = ap (λ (x : After). x.table) (reset-taken u e) in
        let none_is : misfit (lent_of u) ≡ none = fits-too (lent_of u) e in (
          subst (λ (r : Option ℕ). Holds (reset_on u).table (λ k. book_of (taken r (past k) (since k (lent_of u))))) (sym none_is)
              (subst (λ (v : Table). Holds v (λ k. book_of (since k (lent_of u)))) (sym is) (cleared-holds u e)),
          ap lent_of is ∙ cleared-sizes u ∙ ap (λ (r : Option ℕ). taken r (lent_of t) (lent_of u)) (sym none_is),
        )
    go false e =
        let some_is = refused-too (lent_of u) (misfit-of (lent_of u) e) in (
          subst (λ (r : Option ℕ). Holds t (λ k. book_of (taken r (past k) (since k (lent_of u))))) (sym some_is) h,
          ap (λ (r : Option ℕ). taken r (lent_of t) (lent_of u)) (sym some_is),
        )

-- a refused call leaves the book
same-book : (h : Past) (o : Own) (n : ℕ) → answered o (book_of h) ≡ leaving (refused n) (out_of o.call) (book_of h) → book_of (more h o) ≡ book_of h
same-book h o n e = book-more h o ∙ ap (λ (r : Result). r.book) e

module _ (t : Table) (past : ℕ → Past) (h : Holds t (λ k. book_of (past k))) (j : ℕ) (a : Ask) where
  -- the call was refused, and t stays
  refused-next : (l : Lent) → ((k : ℕ) → j ≡ k → book_of (more (past k) (record { lent = l; client = k; call = call_of a })) ≡ book_of (past k))
      → Holds t (λ k. book_of (cond (eqb j k) (more (past k) (record { lent = l; client = k; call = call_of a })) (past k)))
  refused-next l same = record {
    fit = h.fit;
    each = λ k there. go k there (eqb j k) refl;
  }
    where
      go : (k : ℕ) → k < length t.records → (x : Bool) → eqb j k ≡ x
          → Stands (record_of k t) (share_of k t) (book_of (cond x (more (past k) (record { lent = l; client = k; call = call_of a })) (past k)))
      go k there true e = subst (Stands (record_of k t) (share_of k t)) (sym (same k (eqb-true j k e))) (h.each k there)
      go k there false e = h.each k there

  -- the call went to client j's own rules
  granted-next : j < length t.records
      → Holds (ask_on j a t).table (λ k. book_of (cond (eqb j k) (more (past k) (record { lent = lent_of t; client = k; call = call_of a })) (past k)))
  granted-next there = record {
    fit = (asked-formed t f j a).fit;
    each = asked-each t f j a
        (λ k c share. Stands c share (book_of (cond (eqb j k) (more (past k) (record { lent = lent_of t; client = k; call = call_of a })) (past k))))
        own others;
  }
    where
      f : Formed t
      f = formed t (λ k. book_of (past k)) h

      book : book_of (more (past j) (record { lent = lent_of t; client = j; call = call_of a })) ≡ (call (call_of a) (book_of (past j))).book
      book =
          book-more (past j) (record { lent = lent_of t; client = j; call = call_of a })
          ∙ ap (λ (r : Result). r.book) (granted-book t j a (book_of (past j)) h.fit there)

      own : j < length t.records
          → Stands (call_on (record_of j t) (share_of j t) a).client (call_on (record_of j t) (share_of j t) a).share
          (book_of (cond (eqb j j) (more (past j) (record { lent = lent_of t; client = j; call = call_of a })) (past j)))
      own here =
          subst (λ (x : Bool). Stands (call_on (record_of j t) (share_of j t) a).client (call_on (record_of j t) (share_of j t) a).share
          (book_of (cond x (more (past j) (record { lent = lent_of t; client = j; call = call_of a })) (past j)))) (sym (eq-eqb j j refl))
          (subst (Stands (call_on (record_of j t) (share_of j t) a).client (call_on (record_of j t) (share_of j t) a).share) (sym book)
          (one-client-theorem.each_call (record_of j t) (share_of j t) (book_of (past j)) (h.each j here) a).stands)

      others : (k : ℕ) → k < length t.records → (j ≡ k → ⊥)
          → Stands (record_of k t) (share_of k t) (book_of (cond (eqb j k) (more (past k) (record { lent = lent_of t; client = k; call = call_of a })) (past k)))
      others k here other =
          subst (λ (x : Bool). Stands (record_of k t) (share_of k t)
          (book_of (cond x (more (past k) (record { lent = lent_of t; client = k; call = call_of a })) (past k)))) (sym (ne_eqb j k other)) (h.each k here)

pub event-next : (t : Table) (past : ℕ → Past) → Holds t (λ k. book_of (past k)) → (e : Event) → Allowed e → Next t past e
event-next t past h (resetting current) ok = let r = reset-next t t past h in record { holds = r.0; sizes = r.1 }
event-next t past h (resetting (another u)) ok = let r = reset-next t u past h in record { holds = r.0; sizes = r.1 }
event-next t past h (asking (another u) j a) ok = record {
  holds = refused-next t past h j a (lent_of u) (λ k e.
      let m = misfit-of (lent_of u) ok in
      same-book (past k) (record { lent = lent_of u; client = k; call = call_of a }) m.number
      (own-refused (record { lent = lent_of u; client = k; call = call_of a }) (book_of (past k)) m.number (refused-too (lent_of u) m)));
  sizes = refl;
}
event-next t past h (asking current j a) ok = go (ltb j (length t.records)) refl
  where
    f : Formed t
    f = formed t (λ k. book_of (past k)) h

    go : (x : Bool) → ltb j (length t.records) ≡ x → Next t past (asking current j a)
    go true e = record { holds = granted-next t past h j a (ltb-true j (length t.records) e); sizes = asked-sizes t f j a }
    go false e =
        let out = ltb-false j (length t.records) e in
        record {
          holds = subst (λ (v : Table). Holds v (λ k. book_of (cond (eqb j k) (more (past k) (record { lent = lent_of t; client = k; call = call_of a })) (past k))))
              (sym (unknown-table t f j a out))
              (refused-next t past h j a (lent_of t) (λ k p.
              same-book (past k) (record { lent = lent_of t; client = k; call = call_of a }) 21
              (own-unknown (record { lent = lent_of t; client = k; call = call_of a }) (book_of (past k)) (fits-too (lent_of t) h.fit)
              (none-too (lent_of t) k (subst (λ (n : ℕ). length t.records ≤ n) p out)))));
          sizes = asked-sizes t f j a;
        }
