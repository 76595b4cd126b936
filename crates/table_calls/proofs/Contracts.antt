-- For the contracts of the four calls: what a call leaves that is refused or granted. The
-- claims about lists of calls need none of this.
-- Assumes nothing.
use Prim.Native.Nat.{ℕ, ◌<◌, ◌≤◌}
use mathlib.Core.Path.{◌≡◌, refl, sym, ap, ap₂, ◌∙◌, subst}
use mathlib.Core.Bool.{Bool, true, not, ◌&&◌, cond}
use mathlib.Core.List.{List, [], ◌∷◌, ◌++◌}
use mathlib.Core.Option.{Option, none, some}
use lib.Dec.{leb, eqb}
use lib.ListN.{length}
use borrow.Author.Tests.{leb-false, lt-leb, leb-true, not-false}
use Rattle.number_tests.specs.Tests.{first_of}
use Rattle.number_tests.proofs.Tests.{both_true, first-none, first-front, first-behind}
use Rattle.client_record.specs.declared.Client.{Client}
use Rattle.client_record.specs.Limits.{client_limit}
use Rattle.client_record.specs.Lists.{all}
use Rattle.client_reassembly.specs.declared.Answer.{Answer}
use Rattle.client_reassembly.specs.declared.Refusal.{Refusal}
use Rattle.client_reassembly.specs.declared.Answer.TheVariants.{Reset}
use Rattle.client_ledger.specs.History.{Lent, Ask, call_on}
use Rattle.table_rules.specs.Table.{
  Table,
  plans_of,
  lent_of,
  counted,
  in_range,
  shares_of,
  size_tests,
  sized,
  ask_tests,
  record_of,
  share_start,
  share_of,
  After,
  cleared,
  reset_on,
  out_lent,
  after_call,
  ask_on,
  Leaves,
}
use Rattle.table_rules.proofs.Facts.{fits, few-clients, granted-is, refused-leaves, reset-refused-leaves, reset-leaves}
use Rattle.table_admission.specs.Admission.{Admits}
use Rattle.std.specs.Prelude.{Result, Ok, Err}

-- ---- what a call leaves, by its admission

-- the table has the sizes and plans that 20 and 32 ask for, there is a client k, and this is where its share starts
pub record Granted (t : Table) (k start : ℕ) : Type 0 where
  pub fit : sized (lent_of t) ≡ true
  pub there : k < length t.records
  pub starts : start ≡ share_start k (plans_of t.records)

pub few-of : {t : Table} {k start : ℕ} → Granted t k start → length t.records ≤ client_limit
few-of {t = t} g = few-clients (length t.records) (fits (lent_of t) g.fit).few

-- no test of a call applies: none of the table's does, and there is such a client
asked-fit : (l : Lent) (k : ℕ) → first_of (ask_tests l k) ≡ none → (sized l ≡ true) × (k < l.count)
unfolding ask_tests size_tests sized
asked-fit l k e =
    let rest : List (Bool × ℕ) = (leb l.count k, 21) ∷ [] in
    let t20 = first-none (not (counted l.count), 20) _ e in
    let t32 = first-none (not (all in_range l.plans), 32) _ t20.1 in
    let store = first-none (not (eqb l.bytes (shares_of l.plans)), 20) rest t32.1 in
    let t21 = first-none (leb l.count k, 21) [] store.1 in (
      ap₂ ◌&&◌ (not-false (counted l.count) t20.0)
          (ap₂ ◌&&◌ (not-false (all in_range l.plans) t32.0) (not-false (eqb l.bytes (shares_of l.plans)) store.0)),
      leb-false l.count k t21.0,
    )

pub granted : (k : ℕ) (t : Table) (start : ℕ) → Admits (lent_of t) k (Ok start) → Granted t k start
granted k t start ok =
    let f = asked-fit (lent_of t) k (sym ok.tests) in
    record { fit = f.0; there = f.1; starts = ok.start }

pub refused-call : (k : ℕ) (t : Table) (r : Refusal) → Admits (lent_of t) k (Err r) → (a : Ask) → Leaves (ask_on k a t) (Err r) t.records t.store (out_lent a)
refused-call k t r ok a = refused-leaves k a t r (sym ok.tests)

pub granted-leaves : (k : ℕ) (a : Ask) (t : Table) (r : Result Answer Refusal) (records : List Client) (store out : List ℕ) → sized (lent_of t) ≡ true
    → k < length t.records → Leaves (after_call k (call_on (record_of k t) (share_of k t) a) t) r records store out → Leaves (ask_on k a t) r records store out
granted-leaves k a t r records store out e h l = subst (λ (x : After). Leaves x r records store out) (sym (granted-is k a t e h)) l

-- ---- a set-up, whose admission is that of client 0

counted_of : (l : Lent) → first_of (size_tests l) ≡ none → counted l.count ≡ true
unfolding size_tests
counted_of l e = not-false (counted l.count) (first-none (not (counted l.count), 20) _ e).0

-- the client's test does not apply behind the others: there is a record
some-record : (l : Lent) → first_of (size_tests l) ≡ none → first_of ((leb l.count 0, 21) ∷ []) ≡ none
unfolding counted first_of
some-record l e =
    let both = both_true (leb 1 l.count) (leb l.count client_limit) (counted_of l e) in
    ap (λ (b : Bool). cond b (some 21) none) (lt-leb l.count 0 (leb-true 1 l.count both.0))

first-client : (l : Lent) → first_of (ask_tests l 0) ≡ first_of (size_tests l)
unfolding ask_tests
first-client l = go (first_of (size_tests l)) refl
  where
    go : (r : Option ℕ) → first_of (size_tests l) ≡ r → first_of (size_tests l ++ (leb l.count 0, 21) ∷ []) ≡ r
    go none e = first-behind (size_tests l) ((leb l.count 0, 21) ∷ []) e ∙ some-record l e
    go (some n) e = first-front (size_tests l) ((leb l.count 0, 21) ∷ []) n e

pub refused-reset : (t : Table) (r : Refusal) → Admits (lent_of t) 0 (Err r) → Leaves (reset_on t) (Err r) t.records t.store []
refused-reset t r ok = reset-refused-leaves t r (sym (first-client (lent_of t)) ∙ sym ok.tests)

pub granted-reset : (t : Table) (start : ℕ) → Admits (lent_of t) 0 (Ok start) → (records : List Client) → records ≡ (cleared t).records
    → Leaves (reset_on t) (Ok Reset) records t.store []
granted-reset t start ok records all-fresh = reset-leaves t records (sym (first-client (lent_of t)) ∙ sym ok.tests) all-fresh
