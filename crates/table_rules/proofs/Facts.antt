-- A call by its tests: refused by 20 or 32, refused by 21, or the client's own rules on its record and share. And what it tells that 20 and 32
-- let a table pass: each plan is in range, and there is a share of the store for each record, one behind the other.
-- Assumes nothing.
use Prim.Native.Nat.{ℕ, zero, suc, ◌+◌, ◌-◌, ◌<◌, ◌≤◌}
use mathlib.Core.Path.{◌≡◌, refl, sym, ap, ◌∙◌, subst}
use mathlib.Core.Bool.{Bool, true, false, not, ◌&&◌, cond}
use mathlib.Core.List.{List, [], ◌∷◌, ◌++◌}
use mathlib.Core.Option.{none, some}
use native.Mathlib.Nat.{not-suc-le-zero, le_of_suc-le-suc}
use native.Mathlib.Omega.{arith}
use lib.Dec.{leb, eqb}
use lib.ListN.{length, take, drop, get_or, set, take-append-drop, length-map}
use lib.Seq.{drop-drop}
use borrow.Author.Tests.{leb-true, eqb-true, eq-eqb, le-leb, lt-leb}
use Rattle.std.specs.Prelude.{Ok, Err}
use Rattle.number_tests.proofs.Tests.{both_true, first-front, first-behind}
use Rattle.number_tests.specs.Tests.{first_of}
use Rattle.number_octets.specs.Octets.{part, overlay}
use Rattle.number_octets.proofs.Laws.{length_part, part-take, length-overlay, take-overlay, drop-overlay}
use Rattle.client_record.specs.Limits.{share_size, assembly_limit, client_limit}
use Rattle.client_record.specs.Lists.{all, sum}
use Rattle.client_record.proofs.SoundParts.{all-at}
use Rattle.client_record.specs.declared.Client.{Client}
use Rattle.client_record.specs.Record.{sound_record, fresh_client, blank_client}
use Rattle.client_reassembly.specs.Answer.{refused, ready, account, number_of}
use Rattle.client_reassembly.specs.declared.Refusal.{Refusal}
use Rattle.client_reassembly.specs.declared.Answer.TheVariants.{Reset}
use Rattle.client_reassembly.specs.Advance as Advance
use Rattle.client_reassembly.specs.Advance.{figures, account_on}
use Rattle.client_ledger.specs.History.{Lent, Ask, call_on}
use Rattle.table_rules.specs.Table.{
  Table,
  plans_of,
  lent_of,
  counted,
  in_range,
  shares_of,
  size_tests,
  sized,
  ask_tests,
  record_of,
  share_start,
  share_of,
  After,
  cleared,
  reset_on,
  out_lent,
  after_call,
  ask_on,
  Leaves,
}

-- ---- the sizes and plans of a table

pub record Fits (l : Lent) : Type 0 where
  pub few : counted l.count ≡ true
  pub ranged : all in_range l.plans ≡ true
  pub shares : l.bytes ≡ shares_of l.plans

pub fits : (l : Lent) → sized l ≡ true → Fits l
unfolding sized
fits l e =
    let a = both_true (counted l.count) (all in_range l.plans && eqb l.bytes (shares_of l.plans)) e in
    let b = both_true (all in_range l.plans) (eqb l.bytes (shares_of l.plans)) a.1 in
    record { few = a.0; ranged = b.0; shares = eqb-true l.bytes (shares_of l.plans) b.1 }

pub few-clients : (n : ℕ) → counted n ≡ true → n ≤ client_limit
unfolding counted
few-clients n e = leb-true n client_limit (both_true (leb 1 n) (leb n client_limit) e).1

-- none of the tests applies, or one does
pub sized-none : (l : Lent) → sized l ≡ true → first_of (size_tests l) ≡ none
unfolding size_tests first_of
sized-none l e = let f = fits l e in simp (f.few, f.ranged, eq-eqb l.bytes (shares_of l.plans) f.shares)

pub record Misfit (l : Lent) : Type 0 where
  pub number : ℕ
  pub found : first_of (size_tests l) ≡ some number

pub misfit-of : (l : Lent) → sized l ≡ false → Misfit l
unfolding size_tests sized first_of
misfit-of l e = go (counted l.count) (all in_range l.plans) (eqb l.bytes (shares_of l.plans)) refl refl refl e
  where
    go : (x y z : Bool) → counted l.count ≡ x → all in_range l.plans ≡ y → eqb l.bytes (shares_of l.plans) ≡ z → x && (y && z) ≡ false
        → Misfit l
    go false y z p q r e = record { number = 20; found = simp p }
    go true false z p q r e = record { number = 32; found = simp (p, q) }
    go true true false p q r e = record { number = 20; found = simp (p, q, r) }
    go true true true p q r e = let n : ◌≡◌ {A = ℕ} 0 1 = cc in absurd (omega arith)

-- ---- plans and shares

pub plans-length : (rs : List Client) → length (plans_of rs) ≡ length rs
plans-length rs = length-map rs (λ c. c.plan)

-- the plan of client k
pub plan-of : (rs : List Client) (k : ℕ) → get_or (plans_of rs) k 0 ≡ (get_or rs k blank_client).plan
unfolding blank_client fresh_client
plan-of [] k = refl
plan-of (c ∷ rs) zero = refl
plan-of (c ∷ rs) (suc k) = plan-of rs k

-- a record is put back with its plan: the plans are as they were
pub plans-set : (rs : List Client) (j : ℕ) (c : Client) → c.plan ≡ (get_or rs j blank_client).plan → plans_of (set rs j c) ≡ plans_of rs
plans-set [] j c e = refl
plans-set (r ∷ rs) zero c e = ap (λ (n : ℕ). n ∷ plans_of rs) e
plans-set (r ∷ rs) (suc j) c e = ap (λ (l : List ℕ). r.plan ∷ l) (plans-set rs j c e)

pub plan-few : (t : Table) (k : ℕ) → sized (lent_of t) ≡ true → k < length t.records → (record_of k t).plan ≤ assembly_limit
unfolding in_range
plan-few t k e h =
    let there : k < length (plans_of t.records) = omega (arith, plans-length t.records) in
    let ok = ap in_range (sym (plan-of t.records k)) ∙ all-at in_range (plans_of t.records) k 0 there (fits (lent_of t) e).ranged in
    leb-true (record_of k t).plan assembly_limit (both_true (leb 1 (record_of k t).plan) (leb (record_of k t).plan assembly_limit) ok).1

-- a share ends where the next one starts, or before
pub shares-apart : (ps : List ℕ) (j k : ℕ) → j < k → j < length ps → share_start j ps + share_size (get_or ps j 0) ≤ share_start k ps
unfolding share_start shares_of sum
shares-apart [] j k h there = absurd (not-suc-le-zero there)
shares-apart (p ∷ ps) j zero h there = absurd (not-suc-le-zero h)
shares-apart (p ∷ ps) zero (suc k) h there = omega arith
shares-apart (p ∷ ps) (suc j) (suc k) h there = omega (arith, shares-apart ps j k (le_of_suc-le-suc h) (le_of_suc-le-suc there))

share-ends : (ps : List ℕ) (j : ℕ) → j < length ps → share_start j ps + share_size (get_or ps j 0) ≤ shares_of ps
unfolding share_start shares_of sum
share-ends [] j there = absurd (not-suc-le-zero there)
share-ends (p ∷ ps) zero there = omega arith
share-ends (p ∷ ps) (suc j) there = omega (arith, share-ends ps j (le_of_suc-le-suc there))

-- a client's share ends within the store
pub share-fits : (t : Table) (k : ℕ) → sized (lent_of t) ≡ true → k < length t.records
    → share_start k (plans_of t.records) + share_size (record_of k t).plan ≤ length t.store
share-fits t k e h =
    let there : k < length (plans_of t.records) = omega (arith, plans-length t.records) in
    omega (
      arith,
      (fits (lent_of t) e).shares,
      share-ends (plans_of t.records) k there,
      ap share_size (plan-of t.records k),
    )

pub share-length : (t : Table) (k : ℕ) → sized (lent_of t) ≡ true → k < length t.records → length (share_of k t) ≡ share_size (record_of k t).plan
share-length t k e h = length_part (share_start k (plans_of t.records)) (share_size (record_of k t).plan) t.store (share-fits t k e h)

-- ---- the calls by their tests

pub misfit-is : (k : ℕ) (a : Ask) (t : Table) (n : ℕ) → first_of (size_tests (lent_of t)) ≡ some n
    → ask_on k a t ≡ record { table = t; out = out_lent a; reply = refused n }
unfolding ask_on ask_tests
misfit-is k a t n e = simp (first-front (size_tests (lent_of t)) ((leb (length t.records) k, 21) ∷ []) n e)

-- behind the tests of the table comes that of the client
asked-last : (l : Lent) (k : ℕ) → sized l ≡ true → first_of (ask_tests l k) ≡ first_of ((leb l.count k, 21) ∷ [])
unfolding ask_tests
asked-last l k e = first-behind (size_tests l) ((leb l.count k, 21) ∷ []) (sized-none l e)

pub asked-unknown : (l : Lent) (k : ℕ) → sized l ≡ true → l.count ≤ k → first_of (ask_tests l k) ≡ some 21
unfolding first_of
asked-unknown l k e h = asked-last l k e ∙ ap (λ (b : Bool). cond b (some 21) none) (le-leb l.count k h)

pub asked-none : (l : Lent) (k : ℕ) → sized l ≡ true → k < l.count → first_of (ask_tests l k) ≡ none
unfolding first_of
asked-none l k e h = asked-last l k e ∙ ap (λ (b : Bool). cond b (some 21) none) (lt-leb l.count k h)

pub unknown-is : (k : ℕ) (a : Ask) (t : Table) → sized (lent_of t) ≡ true → length t.records ≤ k
    → ask_on k a t ≡ record { table = t; out = out_lent a; reply = refused 21 }
unfolding ask_on
unknown-is k a t e h = simp (asked-unknown (lent_of t) k e h)

pub granted-is : (k : ℕ) (a : Ask) (t : Table) → sized (lent_of t) ≡ true → k < length t.records
    → ask_on k a t ≡ after_call k (call_on (record_of k t) (share_of k t) a) t
unfolding ask_on
granted-is k a t e h = simp (asked-none (lent_of t) k e h)

pub reset-refused : (t : Table) (n : ℕ) → first_of (size_tests (lent_of t)) ≡ some n → reset_on t ≡ record { table = t; out = []; reply = refused n }
unfolding reset_on
reset-refused t n e = simp e

pub reset-taken : (t : Table) → sized (lent_of t) ≡ true → reset_on t ≡ record { table = cleared t; out = []; reply = ready }
unfolding reset_on
reset-taken t e = simp (sized-none (lent_of t) e)

-- ---- what a call leaves that a test refuses, and a set-up that is taken

pub refused-leaves : (k : ℕ) (a : Ask) (t : Table) (r : Refusal) → first_of (ask_tests (lent_of t) k) ≡ some (number_of r)
    → Leaves (ask_on k a t) (Err r) t.records t.store (out_lent a)
unfolding ask_on
refused-leaves k a t r e =
    subst (λ (x : After). Leaves x (Err r) t.records t.store (out_lent a)) (simp e)
    (record { answers = refl; records_left = refl; store_left = refl; out_left = refl })

pub reset-refused-leaves : (t : Table) (r : Refusal) → first_of (size_tests (lent_of t)) ≡ some (number_of r)
    → Leaves (reset_on t) (Err r) t.records t.store []
reset-refused-leaves t r e =
    subst (λ (x : After). Leaves x (Err r) t.records t.store []) (sym (reset-refused t (number_of r) e))
    (record { answers = refl; records_left = refl; store_left = refl; out_left = refl })

pub reset-leaves : (t : Table) (records : List Client) → first_of (size_tests (lent_of t)) ≡ none → records ≡ (cleared t).records
    → Leaves (reset_on t) (Ok Reset) records t.store []
unfolding reset_on
reset-leaves t records e q =
    subst (λ (x : After). Leaves x (Ok Reset) records t.store []) (simp e)
    (record { answers = refl; records_left = q; store_left = refl; out_left = refl })

-- ---- a call that changes nothing

-- the account changes nothing
pub account-keeps : (c : Client) → (account_on c).client ≡ c
unfolding account_on first_of
account-keeps c = go (sound_record c)
  where
    go : (b : Bool) → (Advance.refuse_or c (first_of ((not b, 22) ∷ [])) (record { client = c; reply = account (figures c) })).client ≡ c
    go true = refl
    go false = refl

-- ---- parts of a store where another part is put back

-- as it was
pub same-part : (store : List ℕ) (at n : ℕ) → at + n ≤ length store → overlay store at (part at n store) ≡ store
same-part store at n h =
    let size : length (part at n store) ≡ n = length_part at n store h in
    ap (λ (m : ℕ). take at store ++ (part at n store ++ drop (at + m) store)) size
    ∙ ap (λ (l : List ℕ). take at store ++ (part at n store ++ l)) (sym (drop-drop n at store))
    ∙ ap (λ (l : List ℕ). take at store ++ l) (take-append-drop n (drop at store)) ∙ take-append-drop at store

-- a part that ends before it
pub part-before : (store : List ℕ) (at : ℕ) (bs : List ℕ) (from n : ℕ) → at + length bs ≤ length store → from + n ≤ at
    → part from n (overlay store at bs) ≡ part from n store
part-before store at bs from n h e =
    sym (part-take from n at (overlay store at bs) e (omega (arith, length-overlay store at bs h)))
    ∙ ap (part from n) (take-overlay store at bs h) ∙ part-take from n at store e (omega arith)

-- a part that starts behind it
pub part-behind : (store : List ℕ) (at : ℕ) (bs : List ℕ) (from n : ℕ) → at + length bs ≤ length store → at + length bs ≤ from
    → part from n (overlay store at bs) ≡ part from n store
part-behind store at bs from n h e =
    let gap : at + length bs + (from - (at + length bs)) ≡ from = omega arith in
    ap (take n)
    (ap (λ (m : ℕ). drop m (overlay store at bs)) (sym gap) ∙ sym (drop-drop (from - (at + length bs)) (at + length bs) (overlay store at bs))
    ∙ ap (drop (from - (at + length bs))) (drop-overlay store at bs h)
    ∙ drop-drop (from - (at + length bs)) (at + length bs) store ∙ ap (λ (m : ℕ). drop m store) gap)
