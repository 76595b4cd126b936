-- The clients of a table are apart: a call leaves every other client's record and share (`PutBack`), and of the table it sees the sizes, whether the
-- plans are in range, and its own.
-- So a list can be run without other clients' calls, one event at a time, and a record that passes the record test passes it after every list;
-- the test has the sum in it. The books have no part in this.
-- Assumes nothing.
use Prim.Native.Nat.{ℕ, zero, suc, ◌<◌, ◌≤◌}
use mathlib.Core.Path.{◌≡◌, refl, sym, ap, ap₂, subst, ◌∙◌}
use mathlib.Core.Bool.{Bool, true, false, cond}
use mathlib.Core.List.{List, [], ◌∷◌, map}
use mathlib.Core.Option.{Option, none, some}
use lib.Dec.{eqb, ltb}
use lib.ListN.{length, length-map, get_or}
use borrow.Author.Tests.{eqb-true, eqb-false, ltb-true, ltb-false}
use Rattle.number_tests.specs.Tests.{first_of}
use Rattle.number_octets.specs.Octets.{part}
use Rattle.client_record.specs.declared.Client.{Client}
use Rattle.client_record.specs.Limits.{share_size}
use Rattle.client_record.specs.Record.{fresh_client, blank_client, figure_sum, sound_record}
use Rattle.client_record.proofs.SoundParts.{sound-parts}
use Rattle.client_reassembly.specs.Answer.{ready}
use Rattle.client_reassembly.proofs.Lasting.{fresh-client-sound, fresh-client-shaped}
use Rattle.client_ledger.specs.Shapes.{Shaped}
use Rattle.client_ledger.specs.History.{Lent, Ask, Given, call_on}
use Rattle.table_rules.specs.Table.{
  Table,
  plans_of,
  lent_of,
  size_tests,
  sized,
  record_of,
  share_start,
  share_of,
  After,
  refuse_or,
  cleared,
  reset_on,
  after_call,
  ask_on,
}
use Rattle.table_rules.specs.Events.{current, another, Event, resetting, asking, next, final, given_by, gives, Allowed, Keeps, own_only}
use Rattle.table_rules.specs.Apart.{Sums, Formed, Tested, Same, Apart}
use Rattle.table_rules.proofs.Facts.{plan-few, share-length, unknown-is, granted-is, reset-taken}
use Rattle.table_rules.proofs.PutBack.{unknown-table, asked-record, asked-share, asked-sizes, asked-other, asked-formed, asked_tested}

-- ---- the sum is in the record test

pub sound-sums : (c : Client) → sound_record c ≡ true → Sums c
unfolding figure_sum
sound-sums c ok = sym (sound-parts c ok).balance

-- ---- a set-up that is taken

cleared-records : (rs : List Client) → plans_of (map (λ c. fresh_client c.plan) rs) ≡ plans_of rs
unfolding fresh_client
cleared-records [] = refl
cleared-records (c ∷ rs) = ap (λ (l : List ℕ). c.plan ∷ l) (cleared-records rs)

pub cleared-sizes : (u : Table) → lent_of (cleared u) ≡ lent_of u
cleared-sizes u =
    let count = length-map u.records (λ c. fresh_client c.plan) in
    let plans = cleared-records u.records in
    λ i. record { count = count i; bytes = length u.store; plans = plans i }

fresh_at : (rs : List Client) (k : ℕ) → get_or (map (λ c. fresh_client c.plan) rs) k blank_client ≡ fresh_client (get_or rs k blank_client).plan
unfolding blank_client fresh_client
fresh_at [] k = refl
fresh_at (c ∷ rs) zero = refl
fresh_at (c ∷ rs) (suc k) = fresh_at rs k

-- every record is fresh, with its plan
pub cleared-record : (u : Table) (k : ℕ) → record_of k (cleared u) ≡ fresh_client (record_of k u).plan
cleared-record u k = fresh_at u.records k

fresh-plan : (plan : ℕ) → (fresh_client plan).plan ≡ plan
unfolding fresh_client
fresh-plan plan = refl

-- every share is as it was, in its place
pub cleared-share : (u : Table) (k : ℕ) → share_of k (cleared u) ≡ share_of k u
cleared-share u k =
    ap₂ (λ (ps : List ℕ) (n : ℕ). part (share_start k ps) (share_size n) u.store) (cleared-records u.records)
    (ap (λ (c : Client). c.plan) (cleared-record u k) ∙ fresh-plan (record_of k u).plan)

pub cleared-formed : (u : Table) → sized (lent_of u) ≡ true → Formed (cleared u)
cleared-formed u e = record {
  fit = ap sized (cleared-sizes u) ∙ e;
  each = λ k in-it.
      let there : k < length u.records = subst (λ (n : ℕ). k < n) (ap (λ (l : Lent). l.count) (cleared-sizes u)) in-it in
      subst (λ (c : Client). Shaped c (share_of k (cleared u))) (sym (cleared-record u k))
      (record {
        lists = fresh-client-shaped (record_of k u).plan (plan-few u k e there);
        size = ap length (cleared-share u k) ∙ share-length u k e there ∙ ap share_size (sym (fresh-plan (record_of k u).plan));
      });
}

pub cleared-tested : (k : ℕ) (u : Table) → Tested k (cleared u)
cleared-tested k u in-it = ap sound_record (cleared-record u k) ∙ fresh-client-sound (record_of k u).plan

-- a property of the table after a set-up on u, where t was the table before it
by-sizes : (P : Table → Type 0) (t u : Table) → (sized (lent_of u) ≡ true → P (cleared u)) → P t → P (cond (sized (lent_of u)) (reset_on u).table t)
by-sizes P t u taken kept = go (sized (lent_of u)) refl
  where
    go : (x : Bool) → sized (lent_of u) ≡ x → P (cond x (reset_on u).table t)
    go true e = subst P (sym (ap (λ (x : After). x.table) (reset-taken u e))) (taken e)
    go false e = kept

-- on the current table
pub opens : (t : Table) → sized (lent_of t) ≡ true → next t (resetting current) ≡ cleared t
opens t e = ap₂ (λ (x : Bool) (u : Table). cond x u t) e (ap (λ (x : After). x.table) (reset-taken t e))

-- ---- any event, any list

pub event-formed : (t : Table) → Formed t → (e : Event) → Allowed e → Formed (next t e)
event-formed t f (resetting current) ok = by-sizes Formed t t (cleared-formed t) f
event-formed t f (resetting (another u)) ok = by-sizes Formed t u (cleared-formed u) f
event-formed t f (asking current j a) ok = asked-formed t f j a
event-formed t f (asking (another u) j a) ok = f

event-tested : (k : ℕ) (t : Table) → Formed t → Tested k t → (e : Event) → Tested k (next t e)
event-tested k t f ok (resetting current) = by-sizes (Tested k) t t (λ e. cleared-tested k t) ok
event-tested k t f ok (resetting (another u)) = by-sizes (Tested k) t u (λ e. cleared-tested k u) ok
event-tested k t f ok (asking current j a) = asked_tested t f j a k ok
event-tested k t f ok (asking (another u) j a) = ok

tested-all : (k : ℕ) (t : Table) (es : List Event) → Formed t → Tested k t → Keeps es → Tested k (final t es)
unfolding final
tested-all k t [] f ok keeps = ok
tested-all k t (e ∷ es) f ok keeps =
    tested-all k (next t e) es (event-formed t f e keeps.0) (event-tested k t f ok e) keeps.1

-- ---- the same for client k in two tables

same-swap : (k : ℕ) (t t' : Table) → Same k t t' → Same k t' t
same-swap k t t' s = record { count = sym s.count; client = sym s.client; share = sym s.share }

same_then : (k : ℕ) (t u v : Table) → Same k t u → Same k u v → Same k t v
same_then k t u v s r = record { count = s.count ∙ r.count; client = s.client ∙ r.client; share = s.share ∙ r.share }

module _ (k : ℕ) (t t' : Table) (f : Formed t) (f' : Formed t') (s : Same k t t') where
  -- a set-up on each of them
  same-cleared : Same k (cleared t) (cleared t')
  same-cleared = record {
    count = ap (λ (l : Lent). l.count) (cleared-sizes t) ∙ s.count ∙ sym (ap (λ (l : Lent). l.count) (cleared-sizes t'));
    client = cleared-record t k ∙ ap (λ (c : Client). fresh_client c.plan) s.client ∙ sym (cleared-record t' k);
    share = cleared-share t k ∙ s.share ∙ sym (cleared-share t' k);
  }

  reset-given : given_by (reset_on t) ≡ given_by (reset_on t')
  reset-given =
      ap given_by (reset-taken t f.fit) ∙ sym (ap given_by (reset-taken t' f'.fit))

  reset-same : Same k (next t (resetting current)) (next t' (resetting current))
  reset-same =
      subst (λ (u : Table). Same k u (next t' (resetting current))) (sym (opens t f.fit))
      (subst (Same k (cleared t)) (sym (opens t' f'.fit)) same-cleared)

  -- a set-up on another table
  other-same : (u : Table) (x : Bool) → Same k (cond x (reset_on u).table t) (cond x (reset_on u).table t')
  other-same u true = record { count = refl; client = refl; share = refl }
  other-same u false = s

  -- client k's own call
  own-given : (a : Ask) → given_by (ask_on k a t) ≡ given_by (ask_on k a t')
  own-given a = go (ltb k (length t.records)) refl
    where
      go : (x : Bool) → ltb k (length t.records) ≡ x → given_by (ask_on k a t) ≡ given_by (ask_on k a t')
      go true e =
          let there = ltb-true k (length t.records) e in
          ap given_by (granted-is k a t f.fit there)
          ∙ ap₂ (λ (c : Client) (share : List ℕ). given_by (after_call k (call_on c share a) t)) s.client s.share
          ∙ sym (ap given_by (granted-is k a t' f'.fit (subst (λ (n : ℕ). k < n) s.count there)))
      go false e =
          let out = ltb-false k (length t.records) e in
          ap given_by (unknown-is k a t f.fit out)
          ∙ sym (ap given_by (unknown-is k a t' f'.fit (subst (λ (n : ℕ). n ≤ k) s.count out)))

  own_same : (a : Ask) → Same k (ask_on k a t).table (ask_on k a t').table
  own_same a = go (ltb k (length t.records)) refl
    where
      count : length (ask_on k a t).table.records ≡ length (ask_on k a t').table.records
      count = ap (λ (l : Lent). l.count) (asked-sizes t f k a) ∙ s.count ∙ sym (ap (λ (l : Lent). l.count) (asked-sizes t' f' k a))

      go : (x : Bool) → ltb k (length t.records) ≡ x → Same k (ask_on k a t).table (ask_on k a t').table
      go true e =
          let there = ltb-true k (length t.records) e in
          let there' : k < length t'.records = subst (λ (n : ℕ). k < n) s.count there in
          record {
            count = count;
            client = asked-record t f k a there
                ∙ ap₂ (λ (c : Client) (share : List ℕ). (call_on c share a).client) s.client s.share ∙ sym (asked-record t' f' k a there');
            share = asked-share t f k a there
                ∙ ap₂ (λ (c : Client) (share : List ℕ). (call_on c share a).share) s.client s.share ∙ sym (asked-share t' f' k a there');
          }
      go false e =
          let out = ltb-false k (length t.records) e in
          let out' : length t'.records ≤ k = subst (λ (n : ℕ). n ≤ k) s.count out in
          subst (λ (u : Table). Same k u (ask_on k a t').table) (sym (unknown-table t f k a out))
          (subst (Same k t) (sym (unknown-table t' f' k a out')) s)

-- ---- a list without other clients' calls

-- client k gets the same from a list and from its own calls in it
own_runs : (k : ℕ) (es : List Event) (t t' : Table) → Formed t → Formed t' → Same k t t' → Keeps es
    → (gives k t es ≡ gives k t' (own_only k es)) × Same k (final t es) (final t' (own_only k es))
unfolding gives final own_only
own_runs k [] t t' f f' s keeps = (refl, s)
own_runs k (resetting current ∷ es) t t' f f' s keeps =
    let r =
    own_runs k es (next t (resetting current)) (next t' (resetting current)) (event-formed t f (resetting current) tt)
    (event-formed t' f' (resetting current) tt) (reset-same k t t' f f' s) keeps.1 in
    (ap₂ ◌∷◌ (reset-given k t t' f f' s) r.0, r.1)
own_runs k (resetting (another u) ∷ es) t t' f f' s keeps =
    let r =
    own_runs k es (next t (resetting (another u))) (next t' (resetting (another u))) (event-formed t f (resetting (another u)) tt)
    (event-formed t' f' (resetting (another u)) tt) (other-same k t t' f f' s u (sized (lent_of u))) keeps.1 in
    (ap (λ (l : List Given). given_by (reset_on u) ∷ l) r.0, r.1)
own_runs k (asking current j a ∷ es) t t' f f' s keeps = go (eqb j k) refl (λ u u' g g' r. own_runs k es u u' g g' r keeps.1)
  where
    go : (x : Bool) → eqb j k ≡ x
        → ((u u' : Table) → Formed u → Formed u' → Same k u u' → (gives k u es ≡ gives k u' (own_only k es)) × Same k (final u es) (final u' (own_only k es)))
        → (cond x (given_by (ask_on j a t) ∷ gives k (ask_on j a t).table es) (gives k (ask_on j a t).table es)
        ≡ gives k t' (cond x (asking current j a ∷ own_only k es) (own_only k es)))
        × Same k (final (ask_on j a t).table es) (final t' (cond x (asking current j a ∷ own_only k es) (own_only k es)))
    go true e ih =
        let same = eqb-true j k e in
        let given : given_by (ask_on j a t) ≡ given_by (ask_on j a t') =
        subst (λ (n : ℕ). given_by (ask_on n a t) ≡ given_by (ask_on n a t')) (sym same) (own-given k t t' f f' s a) in
        let kept : Same k (ask_on j a t).table (ask_on j a t').table =
        subst (λ (n : ℕ). Same k (ask_on n a t).table (ask_on n a t').table) (sym same) (own_same k t t' f f' s a) in
        let r = ih (ask_on j a t).table (ask_on j a t').table (asked-formed t f j a) (asked-formed t' f' j a) kept in (
          ap₂ ◌∷◌ given r.0
              ∙ ap (λ (x : Bool). cond x (given_by (ask_on j a t') ∷ gives k (ask_on j a t').table (own_only k es)) (gives k (ask_on j a t').table (own_only k es)))
              (sym e),
          r.1,
        )
    go false e ih = ih (ask_on j a t).table t' (asked-formed t f j a) f' (same_then k (ask_on j a t).table t t' (asked-other t f j a k (eqb-false j k e)) s)
own_runs k (asking (another u) j a ∷ es) t t' f f' s keeps = go (eqb j k) refl (own_runs k es t t' f f' s keeps.1)
  where
    go : (x : Bool) → eqb j k ≡ x → (gives k t es ≡ gives k t' (own_only k es)) × Same k (final t es) (final t' (own_only k es))
        → (cond x (given_by (ask_on j a u) ∷ gives k t es) (gives k t es) ≡ gives k t' (cond x (asking (another u) j a ∷ own_only k es) (own_only k es)))
        × Same k (final t es) (final t' (cond x (asking (another u) j a ∷ own_only k es) (own_only k es)))
    go true e r = (
      ap (λ (l : List Given). given_by (ask_on j a u) ∷ l) r.0
          ∙ ap (λ (x : Bool). cond x (given_by (ask_on j a u) ∷ gives k t' (own_only k es)) (gives k t' (own_only k es))) (sym e),
      r.1,
    )
    go false e r = r

isolated : (k : ℕ) (t t' : Table) (es es' : List Event) → Formed t → Formed t' → Same k t t' → Keeps es → Keeps es'
    → own_only k es ≡ own_only k es' → (gives k t es ≡ gives k t' es') × Same k (final t es) (final t' es')
isolated k t t' es es' f f' s keeps keeps' same =
    let r = own_runs k es t t f f (record { count = refl; client = refl; share = refl }) keeps in
    let r' = own_runs k es' t' t f' f (same-swap k t t' s) keeps' in (
      r.0 ∙ ap (gives k t) same ∙ sym r'.0,
      same_then k (final t es) (final t (own_only k es)) (final t' es') r.1
          (subst (λ (l : List Event). Same k (final t l) (final t' es')) (sym same) (same-swap k (final t' es') (final t (own_only k es')) r'.1)),
    )

-- ---- the claim

-- ---- sizes and plans

-- those of the current table after an event: only a set-up that is taken changes them, by bringing another table
abbrev lent_after : Lent → Event → Lent
lent_after l (resetting current) = l
lent_after l (resetting (another u)) = cond (sized (lent_of u)) (lent_of u) l
lent_after l (asking g j a) = l

lent_over : Lent → List Event → Lent
lent_over l [] = l
lent_over l (e ∷ es) = lent_over (lent_after l e) es

set-up-sizes : (t u : Table) → lent_of (cond (sized (lent_of u)) (reset_on u).table t) ≡ cond (sized (lent_of u)) (lent_of u) (lent_of t)
set-up-sizes t u = go (sized (lent_of u)) refl
  where
    go : (x : Bool) → sized (lent_of u) ≡ x → lent_of (cond x (reset_on u).table t) ≡ cond x (lent_of u) (lent_of t)
    go true e = ap (λ (r : After). lent_of r.table) (reset-taken u e) ∙ cleared-sizes u
    go false e = refl

event-sizes : (t : Table) → Formed t → (e : Event) → lent_of (next t e) ≡ lent_after (lent_of t) e
event-sizes t f (resetting current) = ap lent_of (opens t f.fit) ∙ cleared-sizes t
event-sizes t f (resetting (another u)) = set-up-sizes t u
event-sizes t f (asking current j a) = asked-sizes t f j a
event-sizes t f (asking (another u) j a) = refl

run-sizes : (es : List Event) (t : Table) → Formed t → Keeps es → lent_of (final t es) ≡ lent_over (lent_of t) es
unfolding final lent_over
run-sizes [] t f keeps = refl
run-sizes (e ∷ es) t f keeps =
    run-sizes es (next t e) (event-formed t f e keeps.0) keeps.1 ∙ ap (λ (l : Lent). lent_over l es) (event-sizes t f e)

own-sizes : (k : ℕ) (es : List Event) (l : Lent) → lent_over l es ≡ lent_over l (own_only k es)
unfolding own_only lent_over
own-sizes k [] l = refl
own-sizes k (resetting g ∷ es) l = own-sizes k es (lent_after l (resetting g))
own-sizes k (asking g j a ∷ es) l = go (eqb j k) (own-sizes k es l)
  where
    go : (x : Bool) → lent_over l es ≡ lent_over l (own_only k es) → lent_over l es ≡ lent_over l (cond x (asking g j a ∷ own_only k es) (own_only k es))
    go true ih = ih
    go false ih = ih

same-sizes : (k : ℕ) (t t' : Table) (es es' : List Event) → Formed t → Formed t' → Keeps es → Keeps es' → own_only k es ≡ own_only k es'
    → lent_of t ≡ lent_of t' → lent_of (final t es) ≡ lent_of (final t' es')
same-sizes k t t' es es' f f' keeps keeps' same sizes =
    run-sizes es t f keeps ∙ own-sizes k es (lent_of t) ∙ ap₂ lent_over sizes same ∙ sym (own-sizes k es' (lent_of t')) ∙ sym (run-sizes es' t' f' keeps')

-- a set-up keeps the plans that it reads
read-plans : (t : Table) → lent_of (reset_on t).table ≡ lent_of t
unfolding reset_on
read-plans t = go (first_of (size_tests (lent_of t)))
  where
    go : (r : Option ℕ) → lent_of (refuse_or t [] r (record { table = cleared t; out = []; reply = ready })).table ≡ lent_of t
    go none = cleared-sizes t
    go (some n) = refl

pub apart : Apart
apart = record {
  tested = tested-all;
  sum = λ k t es f ok keeps there. sound-sums (record_of k (final t es)) (tested-all k t es f ok keeps there);
  isolation = isolated;
  sizes = same-sizes;
  plans_kept = asked-sizes;
  plans_read = read-plans;
}
