-- The plans of a table's records, looked at one after the other: what is known of those before i, and what that says of the tests.
-- Assumes nothing.
use Prim.Native.Nat.{ℕ, ◌+◌, ◌*◌, ◌<◌, ◌≤◌}
use mathlib.Core.Path.{◌≡◌, refl, sym, ap, ap₂, subst, ◌∙◌}
use mathlib.Core.Bool.{Bool, true, false, not, ◌&&◌, cond}
use mathlib.Core.List.{List, [], ◌∷◌, ◌++◌}
use Rattle.std.specs.Prelude.{Result, Ok, Err, IfOk}
use native.Mathlib.Omega.{arith}
use lib.Dec.{leb, ltb, eqb}
use lib.ListN.{length, take, get_or}
use Rattle.std.proofs.lemmas.List.{get_or_default}
use lib.Seq.{take-take, take_all, length-take-le}
use borrow.Author.Tests.{leb-true, ltb-true, ltb-false, lt-ltb, le-ltb}
use Rattle.number_tests.specs.Tests.{first_of}
use Rattle.number_tests.proofs.Tests.{both_true}
use Rattle.client_record.specs.declared.Client.{Client}
use Rattle.client_record.specs.Limits.{datagram_limit, share_size, assembly_limit, client_limit}
use Rattle.client_record.specs.Lists.{all, sum}
use Rattle.client_record.specs.Record.{blank_client}
use Rattle.client_record.proofs.Lists.{take_next, all_append, sum-append}
use Rattle.client_record.proofs.SoundParts.{all-at}
use Rattle.client_reassembly.specs.declared.Refusal.{Refusal}
use Rattle.client_reassembly.specs.declared.Refusal.TheVariants.{TableMisfit, PlanOutOfRange}
use Rattle.client_ledger.specs.History.{Lent}
use Rattle.table_rules.specs.Table.{plans_of, counted, in_range, shares_of, size_tests, ask_tests, share_start}
use Rattle.table_rules.proofs.Facts.{plans-length, plan-of}
use Rattle.table_admission.specs.Admission.{Places, Grants, Admits}

-- ---- plans

-- the places of some plans
abbrev total : List ℕ → ℕ
total ps = sum (λ p. p) ps

-- the bytes of shares are those of their places
shares-total : (ps : List ℕ) → shares_of ps ≡ share_size (total ps)
unfolding shares_of share_size datagram_limit sum
shares-total [] = refl
shares-total (p ∷ ps) = omega (arith, shares-total ps)

range-few : (plan : ℕ) → in_range plan ≡ true → plan ≤ assembly_limit
unfolding in_range
range-few plan e = leb-true plan assembly_limit (both_true (leb 1 plan) (leb plan assembly_limit) e).1

few-next : (i places plan : ℕ) → places ≤ i * assembly_limit → plan ≤ assembly_limit → places + plan ≤ (i + 1) * assembly_limit
unfolding assembly_limit
few-next i places plan a b = omega arith

-- the places of client i count before client k's, or they do not
pub lies-before : (i k before plan : ℕ) → i < k → before + plan ≡ before + cond (ltb i k) plan 0
lies-before i k before plan h = ap (λ (b : Bool). before + cond b plan 0) (sym (lt-ltb i k h))

pub lies-behind : (i k before plan : ℕ) → k ≤ i → before ≡ before + cond (ltb i k) plan 0
lies-behind i k before plan h = let e = ap (λ (b : Bool). cond b plan 0) (le-ltb i k h) in omega (arith, e)

-- ---- the first i of them

-- the plans of the first i records are in range, and these are their places, and those of them that lie before client k's
pub record Surveyed (rs : List Client) (k i before places : ℕ) : Type 0 where
  pub front : i ≤ length rs
  pub ranged : all in_range (take i (plans_of rs)) ≡ true
  pub places_are : places ≡ total (take i (plans_of rs))
  pub before_are : before ≡ total (take k (take i (plans_of rs)))
  pub few : places ≤ i * assembly_limit
  pub part : before ≤ places

pub surveyed-none : (rs : List Client) (k : ℕ) → Surveyed rs k 0 0 0
unfolding all sum
surveyed-none rs k = record {
  front = omega arith;
  ranged = refl;
  places_are = refl;
  before_are = ap total (sym (take_all k [] (omega arith)));
  few = omega arith;
  part = omega arith;
}

module _ (rs : List Client) (d : Client) (k i before places : ℕ) (s : Surveyed rs k i before places) (h : i < length rs) where
  within : i < length (plans_of rs)
  within = omega (arith, plans-length rs)

  -- the plan that is read of record i, whatever stands past the end
  plan-at : get_or (plans_of rs) i 0 ≡ (get_or rs i d).plan
  plan-at = plan-of rs i ∙ ap (λ (r : Client). r.plan) (get_or_default rs i blank_client d h)

  -- one plan more
  plans-next : take (i + 1) (plans_of rs) ≡ take i (plans_of rs) ++ ((get_or rs i d).plan ∷ [])
  plans-next = take_next (plans_of rs) i 0 within ∙ ap (λ (p : ℕ). take i (plans_of rs) ++ (p ∷ [])) plan-at

  total-next : total (take (i + 1) (plans_of rs)) ≡ total (take i (plans_of rs)) + (get_or rs i d).plan
  unfolding sum
  total-next =
      ap total plans-next ∙ sum-append (λ p. p) (take i (plans_of rs)) ((get_or rs i d).plan ∷ []) ∙ omega arith

  front_length : length (take i (plans_of rs)) ≡ i
  front_length = length-take-le i (plans_of rs) (omega (arith, within))

  -- it lies before client k's or it does not
  before-next : total (take k (take (i + 1) (plans_of rs))) ≡ before + cond (ltb i k) (get_or rs i d).plan 0
  before-next = go (ltb i k) refl
    where
      go : (b : Bool) → ltb i k ≡ b → total (take k (take (i + 1) (plans_of rs))) ≡ before + cond b (get_or rs i d).plan 0
      go true t =
          let lt = ltb-true i k t in
          let longer : length (take (i + 1) (plans_of rs)) ≤ k = omega (arith, length-take-le (i + 1) (plans_of rs) (omega (arith, within))) in
          let same : total (take k (take i (plans_of rs))) ≡ total (take i (plans_of rs)) =
          ap total (take_all k (take i (plans_of rs)) (omega (arith, front_length))) in
          ap total (take_all k (take (i + 1) (plans_of rs)) longer) ∙ omega (arith, total-next, same, s.before_are)
      go false t =
          let le = ltb-false i k t in
          let old : take k (take i (plans_of rs)) ≡ take k (plans_of rs) = take-take k i (plans_of rs) le in
          let new : take k (take (i + 1) (plans_of rs)) ≡ take k (plans_of rs) = take-take k (i + 1) (plans_of rs) (omega arith) in
          omega (arith, ap total new, ap total old, s.before_are)

  before-within : (b : Bool) (n : ℕ) → before + cond b n 0 ≤ places + n
  before-within true n = omega (arith, s.part)
  before-within false n = omega (arith, s.part)

  counted-next : in_range (get_or rs i d).plan ≡ true
      → Surveyed rs k (i + 1) (before + cond (ltb i k) (get_or rs i d).plan 0) (places + (get_or rs i d).plan)
  unfolding all
  counted-next ok = record {
    front = omega arith;
    ranged = ap (all in_range) plans-next ∙ all_append in_range (take i (plans_of rs)) ((get_or rs i d).plan ∷ [])
        ∙ ap₂ (λ (x y : Bool). x && (y && true)) s.ranged ok;
    places_are = omega (arith, s.places_are, total-next);
    before_are = sym before-next;
    few = few-next i places (get_or rs i d).plan s.few (range-few (get_or rs i d).plan ok);
    part = before-within (ltb i k) (get_or rs i d).plan;
  }

  -- one record more, as the code counts its places where they lie before client k's
  pub surveyed-next : (before' : ℕ) → before' ≡ before + cond (ltb i k) (get_or rs i d).plan 0 → in_range (get_or rs i d).plan ≡ true
      → Surveyed rs k (i + 1) before' (places + (get_or rs i d).plan)
  surveyed-next before' e ok = subst (λ (n : ℕ). Surveyed rs k (i + 1) n (places + (get_or rs i d).plan)) (sym e) (counted-next ok)

  -- one that is not in range
  pub surveyed-off : in_range (get_or rs i d).plan ≡ false → all in_range (plans_of rs) ≡ false
  surveyed-off off = go (all in_range (plans_of rs)) refl
    where
      go : (b : Bool) → all in_range (plans_of rs) ≡ b → b ≡ false
      go true e = sym (all-at in_range (plans_of rs) i 0 within e) ∙ ap in_range plan-at ∙ off
      go false e = refl

-- ---- all of them

pub record Laid (rs : List Client) (k before places : ℕ) : Type 0 where
  pub ranged : all in_range (plans_of rs) ≡ true
  pub shares : shares_of (plans_of rs) ≡ share_size places
  pub start : share_start k (plans_of rs) ≡ share_size before

pub surveyed-all : (rs : List Client) (k i before places : ℕ) → Surveyed rs k i before places → length rs ≤ i → Laid rs k before places
unfolding share_start
surveyed-all rs k i before places s h =
    let whole : take i (plans_of rs) ≡ plans_of rs = take_all i (plans_of rs) (omega (arith, plans-length rs)) in
    record {
      ranged = ap (all in_range) (sym whole) ∙ s.ranged;
      shares = shares-total (plans_of rs) ∙ ap share_size (sym (s.places_are ∙ ap total whole));
      start = shares-total (take k (plans_of rs)) ∙ ap share_size (sym (s.before_are ∙ ap (λ (l : List ℕ). total (take k l)) whole));
    }

-- ---- the tests

module _ (l : Lent) (k : ℕ) where
  pub admits-count : counted l.count ≡ false → Admits l k (Err TableMisfit)
  unfolding ask_tests size_tests first_of
  admits-count e = record { tests = simp e; start = tt }

  pub admits-plan : counted l.count ≡ true → all in_range l.plans ≡ false → Admits l k (Err PlanOutOfRange)
  unfolding ask_tests size_tests first_of
  admits-plan e p = record { tests = simp (e, p); start = tt }

  pub admits-store : (before places : ℕ) (r : Result ℕ Refusal) → counted l.count ≡ true → all in_range l.plans ≡ true
      → shares_of l.plans ≡ share_size places → share_start k l.plans ≡ share_size before → Grants l.count before places l.bytes k r → Admits l k r
  unfolding ask_tests size_tests first_of
  admits-store before places r e p shares start g =
      let is : first_of (ask_tests l k) ≡ first_of ((not (eqb l.bytes (share_size places)), 20) ∷ (leb l.count k, 21) ∷ []) = simp (e, p, shares) in
      record { tests = g.tests ∙ sym is; start = starts r g.start }
    where
      starts : (r : Result ℕ Refusal) → IfOk r (λ from. from ≡ share_size before) → IfOk r (λ from. from ≡ share_start k l.plans)
      starts (Err x) h = tt
      starts (Ok from) h = h ∙ sym start

pub laid-places : (rs : List Client) (k i before places : ℕ) → Surveyed rs k i before places → i ≤ client_limit → Places before places
unfolding client_limit assembly_limit
laid-places rs k i before places s h = record { few = omega (arith, s.few); part = s.part }
