-- The book's tests for 20, 32 and 21, from the papers' words, agree with the table's, which are those of the code's contract.
-- Assumes nothing.
use Prim.Native.Nat.{ℕ, ◌+◌, ◌*◌}
use mathlib.Core.Path.{◌≡◌, refl, sym, ap, ap₂, ◌∙◌}
use mathlib.Core.Bool.{Bool, true, false, not, ◌&&◌, ◌||◌}
use mathlib.Core.List.{List, [], ◌∷◌, ◌++◌}
use native.Mathlib.Nat.{mul_comm}
use native.Mathlib.Omega.{arith}
use lib.Dec.{leb, ltb, eqb}
use borrow.Author.Tests.{ltb-true, ltb-false, eqb-true, eqb-false, le-leb, lt-leb, eq-eqb, ne_eqb}
use Rattle.client_record.specs.Limits.{datagram_limit, share_size, assembly_limit, client_limit}
use Rattle.client_record.specs.Lists.{all, any, sum}
use Rattle.client_ledger.specs.Lent.{count_off, plan_off, plans_off, store_off, table_tests, no_client, lent_tests}
use Rattle.client_ledger.specs.History.{Lent}
use Rattle.table_rules.specs.Table.{counted, in_range, shares_of, size_tests, ask_tests}

-- ---- numbers

none_or_some : (n : ℕ) → leb 1 n ≡ not (eqb n 0)
none_or_some n = go (eqb n 0) refl
  where
    go : (x : Bool) → eqb n 0 ≡ x → leb 1 n ≡ not x
    go true e = lt-leb 1 n (omega (arith, eqb-true n 0 e))
    go false e = let some = eqb-false n 0 e in le-leb 1 n (omega (arith, some))

within-or-past : (n m : ℕ) → leb n m ≡ not (ltb m n)
within-or-past n m = go (ltb m n) refl
  where
    go : (x : Bool) → ltb m n ≡ x → leb n m ≡ not x
    go true e = lt-leb n m (ltb-true m n e)
    go false e = le-leb n m (ltb-false m n e)

eqb_swap : (n m : ℕ) → eqb n m ≡ eqb m n
eqb_swap n m = go (eqb n m) refl
  where
    go : (x : Bool) → eqb n m ≡ x → x ≡ eqb m n
    go true e = sym (eq-eqb m n (sym (eqb-true n m e)))
    go false e = sym (ne_eqb m n (λ q. eqb-false n m e (sym q)))

one_of_two : (x y : Bool) → x || y ≡ not (not x && not y)
one_of_two true y = refl
one_of_two false true = refl
one_of_two false false = refl

-- from 1 to m, or not
out_of : (n m : ℕ) → eqb n 0 || ltb m n ≡ not (leb 1 n && leb n m)
out_of n m =
    one_of_two (eqb n 0) (ltb m n) ∙ ap₂ (λ (x y : Bool). not (x && y)) (sym (none_or_some n)) (sym (within-or-past n m))

-- ---- the tests

count-agrees : (l : Lent) → count_off l ≡ not (counted l.count)
unfolding count_off counted
count-agrees l = out_of l.count client_limit

plan-agrees : (plan : ℕ) → plan_off plan ≡ not (in_range plan)
unfolding plan_off in_range
plan-agrees plan = out_of plan assembly_limit

not-both : (x y : Bool) → not x || not y ≡ not (x && y)
not-both true y = refl
not-both false y = refl

any-plan : (ps : List ℕ) → any plan_off ps ≡ not (all in_range ps)
unfolding any all
any-plan [] = refl
any-plan (p ∷ ps) = ap₂ ◌||◌ (plan-agrees p) (any-plan ps) ∙ not-both (in_range p) (all in_range ps)

plans-agree : (l : Lent) → plans_off l ≡ not (all in_range l.plans)
unfolding plans_off
plans-agree l = any-plan l.plans

shares-agree : (ps : List ℕ) → sum (λ plan. datagram_limit * plan) ps ≡ shares_of ps
unfolding shares_of sum share_size
shares-agree [] = refl
shares-agree (p ∷ ps) = ap₂ ◌+◌ (mul_comm datagram_limit p) (shares-agree ps)

store-agrees : (l : Lent) → store_off l ≡ not (eqb l.bytes (shares_of l.plans))
unfolding store_off
store-agrees l = ap not (ap (λ (n : ℕ). eqb n l.bytes) (shares-agree l.plans) ∙ eqb_swap (shares_of l.plans) l.bytes)

pub client-agrees : (l : Lent) (k : ℕ) → no_client l k ≡ leb l.count k
unfolding no_client
client-agrees l k = sym (within-or-past l.count k)

-- the lists of tests are the same
pub size-tests-agree : (l : Lent) → table_tests l ≡ size_tests l
unfolding table_tests size_tests
size-tests-agree l = λ i. (count-agrees l i, 20) ∷ (plans-agree l i, 32) ∷ (store-agrees l i, 20) ∷ []

pub tests_agree : (l : Lent) (k : ℕ) → lent_tests l k ≡ ask_tests l k
unfolding lent_tests ask_tests
tests_agree l k = ap₂ (λ (xs : List (Bool × ℕ)) (y : Bool). xs ++ (y, 21) ∷ []) (size-tests-agree l) (client-agrees l k)
