-- What the table adds to a client's book: refusals 20, 32 and 21 come before all others. Of the table a history has the record count, the
-- store's length and the records' plans, and nothing else. The tests are the book's own, from the papers' words; the table has others, and
-- the two agree (`table_rules/proofs/Tests.antt`: `tests_agree`).
use Rattle.std.specs.Prelude.{ℕ, ◌*◌, Bool, not, ◌||◌, List, [], ◌∷◌, ◌++◌, ltb, eqb, get_or}
use Rattle.std.proofs.Math.Option.{Option}
use Rattle.number_tests.specs.Tests.{first_of}
use Rattle.client_record.specs.Limits.{datagram_limit, assembly_limit, client_limit}
use Rattle.client_record.specs.Lists.{any, sum}
use Rattle.client_ledger.specs.Book.{Book, empty, Result, Call, fragment, clock, bill, refuse_or, call}
use Rattle.client_ledger.specs.History.{Lent}

-- "record count not 1 to 12"
unfoldable pub count_off : Lent → Bool
count_off l = eqb l.count 0 || ltb client_limit l.count

-- "plan, 1 to 8 places": out of range
unfoldable pub plan_off : ℕ → Bool
plan_off plan = eqb plan 0 || ltb assembly_limit plan

-- "if any record's plan is out of range"
unfoldable pub plans_off : Lent → Bool
plans_off l = any plan_off l.plans

-- the store's length is not "the sum": a place of the longest original's size for each that a plan has
unfoldable pub store_off : Lent → Bool
store_off l = not (eqb (sum (λ plan. datagram_limit * plan) l.plans) l.bytes)

-- "32 .., after 20's record count and before its store test"
unfoldable pub table_tests : Lent → List (Bool × ℕ)
table_tests l = (count_off l, 20) ∷ (plans_off l, 32) ∷ (store_off l, 20) ∷ []

-- what refuses every call on the table, a set-up too
abbrev pub misfit : Lent → Option ℕ
misfit l = first_of (table_tests l)

-- "no such client": they are 0 to one less than the record count
unfoldable pub no_client : Lent → ℕ → Bool
no_client l k = not (ltb k l.count)

-- 20, 32, 20 and 21 in order
unfoldable pub lent_tests : Lent → ℕ → List (Bool × ℕ)
lent_tests l k = table_tests l ++ (no_client l k, 21) ∷ []

-- a client's own call: its arguments, with the sizes and plans of the table that it was lent
pub record Own : Type 0 where
  pub lent : Lent
  pub client : ℕ
  pub call : Call

-- a client's history: the plan that the last set-up taken read, and its own calls since, the earliest first
pub record Past : Type 0 where
  pub plan : ℕ
  pub calls : List Own

-- a history that starts with a set-up of this table
abbrev pub since : ℕ → Lent → Past
since k l = record { plan = get_or l.plans k 0; calls = [] }

-- one call more
abbrev pub more : Past → Own → Past
more h o = record { plan = h.plan; calls = h.calls ++ o ∷ [] }

-- the out buffer that a call lends
abbrev pub out_of : Call → List ℕ
out_of (fragment o out) = out
out_of (clock t) = []
out_of bill = []

-- what the book answers to an own call
unfoldable pub answered : Own → Book → Result
answered o b = refuse_or (out_of o.call) b (first_of (lent_tests o.lent o.client)) (call o.call b)

-- the book after own calls, the earliest first
unfoldable pub keeping : List Own → Book → Book
keeping [] b = b
keeping (o ∷ os) b = keeping os (answered o b).book

-- the plain book of a history
unfoldable pub book_of : Past → Book
book_of h = keeping h.calls (empty h.plan)
