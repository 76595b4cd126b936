-- The table (document 01, "The table"): what each of the four calls answers, and what it leaves of the records, the store and out.
use Rattle.std.specs.Prelude.{ℕ, ◌≡◌, Bool, not, ◌&&◌, List, [], ◌∷◌, ◌++◌, map, leb, eqb, length, get_or, set, take, Result}
use Rattle.std.proofs.Math.Option.{Option, none, some}
use Rattle.number_tests.specs.Tests.{first_of}
use Rattle.number_octets.specs.Octets.{part, overlay}
use Rattle.client_record.specs.declared.Client.{Client}
use Rattle.client_record.specs.Limits.{share_size, assembly_limit, client_limit}
use Rattle.client_record.specs.Lists.{all, sum}
use Rattle.client_record.specs.Record.{fresh_client, blank_client}
use Rattle.client_reassembly.specs.declared.Answer.{Answer}
use Rattle.client_reassembly.specs.declared.Refusal.{Refusal}
use Rattle.client_reassembly.specs.Answer.{Reply, refused, ready, reply_of}
use Rattle.client_reassembly.specs.Offer.{Outcome}
use Rattle.client_ledger.specs.History.{Lent, Ask, offering, advancing, accounting, call_on}

-- "a lent slice of client records, one per client, beside a lent store"
pub record Table : Type 0 where
  pub records : List Client
  pub store : List ℕ

-- "Each record carries its plan"
abbrev pub plans_of : List Client → List ℕ
plans_of records = map (λ c. c.plan) records

abbrev pub lent_of : Table → Lent
lent_of t = record { count = length t.records; bytes = length t.store; plans = plans_of t.records }

-- 1 to 12 records
unfoldable pub counted : ℕ → Bool
counted n = leb 1 n && leb n client_limit

-- "1 to 8 places"
unfoldable pub in_range : ℕ → Bool
in_range plan = leb 1 plan && leb plan assembly_limit

-- the bytes of the shares of these plans
unfoldable pub shares_of : List ℕ → ℕ
shares_of plans = sum share_size plans

-- 20, 32 and 20 in order, for every call; the book has tests of its own for them
unfoldable pub size_tests : Lent → List (Bool × ℕ)
size_tests l =
    (not (counted l.count), 20) ∷ (not (all in_range l.plans), 32) ∷ (not (eqb l.bytes (shares_of l.plans)), 20) ∷ []

-- none of them applies
unfoldable pub sized : Lent → Bool
sized l = counted l.count && (all in_range l.plans && eqb l.bytes (shares_of l.plans))

-- and 21 for a call of client k
unfoldable pub ask_tests : Lent → ℕ → List (Bool × ℕ)
ask_tests l k = size_tests l ++ (leb l.count k, 21) ∷ []

abbrev pub record_of : ℕ → Table → Client
record_of k t = get_or t.records k blank_client

-- "each client's share follows the shares before it"
unfoldable pub share_start : ℕ → List ℕ → ℕ
share_start k plans = shares_of (take k plans)

-- client k's share of the store
abbrev pub share_of : ℕ → Table → List ℕ
share_of k t = part (share_start k (plans_of t.records)) (share_size (record_of k t).plan) t.store

-- what a call leaves and answers
pub record After : Type 0 where
  pub table : Table
  pub out : List ℕ
  pub reply : Reply

-- a refusal changes nothing
abbrev pub refuse_or : Table → List ℕ → Option ℕ → After → After
refuse_or t out none r = r
refuse_or t out (some n) r = record { table = t; out = out; reply = refused n }

-- "Set-up makes all records fresh .., leaves the store"; each plan it "reads .. and keeps"
abbrev pub cleared : Table → Table
cleared t = record { records = map (λ c. fresh_client c.plan) t.records; store = t.store }

-- set-up: 20, 32, 20, or all records fresh
unfoldable pub reset_on : Table → After
reset_on t = refuse_or t [] (first_of (size_tests (lent_of t))) (record { table = cleared t; out = []; reply = ready })

-- client k's record and share of the store are what its call left; all else stays
abbrev pub put_back : ℕ → Outcome → Table → Table
put_back k o t = record { records = set t.records k o.client; store = overlay t.store (share_start k (plans_of t.records)) o.share }

-- what the client's own rules leave, in its place
abbrev pub after_call : ℕ → Outcome → Table → After
after_call k o t = record { table = put_back k o t; out = o.out; reply = o.reply }

-- the out buffer that a call lends
abbrev pub out_lent : Ask → List ℕ
out_lent (offering o bytes out) = out
out_lent (advancing t) = []
out_lent accounting = []

-- a call of client k: 20, 32, 20, 21, then the client's own rules on its record and share
unfoldable pub ask_on : ℕ → Ask → Table → After
ask_on k a t = refuse_or t (out_lent a) (first_of (ask_tests (lent_of t) k)) (after_call k (call_on (record_of k t) (share_of k t) a) t)

-- ---- what the calls' contracts say: the answer in the paper's numbers and values, and all that was lent

abbrev pub table_of : List Client → List ℕ → Table
table_of records store = record { records = records; store = store }

-- a call that is lent everything leaves what `a` has
pub record Leaves (a : After) (answer : Result Answer Refusal) (records : List Client) (store out : List ℕ) : Type 0 where
  pub answers : reply_of answer ≡ a.reply
  pub records_left : records ≡ a.table.records
  pub store_left : store ≡ a.table.store
  pub out_left : out ≡ a.out
