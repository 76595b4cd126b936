-- The book's tests for 20, 32, 21 and 29 at their limits, computed. Document 01's own figures are in `claim_figures`.
-- Assumes nothing.
use Prim.Native.Nat.{ℕ, zero, suc, ◌+◌, ◌-◌, ◌*◌}
use mathlib.Core.Path.{◌≡◌, refl}
use mathlib.Core.Bool.{true, false}
use mathlib.Core.List.{List, [], ◌∷◌}
use mathlib.Core.Option.{Option, none, some}
use lib.ListN.{length, replicate}
use Rattle.number_tests.specs.Tests.{first_of}
use Rattle.client_record.specs.Limits.{address_size, datagram_limit, assembly_limit, client_limit}
use Rattle.client_record.specs.Lists.{same_bytes, any, sum}
use Rattle.client_record.specs.Record.{fresh_flow, same_flow}
use Rattle.client_ledger.specs.Book.{Entry, Book, empty, same_key, of, mine, keys, storing, no_room}
use Rattle.client_ledger.specs.Lent.{count_off, plan_off, plans_off, store_off, table_tests, no_client, lent_tests, since, keeping, book_of}

-- 20, 32 and 21: which of them a call meets first, by the records' plans, store length and client
met-first : List ℕ → ℕ → ℕ → Option ℕ
met-first plans bytes k = first_of (lent_tests (record { count = length plans; bytes = bytes; plans = plans }) k)

-- pass: 12 records of plan 4 and their store, clients 0 and 11; 1 record; plans of different size
passing : met-first (replicate 12 4) (48 * 8192) 0
    ∷ met-first (replicate 12 4) (48 * 8192) 11
    ∷ met-first (1 ∷ []) 8192 0
    ∷ met-first (1 ∷ 8 ∷ 4 ∷ []) (13 * 8192) 0
    ∷ met-first (1 ∷ 8 ∷ 4 ∷ []) (13 * 8192) 2
    ∷ []
    ≡ replicate 5 none
unfolding met-first lent_tests table_tests count_off plan_off plans_off store_off no_client first_of any sum client_limit assembly_limit datagram_limit
passing = refl

-- 20 and 21: client 12; no record, 13 records, also with plans of 9; a byte too few or too many, a place too few; and 20 comes before 21
limits : met-first (replicate 12 4) (48 * 8192) 12
    ∷ met-first (1 ∷ 8 ∷ 4 ∷ []) (13 * 8192) 3
    ∷ met-first [] 0 0
    ∷ met-first (replicate 13 4) (52 * 8192) 0
    ∷ met-first (replicate 13 9) (117 * 8192) 0
    ∷ met-first (replicate 12 4) (48 * 8192 - 1) 0
    ∷ met-first (replicate 12 4) (48 * 8192 + 1) 0
    ∷ met-first (1 ∷ 8 ∷ 4 ∷ []) (12 * 8192) 0
    ∷ met-first (1 ∷ []) 8191 1
    ∷ []
    ≡ some 21 ∷ some 21 ∷ replicate 7 (some 20)
unfolding met-first lent_tests table_tests count_off plan_off plans_off store_off no_client first_of any sum client_limit assembly_limit datagram_limit
limits = refl

-- 32: a plan of 0 or 9, the client's own or another's; it comes before the store test and before 21
plan-limits : met-first (0 ∷ 4 ∷ []) (4 * 8192) 0
    ∷ met-first (4 ∷ 0 ∷ []) (4 * 8192) 0
    ∷ met-first (9 ∷ 4 ∷ []) (13 * 8192) 0
    ∷ met-first (4 ∷ 9 ∷ []) (13 * 8192) 0
    ∷ met-first (9 ∷ []) 8192 0
    ∷ met-first (9 ∷ []) (9 * 8192) 1
    ∷ []
    ≡ replicate 6 (some 32)
unfolding met-first lent_tests table_tests count_off plan_off plans_off store_off no_client first_of any sum client_limit assembly_limit datagram_limit
plan-limits = refl

-- ---- 29

-- a fragment of the n-th key
piece : ℕ → Entry
piece n = record {
  key = record { flow = fresh_flow; identification = n };
  time = 0;
  content = record { place = 0; bytes = 7 ∷ []; last = false; start = 0 };
}

-- the book of client 1 with this plan, and n keys open since the set-up
with_open : ℕ → ℕ → Book
with_open plan zero = book_of (since 1 (record { count = 2; bytes = (2 + plan) * 8192; plans = 2 ∷ plan ∷ [] }))
with_open plan (suc n) = storing (piece n) (with_open plan n)

-- a further key finds room while fewer keys are open than the plan allows; an open key always does
rooms : no_room (piece 9) (with_open 1 0)
    ∷ no_room (piece 9) (with_open 4 3)
    ∷ no_room (piece 9) (with_open 8 7)
    ∷ no_room (piece 0) (with_open 1 1)
    ∷ no_room (piece 7) (with_open 8 8)
    ∷ no_room (piece 9) (with_open 1 1)
    ∷ no_room (piece 9) (with_open 4 4)
    ∷ no_room (piece 9) (with_open 8 8)
    ∷ []
    ≡ false ∷ false ∷ false ∷ false ∷ false ∷ true ∷ true ∷ true ∷ []
unfolding piece with_open no_room mine keys of same_key same_flow same_bytes fresh_flow address_size any storing empty keeping book_of
rooms = refl
