-- The one-client theorem, with no premise: the record's own rules keep the record test passing, so each call can be followed by the next.
-- Assumes nothing.
use mathlib.Core.Path.{◌≡◌}
use mathlib.Core.List.{List}
use lib.ListN.{length}
use Prim.Native.Nat.{ℕ, ◌≤◌}
use Rattle.client_record.specs.Limits.{assembly_limit, share_size}
use Rattle.client_record.specs.Record.{fresh_client}
use Rattle.client_reassembly.proofs.Lasting.{fragment-call-sound}
use Rattle.client_ledger.specs.Book.{empty}
use Rattle.client_ledger.specs.OneClient.{Lasts, OneClient}
use Rattle.client_ledger.specs.History.{Ask, record_gives}
use Rattle.client_ledger.specs.Bookkeeping.{book_gives}
use Rattle.client_ledger.proofs.OneClient.{one-client}
use Rattle.client_ledger.proofs.History.{whole-history}

lasts : Lasts
unfolding Lasts
lasts c share out o bytes sound shape = fragment-call-sound c share out o bytes sound shape.lists

-- a client's record and share do, call after call, what its plain book does
pub one-client-theorem : OneClient
one-client-theorem = one-client lasts

-- over every list of calls from a fresh record of any plan: every answer and every out buffer is the book's
pub every-history : (plan : ℕ) → plan ≤ assembly_limit → (share : List ℕ) → length share ≡ share_size plan → (asks : List Ask)
    → record_gives (fresh_client plan) share asks ≡ book_gives (empty plan) asks
every-history = whole-history one-client-theorem
