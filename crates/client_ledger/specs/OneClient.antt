-- The one-client theorem's statement: a client's record and share do, call after call, what its plain book does.
use Rattle.std.specs.Prelude.{ℕ, ◌≤◌, ◌≡◌, true, List, length}
use Rattle.client_record.specs.declared.Client.{Client}
use Rattle.client_record.specs.Limits.{assembly_limit, share_size}
use Rattle.client_record.specs.Record.{fresh_client, sound_record}
use Rattle.client_reassembly.specs.declared.Arrival.{Arrival}
use Rattle.client_reassembly.specs.Answer.{refused}
use Rattle.client_reassembly.specs.Offer.{fragment_on}
use Rattle.client_ledger.specs.Book.{Book, empty, call}
use Rattle.client_ledger.specs.Shapes.{Shaped}
use Rattle.client_ledger.specs.Stands.{Stands, Fulfils}
use Rattle.client_ledger.specs.History.{Ask, call_on}
use Rattle.client_ledger.specs.Bookkeeping.{call_of}

-- the record test passes again after a fragment call: a fact of the record's own rules
unfoldable pub Lasts : Type 0
Lasts =
    (c : Client) (share out : List ℕ) (o : Arrival) (bytes : List ℕ) → sound_record c ≡ true → Shaped c share
    → sound_record (fragment_on c share out o bytes).client ≡ true

-- a fresh record of a plan stands for that plan's empty book; each call on a record that stands for a book answers what the book answers, leaves in out what
-- the book leaves there, and leaves a record and share that stand for the book after it; refusal 22 never comes
pub record OneClient : Type 0 where
  pub fresh : (plan : ℕ) (share : List ℕ) → plan ≤ assembly_limit → length share ≡ share_size plan → Stands (fresh_client plan) share (empty plan)
  pub each_call : (c : Client) (share : List ℕ) (b : Book) → Stands c share b → (a : Ask) → Fulfils (call_on c share a) (call (call_of a) b)
  pub never_22 : (c : Client) (share : List ℕ) (b : Book) → Stands c share b → (a : Ask) → (call_on c share a).reply ≡ refused 22 → ⊥
