-- Over every list of calls the record answers what the book answers, and leaves the same in out: each call keeps what the next one needs.
-- Assumes nothing.
use Prim.Native.Nat.{ℕ, ◌≤◌}
use mathlib.Core.Path.{◌≡◌, refl, ap₂}
use mathlib.Core.List.{List, [], ◌∷◌}
use lib.ListN.{length}
use Rattle.client_record.specs.declared.Client.{Client}
use Rattle.client_record.specs.Limits.{assembly_limit, share_size}
use Rattle.client_record.specs.Record.{fresh_client}
use Rattle.client_ledger.specs.Book.{Book, empty, call}
use Rattle.client_ledger.specs.Stands.{Stands}
use Rattle.client_ledger.specs.OneClient.{OneClient}
use Rattle.client_ledger.specs.History.{Ask, Given, call_on, record_gives}
use Rattle.client_ledger.specs.Bookkeeping.{call_of, book_gives}

module _ (theorem : OneClient) where
  history : (rest : List Ask) (c : Client) (share : List ℕ) (b : Book) → Stands c share b → record_gives c share rest ≡ book_gives b rest
  unfolding record_gives book_gives
  history [] c share b st = refl
  history (a ∷ rest) c share b st =
      let f = theorem.each_call c share b st a in
      let first : ◌≡◌ {A = Given} (record { reply = (call_on c share a).reply; out = (call_on c share a).out })
      (record { reply = (call (call_of a) b).reply; out = (call (call_of a) b).out }) = λ i. record { reply = f.reply i; out = f.out i } in
      ap₂ ◌∷◌ first (history rest (call_on c share a).client (call_on c share a).share (call (call_of a) b).book f.stands)

  pub whole-history : (plan : ℕ) → plan ≤ assembly_limit → (share : List ℕ) → length share ≡ share_size plan → (asks : List Ask)
      → record_gives (fresh_client plan) share asks ≡ book_gives (empty plan) asks
  whole-history plan le share h asks = history asks (fresh_client plan) share (empty plan) (theorem.fresh plan share le h)
