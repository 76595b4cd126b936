-- A client's calls on its record and share: what the record's own rules do with each, and what they answer to a list of calls. The book has no
-- part in this.
use Rattle.std.specs.Prelude.{ℕ, List, [], ◌∷◌}
use Rattle.client_record.specs.declared.Client.{Client}
use Rattle.client_reassembly.specs.declared.Arrival.{Arrival}
use Rattle.client_reassembly.specs.Answer.{Reply}
use Rattle.client_reassembly.specs.Advance.{CallResult, advance_on, account_on}
use Rattle.client_reassembly.specs.Offer.{Outcome, fragment_on}

-- the table that a call was lent: how many records, how many bytes of store, and the records' plans in order
pub record Lent : Type 0 where
  pub count : ℕ
  pub bytes : ℕ
  pub plans : List ℕ

-- a call on the record: a fragment with its bytes and an out buffer, the clock, the account
pub data Ask : Type 0 where
  offering : Arrival → List ℕ → List ℕ → Ask
  advancing : ℕ → Ask
  accounting : Ask

-- what the caller has after a call
pub record Given : Type 0 where
  pub reply : Reply
  pub out : List ℕ

-- a call that lends no out buffer
abbrev pub outcome : CallResult → List ℕ → Outcome
outcome t share = record { client = t.client; share = share; out = []; reply = t.reply }

abbrev pub call_on : Client → List ℕ → Ask → Outcome
call_on c share (offering o bytes out) = fragment_on c share out o bytes
call_on c share (advancing t) = outcome (advance_on c t) share
call_on c share accounting = outcome (account_on c) share

unfoldable pub record_gives : Client → List ℕ → List Ask → List Given
record_gives c share [] = []
record_gives c share (a ∷ rest) =
    let o = call_on c share a in
    record { reply = o.reply; out = o.out } ∷ record_gives o.client o.share rest
