-- Demand 3 over demand 2's reading: lists in which `receive` and the table's four calls may be mixed. The fragments are those that `reading` finds in
-- payloads as they arrive, and those that a host offers itself.
use Rattle.std.specs.Prelude.{ℕ, ◌<◌, ◌≡◌, List, [], ◌∷◌, ◌++◌, ◌↔◌, eqb, length, cond, Option, Some, None}
use Rattle.number_octets.specs.Octets.{part}
use Rattle.client_reassembly.specs.Answer.{refused, delivered}
use Rattle.client_reassembly.specs.Advance.{figures}
use Rattle.wire_area.specs.declared.Fragment.{Fragment}
use Rattle.client_ledger.specs.Book as Book
use Rattle.client_ledger.specs.Book.{Book, Content, size, Offer}
use Rattle.client_ledger.specs.Stands as Stands
use Rattle.client_ledger.specs.Whole.{Whole, handed, Taken, assembled}
use Rattle.client_ledger.specs.Lent.{since}
use Rattle.client_ledger.specs.History.{Ask, Given}
use Rattle.table_rules.specs.Table.{Table, lent_of, share_of, record_of, reset_on, ask_on}
use Rattle.table_rules.specs.Events.{Lending, current, another, Event, resetting, asking, table_for, next, given_by}
use Rattle.table_rules.specs.Owed.{owes}
use Rattle.table_rules.specs.Apart.{Sums}
use Rattle.table_rules.specs.Demand3 as Table
use Rattle.table_rules.specs.Demand3.{Terms, book_after}
use Rattle.table_receiver.specs.Receive.{
  piece_in,
  arrival_of,
  bytes_of,
  Packet,
  reading_of,
  offer_of,
  Fate,
  unread,
  whole,
  offered,
  Receipt,
  fate_of,
  receive_on,
}

-- a set-up, a datagram that arrives for a client, with an out buffer, or a fragment, clock or account call of a client
pub data Call : Type 0 where
  set_up : Lending → Call
  arriving : Lending → ℕ → Packet → List ℕ → Call
  calling : Lending → ℕ → Ask → Call

-- ---- what the calls do

-- the current table after a call
abbrev pub after : Table → Call → Table
after t (set_up g) = next t (resetting g)
after t (arriving current k p out) = (receive_on k p out t).table
after t (arriving (another u) k p out) = t
after t (calling g k a) = next t (asking g k a)

unfoldable pub finally : Table → List Call → Table
finally t [] = t
finally t (c ∷ cs) = finally (after t c) cs

-- the table's answer to a fragment, with out
abbrev pub answer_to : Fate → List ℕ → List Given
answer_to (unread n) out = []
answer_to (whole r) out = []
answer_to (offered reply) out = record { reply = reply; out = out } ∷ []

abbrev pub answer_by : Receipt → List Given
answer_by o = answer_to o.fate o.out

-- what the table answered to client k's fragments, clocks and accounts, and to the set-ups
abbrev pub answered_to : ℕ → Table → Call → List Given
answered_to k t (set_up g) = given_by (reset_on (table_for g t)) ∷ []
answered_to k t (arriving g j p out) = cond (eqb j k) (answer_by (receive_on j p out (table_for g t))) []
answered_to k t (calling g j a) = cond (eqb j k) (given_by (ask_on j a (table_for g t)) ∷ []) []

unfoldable pub answers_to : ℕ → Table → List Call → List Given
answers_to k t [] = []
answers_to k t (c ∷ cs) = answered_to k t c ++ answers_to k (after t c) cs

-- ---- the table's events in such a list

-- a datagram that is no fragment is none
abbrev pub offers : Lending → ℕ → Packet → List ℕ → Option Fragment → List Event
offers g k p out None = []
offers g k p out (Some f) = asking g k (offer_of p f out) ∷ []

abbrev pub events_of : Call → List Event
events_of (set_up g) = resetting g ∷ []
events_of (arriving g k p out) = offers g k p out (piece_in (reading_of p))
events_of (calling g k a) = asking g k a ∷ []

unfoldable pub all_events : List Call → List Event
all_events [] = []
all_events (c ∷ cs) = events_of c ++ all_events cs

-- a list without the calls of clients other than k
abbrev pub own_if : ℕ → Call → List Call → List Call
own_if k (set_up g) cs = set_up g ∷ cs
own_if k (arriving g j p out) cs = cond (eqb j k) (arriving g j p out ∷ cs) cs
own_if k (calling g j a) cs = cond (eqb j k) (calling g j a ∷ cs) cs

unfoldable pub own_calls : ℕ → List Call → List Call
own_calls k [] = []
own_calls k (c ∷ cs) = own_if k c (own_calls k cs)

-- ---- the claim

abbrev pub opening : List Call → List Call
opening cs = set_up current ∷ cs

abbrev pub table_after : Table → List Call → Table
table_after t cs = finally t (opening cs)

-- client k's plain book after the list: its history has the fragments that were read, and its other calls
abbrev pub book_from : ℕ → Table → List Call → Book
book_from k t cs = book_after k t (all_events cs)

-- the fragment of a packet as the book has it
abbrev pub offer_in : Packet → Fragment → Offer
offer_in p f = Stands.offer_of (arrival_of p.payload p.source p.destination p.time f) (bytes_of p.payload f)

pub record OverPayloads : Type 0 where
  -- a datagram that is no fragment leaves every record, the store and out as they were
  pub no_fragment : (k : ℕ) (p : Packet) (out : List ℕ) (t : Table) → piece_in (reading_of p) ≡ None
      → receive_on k p out t ≡ record { table = t; out = out; fate = fate_of (reading_of p) }
  -- the table after a mixed list is the one that its fragments and its other calls leave: so what demand 3 says of any call that follows holds here
  pub events : (t : Table) (cs : List Call) → Terms t (all_events cs) → table_after t cs ≡ Table.table_after t (all_events cs)
  pub answers : (t : Table) (cs : List Call) → Terms t (all_events cs) → (k : ℕ)
      → answers_to k t (opening cs) ≡ owes k (lent_of t) (since k (lent_of t)) (Table.opening (all_events cs))
  pub accounts : (t : Table) (cs : List Call) → Terms t (all_events cs) → (k : ℕ) → k < length (table_after t cs).records
      → figures (record_of k (table_after t cs)) ≡ Book.figures (book_from k t cs)
  pub sum : (t : Table) (cs : List Call) → Terms t (all_events cs) → (k : ℕ) → k < length (table_after t cs).records
      → Sums (record_of k (table_after t cs))
  -- of a datagram that follows: its fragment is delivered exactly when it is taken and whole
  pub delivery : (t : Table) (cs : List Call) → Terms t (all_events cs) → (k : ℕ) (p : Packet) (out : List ℕ) (f : Fragment) (n r : ℕ)
      → piece_in (reading_of p) ≡ Some f
      → ((receive_on k p out (table_after t cs)).fate ≡ offered (delivered n r))
      ↔ (Taken (lent_of (table_after t cs)) k (offer_in p f) (length out) (book_from k t cs) × Whole (assembled (offer_in p f) (book_from k t cs)) n r)
  -- then the bytes of out before n are the original's, and the rest of out is as it was
  pub delivered_bytes : (t : Table) (cs : List Call) → Terms t (all_events cs) → (k : ℕ) (p : Packet) (out : List ℕ) (f : Fragment) (n r : ℕ)
      → piece_in (reading_of p) ≡ Some f → (receive_on k p out (table_after t cs)).fate ≡ offered (delivered n r)
      → (receive_on k p out (table_after t cs)).out ≡ handed (assembled (offer_in p f) (book_from k t cs)) n out
  pub placed : (t : Table) (cs : List Call) → Terms t (all_events cs) → (k : ℕ) (p : Packet) (out : List ℕ) (f : Fragment) (n r : ℕ)
      → piece_in (reading_of p) ≡ Some f → (receive_on k p out (table_after t cs)).fate ≡ offered (delivered n r)
      → (before : List Content) (g : Content) (behind : List Content)
      → assembled (offer_in p f) (book_from k t cs) ≡ before ++ g ∷ behind
      → part g.place (size g) (receive_on k p out (table_after t cs)).out ≡ g.bytes
  pub untouched : (t : Table) (cs : List Call) → Terms t (all_events cs) → (k : ℕ) (p : Packet) (out : List ℕ)
      → ((n r : ℕ) → (receive_on k p out (table_after t cs)).fate ≡ offered (delivered n r) → ⊥)
      → (receive_on k p out (table_after t cs)).out ≡ out
  pub isolation : (t : Table) (cs cs' : List Call) → Terms t (all_events cs) → Terms t (all_events cs') → (k : ℕ)
      → own_calls k cs ≡ own_calls k cs'
      → (answers_to k t (opening cs) ≡ answers_to k t (opening cs'))
      × (record_of k (table_after t cs) ≡ record_of k (table_after t cs'))
      × (share_of k (table_after t cs) ≡ share_of k (table_after t cs'))
  pub sound : (t : Table) (cs : List Call) → Terms t (all_events cs) → (k : ℕ) (p : Packet) (out : List ℕ)
      → (receive_on k p out (table_after t cs)).fate ≡ offered (refused 22) → ⊥
