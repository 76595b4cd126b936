-- Demand 3, as one claim over every list of calls.
use Rattle.std.specs.Prelude.{ℕ, ◌<◌, ◌≡◌, true, List, ◌∷◌, ◌++◌, ◌↔◌, length}
use Rattle.number_octets.specs.Octets.{part}
use Rattle.client_reassembly.specs.declared.Arrival.{Arrival}
use Rattle.client_reassembly.specs.Answer.{refused, delivered}
use Rattle.client_reassembly.specs.Advance.{figures}
use Rattle.client_ledger.specs.Book as Book
use Rattle.client_ledger.specs.Book.{Book, Content, size}
use Rattle.client_ledger.specs.Lent.{since, book_of}
use Rattle.client_ledger.specs.Stands.{offer_of}
use Rattle.client_ledger.specs.History.{Ask, offering}
use Rattle.client_ledger.specs.Whole.{Whole, handed, Taken, assembled}
use Rattle.table_rules.specs.Table.{Table, lent_of, sized, share_of, record_of, ask_on}
use Rattle.table_rules.specs.Events.{Event, resetting, current, final, gives, Keeps, own_only}
use Rattle.table_rules.specs.Owed.{history, owes}
use Rattle.table_rules.specs.Apart.{Sums}

-- the list opens with a set-up that is taken: 20 and 32 let the table pass, and the calls behind it keep the terms
pub record Terms (t : Table) (es : List Event) : Type 0 where
  pub fits : sized (lent_of t) ≡ true
  pub keeps : Keeps es

-- the set-up and what follows it
abbrev pub opening : List Event → List Event
opening es = resetting current ∷ es

-- the table after the list
abbrev pub table_after : Table → List Event → Table
table_after t es = final t (opening es)

-- client k's plain book after the list, from its own calls alone
abbrev pub book_after : ℕ → Table → List Event → Book
book_after k t es = book_of (history k (lent_of t) (since k (lent_of t)) (opening es))

pub record Demand3 : Type 0 where
  -- every answer and every byte of out is the book's
  pub answers : (t : Table) (es : List Event) → Terms t es → (k : ℕ) → gives k t (opening es)
      ≡ owes k (lent_of t) (since k (lent_of t)) (opening es)
  -- offered and the six figures are the book's
  pub accounts : (t : Table) (es : List Event) → Terms t es → (k : ℕ) → k < length (table_after t es).records
      → figures (record_of k (table_after t es)) ≡ Book.figures (book_after k t es)
  pub sum : (t : Table) (es : List Event) → Terms t es → (k : ℕ) → k < length (table_after t es).records → Sums (record_of k (table_after t es))
  -- a datagram is handed out exactly when the fragment is taken and with it the client's open fragments of its key are whole
  pub delivery : (t : Table) (es : List Event) → Terms t es → (k : ℕ) (o : Arrival) (bytes out : List ℕ) (n r : ℕ)
      → ((ask_on k (offering o bytes out) (table_after t es)).reply ≡ delivered n r)
      ↔ (Taken (lent_of (table_after t es)) k (offer_of o bytes) (length out) (book_after k t es)
      × Whole (assembled (offer_of o bytes) (book_after k t es)) n r)
  -- then the bytes of out before n are theirs, and the rest of out is as it was
  pub delivered_bytes : (t : Table) (es : List Event) → Terms t es → (k : ℕ) (o : Arrival) (bytes out : List ℕ) (n r : ℕ)
      → (ask_on k (offering o bytes out) (table_after t es)).reply ≡ delivered n r
      → (ask_on k (offering o bytes out) (table_after t es)).out ≡ handed (assembled (offer_of o bytes) (book_after k t es)) n out
  -- that is, the bytes of each of those fragments stand in out at its place
  pub placed : (t : Table) (es : List Event) → Terms t es → (k : ℕ) (o : Arrival) (bytes out : List ℕ) (n r : ℕ)
      → (ask_on k (offering o bytes out) (table_after t es)).reply ≡ delivered n r
      → (before : List Content) (g : Content) (behind : List Content)
      → assembled (offer_of o bytes) (book_after k t es) ≡ before ++ g ∷ behind
      → part g.place (size g) (ask_on k (offering o bytes out) (table_after t es)).out ≡ g.bytes
  -- with any other answer out is as it was
  pub untouched : (t : Table) (es : List Event) → Terms t es → (k : ℕ) (o : Arrival) (bytes out : List ℕ)
      → ((n r : ℕ) → (ask_on k (offering o bytes out) (table_after t es)).reply ≡ delivered n r → ⊥)
      → (ask_on k (offering o bytes out) (table_after t es)).out ≡ out
  -- two lists that differ in other clients' calls alone leave client k the same answers, bytes, record and share of the store
  pub isolation : (t : Table) (es es' : List Event) → Terms t es → Terms t es' → (k : ℕ) → own_only k es ≡ own_only k es'
      → (gives k t (opening es) ≡ gives k t (opening es'))
      × (record_of k (table_after t es) ≡ record_of k (table_after t es'))
      × (share_of k (table_after t es) ≡ share_of k (table_after t es'))
  -- refusal 22 never comes
  pub sound : (t : Table) (es : List Event) → Terms t es → (k : ℕ) (a : Ask) → (ask_on k a (table_after t es)).reply ≡ refused 22 → ⊥
