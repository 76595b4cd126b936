-- Demand 3 part by part, for readers who look for one of them by name. Each is a part of `demand-3`, or follows from it at once.
-- Assumes nothing.
use Prim.Native.Nat.{ℕ, ◌<◌}
use mathlib.Core.Path.{◌≡◌, ap, ◌∙◌}
use mathlib.Core.List.{List, [], ◌∷◌, ◌++◌}
use mathlib.Core.Logic.{◌↔◌}
use lib.ListN.{length}
use Rattle.client_reassembly.specs.declared.Arrival.{Arrival}
use Rattle.client_reassembly.specs.Answer.{delivered, account}
use Rattle.client_reassembly.specs.Advance.{figures}
use Rattle.client_ledger.specs.Book as Book
use Rattle.client_ledger.specs.Stands.{offer_of}
use Rattle.client_ledger.specs.History.{offering, accounting}
use Rattle.client_ledger.specs.Whole.{Whole, handed, Taken, assembled}
use Rattle.client_ledger.proofs.Theorem.{one-client-theorem}
use Rattle.table_rules.specs.Table.{Table, lent_of, share_of, record_of, After, ask_on}
use Rattle.table_rules.specs.Events.{Event, gives, Keeps, own_only}
use Rattle.table_rules.specs.Apart.{Sums}
use Rattle.table_rules.specs.Demand3.{Terms, opening, table_after, book_after}
use Rattle.table_rules.proofs.Facts.{granted-is}
use Rattle.table_rules.proofs.Demand3.{stands-all, demand-3}

-- ---- after every call: what is in front of any list that keeps the terms keeps them

keeps-front : (es fs : List Event) → Keeps (es ++ fs) → Keeps es
keeps-front [] fs k = tt
keeps-front (e ∷ es) fs k = (k.0, keeps-front es fs k.1)

pub terms-front : (t : Table) (es fs : List Event) → Terms t (es ++ fs) → Terms t es
terms-front t es fs terms = record { fits = terms.fits; keeps = keeps-front es fs terms.keeps }

-- ---- figures

-- offered and the six figures in a record are the book's
pub figures-agree : (t : Table) (es : List Event) → Terms t es → (k : ℕ) → k < length (table_after t es).records
    → figures (record_of k (table_after t es)) ≡ Book.figures (book_after k t es)
figures-agree = demand-3.accounts

-- and so are those in a bill
pub bills-agree : (t : Table) (es : List Event) → Terms t es → (k : ℕ) → k < length (table_after t es).records
    → (ask_on k accounting (table_after t es)).reply ≡ account (Book.figures (book_after k t es))
bills-agree t es terms k h =
    let s = stands-all t es terms in
    ap (λ (a : After). a.reply) (granted-is k accounting (table_after t es) s.fit h)
    ∙ (one-client-theorem.each_call (record_of k (table_after t es)) (share_of k (table_after t es)) (book_after k t es) (s.each k h) accounting).reply

-- ---- the sum, after every call of a list

pub sum-after-every-call : (t : Table) (es fs : List Event) → Terms t (es ++ fs) → (k : ℕ) → k < length (table_after t es).records
    → Sums (record_of k (table_after t es))
sum-after-every-call t es fs terms = demand-3.sum t es (terms-front t es fs terms)

-- ---- delivery

-- taken and whole, hence delivered, and the other way round
pub delivered-exactly-when-whole : (t : Table) (es : List Event) → Terms t es → (k : ℕ) (o : Arrival) (bytes out : List ℕ) (n r : ℕ)
    → ((ask_on k (offering o bytes out) (table_after t es)).reply ≡ delivered n r)
    ↔ (Taken (lent_of (table_after t es)) k (offer_of o bytes) (length out) (book_after k t es)
    × Whole (assembled (offer_of o bytes) (book_after k t es)) n r)
delivered-exactly-when-whole = demand-3.delivery

-- delivered, hence out is these bytes and else as it was
pub delivered-bytes-in-out : (t : Table) (es : List Event) → Terms t es → (k : ℕ) (o : Arrival) (bytes out : List ℕ) (n r : ℕ)
    → (ask_on k (offering o bytes out) (table_after t es)).reply ≡ delivered n r
    → (ask_on k (offering o bytes out) (table_after t es)).out ≡ handed (assembled (offer_of o bytes) (book_after k t es)) n out
delivered-bytes-in-out = demand-3.delivered_bytes

-- ---- isolation

pub nothing-of-others-shows : (t : Table) (es es' : List Event) → Terms t es → Terms t es' → (k : ℕ) → own_only k es ≡ own_only k es'
    → (gives k t (opening es) ≡ gives k t (opening es'))
    × (record_of k (table_after t es) ≡ record_of k (table_after t es'))
    × (share_of k (table_after t es) ≡ share_of k (table_after t es'))
nothing-of-others-shows = demand-3.isolation
