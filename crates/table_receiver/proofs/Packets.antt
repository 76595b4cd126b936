-- A list of datagrams and calls does to the table what the list of its fragments and calls does, so demand 3 holds of it: a datagram that is no
-- fragment is no event.
-- Assumes nothing.
use Prim.Native.Nat.{ℕ, ◌<◌}
use mathlib.Core.Path.{◌≡◌, refl, sym, ap, subst, ◌∙◌}
use mathlib.Core.Bool.{Bool, true, false, cond}
use mathlib.Core.List.{List, [], ◌∷◌, ◌++◌}
use Rattle.std.specs.Prelude.{Option, Some, None}
use mathlib.Core.Logic.{◌↔◌}
use native.Mathlib.Omega.{arith}
use lib.Dec.{eqb}
use lib.ListN.{length}
use Rattle.number_octets.specs.Octets.{part}
use Rattle.client_reassembly.specs.Answer.{Reply, refused, delivered}
use Rattle.client_reassembly.specs.Advance.{figures}
use Rattle.wire_area.specs.declared.Fragment.{Fragment}
use Rattle.wire_datagram.specs.Reading as Reading
use Rattle.wire_datagram.specs.Reading.{Answer}
use Rattle.client_ledger.specs.Book as Book
use Rattle.client_ledger.specs.Book.{Content, size}
use Rattle.client_ledger.specs.Whole.{Whole, handed, Taken, assembled}
use Rattle.client_ledger.specs.Lent.{since}
use Rattle.client_ledger.specs.History.{Given}
use Rattle.table_rules.specs.Table.{Table, lent_of, share_of, record_of, ask_on}
use Rattle.table_rules.specs.Events.{current, another, Event, resetting, asking, table_for, next, final, given_by, gives, own_only}
use Rattle.table_rules.specs.Owed.{owes}
use Rattle.table_rules.specs.Apart.{Sums}
use Rattle.table_rules.specs.Demand3 as Table
use Rattle.table_rules.specs.Demand3.{Terms}
use Rattle.table_rules.proofs.Demand3.{demand-3}
use Rattle.table_receiver.specs.Receive.{piece_in, arrival_of, bytes_of, Packet, reading_of, offer_of, offered, Receipt, fate_of, receiving, receive_on}
use Rattle.table_receiver.specs.Packets.{
  Call,
  set_up,
  arriving,
  calling,
  after,
  finally,
  answer_to,
  answer_by,
  answered_to,
  answers_to,
  offers,
  events_of,
  all_events,
  own_if,
  own_calls,
}
use Rattle.table_receiver.proofs.Facts.{received, not-received}
use Rattle.table_receiver.specs.Packets.{opening, table_after, book_from, offer_in, OverPayloads}

-- ---- the same tables

after_is : (t : Table) (c : Call) → after t c ≡ final t (events_of c)
unfolding final receive_on
after_is t (set_up g) = refl
after_is t (arriving current k p out) = go (piece_in (reading_of p))
  where
    go : (o : Option Fragment) → (receiving k p out t o).table ≡ final t (offers current k p out o)
    go None = refl
    go (Some f) = refl
after_is t (arriving (another u) k p out) = go (piece_in (reading_of p))
  where
    go : (o : Option Fragment) → t ≡ final t (offers (another u) k p out o)
    go None = refl
    go (Some f) = refl
after_is t (calling g k a) = refl

final-append : (xs ys : List Event) (t : Table) → final t (xs ++ ys) ≡ final (final t xs) ys
unfolding final
final-append [] ys t = refl
final-append (x ∷ xs) ys t = final-append xs ys (next t x)

finally-is : (cs : List Call) (t : Table) → finally t cs ≡ final t (all_events cs)
unfolding finally all_events final
finally-is [] t = refl
finally-is (c ∷ cs) t = finally-is cs (after t c) ∙ ap (λ (u : Table). final u (all_events cs)) (after_is t c) ∙ sym (final-append (events_of c) (all_events cs) t)

-- ---- the same answers

-- the reader's answer tells the table nothing
reader-silent : (a : Answer) (out : List ℕ) → answer_to (fate_of a) out ≡ []
reader-silent (Reading.refused n) out = refl
reader-silent (Reading.reads r) out = refl

if_none : (x : Bool) → cond {A = List Given} x [] [] ≡ []
if_none true = refl
if_none false = refl

if-front : (x : Bool) (g : Given) (gs : List Given) → cond x (g ∷ []) [] ++ gs ≡ cond x (g ∷ gs) gs
if-front true g gs = refl
if-front false g gs = refl

answered-first : (k : ℕ) (t : Table) (c : Call) (es : List Event) → answered_to k t c ++ gives k (final t (events_of c)) es ≡ gives k t (events_of c ++ es)
unfolding gives final receive_on
answered-first k t (set_up g) es = refl
answered-first k t (arriving g j p out) es = go (piece_in (reading_of p))
  where
    go : (o : Option Fragment)
        → cond (eqb j k) (answer_by (receiving j p out (table_for g t) o)) [] ++ gives k (final t (offers g j p out o)) es
        ≡ gives k t (offers g j p out o ++ es)
    go None =
        ap (λ (l : List Given). l ++ gives k t es)
        (ap (λ (l : List Given). cond (eqb j k) l []) (reader-silent (reading_of p) out) ∙ if_none (eqb j k))
    go (Some f) =
        if-front (eqb j k) (given_by (ask_on j (offer_of p f out) (table_for g t))) (gives k (next t (asking g j (offer_of p f out))) es)
answered-first k t (calling g j a) es = if-front (eqb j k) (given_by (ask_on j a (table_for g t))) (gives k (next t (asking g j a)) es)

tells_is : (k : ℕ) (cs : List Call) (t : Table) → answers_to k t cs ≡ gives k t (all_events cs)
unfolding answers_to all_events gives
tells_is k [] t = refl
tells_is k (c ∷ cs) t =
    ap (λ (l : List Given). answered_to k t c ++ l) (tells_is k cs (after t c) ∙ ap (λ (u : Table). gives k u (all_events cs)) (after_is t c))
    ∙ answered-first k t c (all_events cs)

-- ---- the same lists without other clients' calls

own-append : (k : ℕ) (xs ys : List Event) → own_only k (xs ++ ys) ≡ own_only k xs ++ own_only k ys
unfolding own_only
own-append k [] ys = refl
own-append k (resetting g ∷ xs) ys = ap (λ (l : List Event). resetting g ∷ l) (own-append k xs ys)
own-append k (asking g j a ∷ xs) ys = go (eqb j k) (own-append k xs ys)
  where
    go : (x : Bool) → own_only k (xs ++ ys) ≡ own_only k xs ++ own_only k ys
        → cond x (asking g j a ∷ own_only k (xs ++ ys)) (own_only k (xs ++ ys)) ≡ cond x (asking g j a ∷ own_only k xs) (own_only k xs) ++ own_only k ys
    go true ih = ap (λ (l : List Event). asking g j a ∷ l) ih
    go false ih = ih

own-call : (k : ℕ) (c : Call) (cs : List Call) → own_only k (events_of c) ++ all_events cs ≡ all_events (own_if k c cs)
unfolding own_only all_events
own-call k (set_up g) cs = refl
own-call k (arriving g j p out) cs = go (eqb j k) refl (piece_in (reading_of p)) refl
  where
    go : (x : Bool) → eqb j k ≡ x → (o : Option Fragment) → piece_in (reading_of p) ≡ o
        → own_only k (offers g j p out o) ++ all_events cs ≡ all_events (cond x (arriving g j p out ∷ cs) cs)
    go true e None q = ap (λ (o : Option Fragment). offers g j p out o ++ all_events cs) (sym q)
    go true e (Some f) q =
        ap (λ (x : Bool). cond x (asking g j (offer_of p f out) ∷ []) [] ++ all_events cs) e
        ∙ ap (λ (o : Option Fragment). offers g j p out o ++ all_events cs) (sym q)
    go false e None q = refl
    go false e (Some f) q = ap (λ (x : Bool). cond x (asking g j (offer_of p f out) ∷ []) [] ++ all_events cs) e
own-call k (calling g j a) cs = go (eqb j k)
  where
    go : (x : Bool) → cond x (asking g j a ∷ []) [] ++ all_events cs ≡ all_events (cond x (calling g j a ∷ cs) cs)
    go true = refl
    go false = refl

own-events : (k : ℕ) (cs : List Call) → own_only k (all_events cs) ≡ all_events (own_calls k cs)
unfolding own_calls all_events own_only
own-events k [] = refl
own-events k (c ∷ cs) =
    own-append k (events_of c) (all_events cs) ∙ ap (λ (l : List Event). own_only k (events_of c) ++ l) (own-events k cs) ∙ own-call k c (own_calls k cs)

-- ---- the claim

module _ (t : Table) (cs : List Call) (terms : Terms t (all_events cs)) where
  table_is : table_after t cs ≡ Table.table_after t (all_events cs)
  unfolding all_events
  table_is = finally-is (opening cs) t

  answers-owed : (k : ℕ) → answers_to k t (opening cs) ≡ owes k (lent_of t) (since k (lent_of t)) (Table.opening (all_events cs))
  unfolding all_events
  answers-owed k = tells_is k (opening cs) t ∙ demand-3.answers t (all_events cs) terms k

  figures-same : (k : ℕ) → k < length (table_after t cs).records → figures (record_of k (table_after t cs)) ≡ Book.figures (book_from k t cs)
  figures-same k h =
      ap (λ (u : Table). figures (record_of k u)) table_is
      ∙ demand-3.accounts t (all_events cs) terms k (subst (λ (u : Table). k < length u.records) table_is h)

  sums : (k : ℕ) → k < length (table_after t cs).records → Sums (record_of k (table_after t cs))
  sums k h =
      subst (λ (u : Table). Sums (record_of k u)) (sym table_is)
      (demand-3.sum t (all_events cs) terms k (subst (λ (u : Table). k < length u.records) table_is h))

module _ (t : Table) (cs : List Call) (terms : Terms t (all_events cs)) (k : ℕ) (p : Packet) (out : List ℕ) where
  module _ (f : Fragment) (e : piece_in (reading_of p) ≡ Some f) where
    fate-is : (receive_on k p out (table_after t cs)).fate ≡ offered (ask_on k (offer_of p f out) (Table.table_after t (all_events cs))).reply
    fate-is =
        ap (λ (x : Receipt). x.fate) (received k p out (table_after t cs) f e)
        ∙ ap (λ (u : Table). offered (ask_on k (offer_of p f out) u).reply) (table_is t cs terms)

    out-is : (receive_on k p out (table_after t cs)).out ≡ (ask_on k (offer_of p f out) (Table.table_after t (all_events cs))).out
    out-is =
        ap (λ (x : Receipt). x.out) (received k p out (table_after t cs) f e)
        ∙ ap (λ (u : Table). (ask_on k (offer_of p f out) u).out) (table_is t cs terms)

    reply-of : (r : Reply) → (receive_on k p out (table_after t cs)).fate ≡ offered r
        → (ask_on k (offer_of p f out) (Table.table_after t (all_events cs))).reply ≡ r
    reply-of r q = let same : offered (ask_on k (offer_of p f out) (Table.table_after t (all_events cs))).reply ≡ offered r = sym fate-is ∙ q in cc

    delivered-when : (n r : ℕ)
        → ((receive_on k p out (table_after t cs)).fate ≡ offered (delivered n r))
        ↔ (Taken (lent_of (table_after t cs)) k (offer_in p f) (length out) (book_from k t cs) × Whole (assembled (offer_in p f) (book_from k t cs)) n r)
    delivered-when n r =
        let both =
        demand-3.delivery t (all_events cs) terms k (arrival_of p.payload p.source p.destination p.time f) (bytes_of p.payload f) out n r in
        let there = both.0 in
        let back = both.1 in (
          λ d.
              let w = there (reply-of (delivered n r) d) in
              (subst (λ (u : Table). Taken (lent_of u) k (offer_in p f) (length out) (book_from k t cs)) (sym (table_is t cs terms)) w.0, w.1),
          λ w.
              fate-is
              ∙ ap offered
              (back (subst (λ (u : Table). Taken (lent_of u) k (offer_in p f) (length out) (book_from k t cs)) (table_is t cs terms) w.0, w.1)),
        )

    bytes-delivered : (n r : ℕ) → (receive_on k p out (table_after t cs)).fate ≡ offered (delivered n r)
        → (receive_on k p out (table_after t cs)).out ≡ handed (assembled (offer_in p f) (book_from k t cs)) n out
    bytes-delivered n r d =
        out-is
        ∙ demand-3.delivered_bytes t (all_events cs) terms k (arrival_of p.payload p.source p.destination p.time f)
        (bytes_of p.payload f) out n r (reply-of (delivered n r) d)

    placed-each : (n r : ℕ) → (receive_on k p out (table_after t cs)).fate ≡ offered (delivered n r)
        → (before : List Content) (g : Content) (behind : List Content) → assembled (offer_in p f) (book_from k t cs) ≡ before ++ g ∷ behind
        → part g.place (size g) (receive_on k p out (table_after t cs)).out ≡ g.bytes
    placed-each n r d before g behind same =
        ap (part g.place (size g)) out-is
        ∙ demand-3.placed t (all_events cs) terms k (arrival_of p.payload p.source p.destination p.time f) (bytes_of p.payload f) out n r
        (reply-of (delivered n r) d) before g behind same

  left_alone : ((n r : ℕ) → (receive_on k p out (table_after t cs)).fate ≡ offered (delivered n r) → ⊥) → (receive_on k p out (table_after t cs)).out ≡ out
  left_alone never = go (piece_in (reading_of p)) refl
    where
      go : (o : Option Fragment) → piece_in (reading_of p) ≡ o → (receive_on k p out (table_after t cs)).out ≡ out
      go None e = ap (λ (x : Receipt). x.out) (not-received k p out (table_after t cs) e)
      go (Some f) e =
          out-is f e
          ∙ demand-3.untouched t (all_events cs) terms k (arrival_of p.payload p.source p.destination p.time f) (bytes_of p.payload f) out
          (λ n r d. never n r (fate-is f e ∙ ap offered d))

  never-22 : (receive_on k p out (table_after t cs)).fate ≡ offered (refused 22) → ⊥
  never-22 q = go (piece_in (reading_of p)) refl
    where
      silent : (a : Answer) → fate_of a ≡ offered (refused 22) → ⊥
      silent (Reading.refused n) e = let z : ◌≡◌ {A = ℕ} 0 1 = cc in omega arith
      silent (Reading.reads r) e = let z : ◌≡◌ {A = ℕ} 0 1 = cc in omega arith

      go : (o : Option Fragment) → piece_in (reading_of p) ≡ o → ⊥
      go None e = silent (reading_of p) (sym (ap (λ (x : Receipt). x.fate) (not-received k p out (table_after t cs) e)) ∙ q)
      go (Some f) e = demand-3.sound t (all_events cs) terms k (offer_of p f out) (reply-of f e (refused 22) q)

isolated : (t : Table) (cs cs' : List Call) → Terms t (all_events cs) → Terms t (all_events cs') → (k : ℕ) → own_calls k cs ≡ own_calls k cs'
    → (answers_to k t (opening cs) ≡ answers_to k t (opening cs'))
    × (record_of k (table_after t cs) ≡ record_of k (table_after t cs'))
    × (share_of k (table_after t cs) ≡ share_of k (table_after t cs'))
unfolding all_events
isolated t cs cs' terms terms' k same =
    let i =
    demand-3.isolation t (all_events cs) (all_events cs') terms terms' k (own-events k cs ∙ ap all_events same ∙ sym (own-events k cs')) in (
      tells_is k (opening cs) t ∙ i.0 ∙ sym (tells_is k (opening cs') t),
      ap (record_of k) (table_is t cs terms) ∙ i.1 ∙ sym (ap (record_of k) (table_is t cs' terms')),
      ap (share_of k) (table_is t cs terms) ∙ i.2 ∙ sym (ap (share_of k) (table_is t cs' terms')),
    )

-- demand 3 for lists of datagrams as they arrive, mixed with the table's calls
pub demand-3-over-payloads : OverPayloads
demand-3-over-payloads = record {
  no_fragment = not-received;
  events = table_is;
  answers = answers-owed;
  accounts = figures-same;
  sum = sums;
  delivery = λ t cs terms k p out f n r e. delivered-when t cs terms k p out f e n r;
  delivered_bytes = λ t cs terms k p out f n r e. bytes-delivered t cs terms k p out f e n r;
  placed = λ t cs terms k p out f n r e. placed-each t cs terms k p out f e n r;
  untouched = left_alone;
  isolation = isolated;
  sound = never-22;
}
