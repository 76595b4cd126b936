-- What the reader's outcome tells the receiver: with a fragment its bytes lie in the payload and it is the one that `reading` finds; without one
-- there is none. And what `receive` leaves in either case.
-- Assumes nothing.
use Prim.Native.Nat.{ℕ, ◌≤◌}
use mathlib.Core.Path.{◌≡◌, refl, sym, ap, subst, ◌∙◌}
use mathlib.Core.List.{List}
use Rattle.std.specs.Prelude.{Some, None, Result, Ok}
use native.Mathlib.Omega.{arith}
use lib.ListN.{length}
use Rattle.number_offsets.specs.Offsets.{udp_header}
use Rattle.wire_nops.specs.declared.Strictness.{Strictness}
use Rattle.wire_area.specs.declared.Fragment.{Fragment}
use Rattle.wire_datagram.specs.Reading.{reading, reads}
use Rattle.wire_datagram.specs.declared.reading.Refusal.{Refusal}
use Rattle.wire_reading.specs.Packet.{PacketReading as Reading}
use Rattle.wire_reading.specs.declared.Verdict.{Verdict}
use Rattle.wire_reading.specs.declared.Verdict.TheVariants.{
  Bare,
  Short,
  Pad,
  Unsummed,
  BadSum,
  Malformed,
  Unsafe,
  FragData,
  Crowded,
  Tail,
  Padded,
  Read,
  Piece,
}
use Rattle.wire_datagram.proofs.Pieces.{Within, piece-within, read-header}
use Rattle.client_record.specs.declared.Client.{Client}
use Rattle.client_reassembly.specs.declared.Arrival.{Arrival}
use Rattle.client_reassembly.specs.declared.Answer.{Answer}
use Rattle.client_reassembly.specs.declared.Refusal.{Refusal as Turned}
use Rattle.client_ledger.specs.History.{offering}
use Rattle.table_rules.specs.Table as Table
use Rattle.table_rules.specs.Table.{Table, After, ask_on}
use Rattle.table_receiver.specs.declared.Received.{Received}
use Rattle.table_receiver.specs.declared.Received.TheVariants.{Fragment as Offered}
use Rattle.table_receiver.specs.Receive.{
  piece_of,
  piece_in,
  arrival_of,
  bytes_of,
  Packet,
  reading_of,
  offer_of,
  Receipt,
  fate_of,
  taking,
  receiving,
  receive_on,
  fate_in,
  Leaves,
  offered,
}

-- ---- what was found

pub record Met (how : Strictness) (p s d : List ℕ) (f : Fragment) : Type 0 where
  pub header : 4 ≤ length p
  pub within : Within p f
  pub is : piece_in (reading how p s d) ≡ Some f

-- a verdict that is not "piece" has no fragment
pub no-piece : (v : Verdict) → ((f : Fragment) → v ≡ Piece f → ⊥) → piece_of v ≡ None
no-piece Bare n = refl
no-piece Short n = refl
no-piece Pad n = refl
no-piece Unsummed n = refl
no-piece BadSum n = refl
no-piece (Malformed at) n = refl
no-piece (Unsafe at) n = refl
no-piece (FragData at) n = refl
no-piece (Crowded at) n = refl
no-piece (Tail at) n = refl
no-piece (Padded at) n = refl
no-piece Read n = refl
no-piece (Piece f) n = absurd (n f refl)

module _ (how : Strictness) (p s d : List ℕ) (r : Reading) (is : reads r ≡ reading how p s d) where
  pub met : (f : Fragment) → r.verdict ≡ Piece f → Met how p s d f
  unfolding udp_header
  met f v = record {
    header = let h = read-header how p s d r (sym is) in omega (arith, h);
    within = piece-within how p s d r f (sym is) v;
    is = ap piece_in (sym is) ∙ ap piece_of v;
  }

  pub met-other : ((f : Fragment) → r.verdict ≡ Piece f → ⊥) → piece_in (reading how p s d) ≡ None
  met-other n = ap piece_in (sym is) ∙ no-piece r.verdict n

-- ---- what the definition then says

pub received : (k : ℕ) (p : Packet) (out : List ℕ) (t : Table) (f : Fragment) → piece_in (reading_of p) ≡ Some f
    → receive_on k p out t ≡ taking (ask_on k (offer_of p f out) t)
unfolding receive_on
received k p out t f e = ap (receiving k p out t) e

pub not-received : (k : ℕ) (p : Packet) (out : List ℕ) (t : Table) → piece_in (reading_of p) ≡ None
    → receive_on k p out t ≡ record { table = t; out = out; fate = fate_of (reading_of p) }
unfolding receive_on
not-received k p out t e = ap (receiving k p out t) e

pub other-leaves : (k : ℕ) (p : Packet) (out : List ℕ) (t : Table) (r : Result Received Refusal) → piece_in (reading_of p) ≡ None
    → fate_in r ≡ fate_of (reading_of p) → Leaves (receive_on k p out t) r t.records t.store out
other-leaves k p out t r e q =
    subst (λ (x : Receipt). Leaves x r t.records t.store out) (sym (not-received k p out t e))
    (record { answers = q; records_left = refl; store_left = refl; out_left = refl })

pub fragment-leaves : (k : ℕ) (p : Packet) (out : List ℕ) (t : Table) (f : Fragment) (arrival : Arrival) (answer : Result Answer Turned)
    (records : List Client) (store out' : List ℕ)
    → piece_in (reading_of p) ≡ Some f → arrival ≡ arrival_of p.payload p.source p.destination p.time f
    → Table.Leaves (ask_on k (offering arrival (bytes_of p.payload f) out) t) answer records store out'
    → Leaves (receive_on k p out t) (Ok (Offered answer)) records store out'
fragment-leaves k p out t f arrival answer records store out' e ar l =
    let same : ask_on k (offering arrival (bytes_of p.payload f) out) t ≡ ask_on k (offer_of p f out) t =
    ap (λ (x : Arrival). ask_on k (offering x (bytes_of p.payload f) out) t) ar in
    let left : Table.Leaves (ask_on k (offer_of p f out) t) answer records store out' =
    subst (λ (x : After). Table.Leaves x answer records store out') same l in
    subst (λ (x : Receipt). Leaves x (Ok (Offered answer)) records store out') (sym (received k p out t f e))
    (record {
      answers = ap offered left.answers;
      records_left = left.records_left;
      store_left = left.store_left;
      out_left = left.out_left;
    })
