-- Demand 2's listing back of a call's own bytes, from the contracts of `write`, `read` and `list_reading`: what `write` leaves is read, and the
-- listing of that reading is the encoded list.
-- Assumes nothing.
use mathlib.Core.Path.{◌≡◌, sym, ap, subst, ◌∙◌}
use mathlib.Core.List.{List}
use Prim.Native.Nat.{ℕ}
use native.Mathlib.Omega.{arith}
use lib.ListN.{length, take, drop}
use lib.Seq.{take_at}
use Rattle.std.proofs.Common.{Result, Ok, Err}
use Rattle.number_octets.specs.Octets.{Octets}
use Rattle.wire_nops.specs.declared.Strictness.{Strictness}
use Rattle.wire_datagram.specs.Reading.{reads, reading, answer_of}
use Rattle.wire_reading.specs.Packet.{PacketReading as Reading}
use Rattle.wire_datagram.specs.declared.reading.Refusal.{Refusal}
use Rattle.list_options.specs.Listing.{ListedInto}
use Rattle.list_writer.specs.Answer.{written, datagram_for, Wrote}
use Rattle.list_payload.specs.Payload.{Datagram, payload_of}
use Rattle.list_payload.proofs.ReadBack.{back_of}
use Rattle.list_writer.proofs.Claims.{write-reads-back}
use Rattle.list_readings.specs.Back.{walk_of, ListedBack}
use Rattle.list_readings.proofs.Claims.{written-lists-back, listed_back}

-- a payload that is read is accepted
accepted-as : (outcome : Result Reading Refusal) (r : Reading) → answer_of outcome ≡ reads r → outcome ≡ Ok r
accepted-as (Err refusal) r e = absurd (let z : ◌≡◌ {A = ℕ} 0 1 = cc in omega arith)
accepted-as (Ok x) r e = cc

-- `exit` is what `write` leaves, and `outcome` what `read` answers of its first n bytes, plain or strict
pub call-lists-back : (how : Strictness) (source destination : List ℕ) (source_port destination_port : ℕ) (user : List ℕ) (fill : ℕ) (list entry exit : List ℕ) (n : ℕ)
    (outcome : Result Reading Refusal)
    → length source ≡ 4 → length destination ≡ 4 → Octets list
    → Wrote (written (datagram_for source destination source_port destination_port user fill) list entry) (Ok n) exit
    → answer_of outcome ≡ reading how (take n exit) source destination
    → ListedBack list fill (take n exit) outcome
call-lists-back how source destination source_port destination_port user fill list entry exit n outcome s t oct w e =
    let b = write-reads-back source destination source_port destination_port user fill list entry n s t oct (sym w.answered) in
    let d : Datagram = datagram_for source destination source_port destination_port user fill b.items in
    let front : take n exit ≡ payload_of d = ap (take n) (w.left ∙ b.left) ∙ take_at (payload_of d) (drop n entry) n (sym b.size) in
    record {
      back = back_of d;
      accepted = accepted-as outcome (back_of d) (e ∙ ap (λ (p : List ℕ). reading how p source destination) front ∙ b.back.is_read how);
      lists = λ buffer answer left into room.
          listed_back d list (back_of d) buffer answer left (written-lists-back d list (back_of d) b.back)
          (subst (λ (p : List ℕ). ListedInto (walk_of p (back_of d)) buffer answer left) front into) room;
    }
