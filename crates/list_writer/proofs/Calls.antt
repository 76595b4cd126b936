-- Demand 2's read-back of a call's own bytes, from the contract of `write` to the reading of what it leaves: the buffer starts with the payload of
-- the list's options, which is read back.
-- Assumes nothing.
use mathlib.Core.Path.{◌≡◌, sym, ap, subst, ◌∙◌}
use mathlib.Core.List.{List, ◌++◌}
use Prim.Native.Nat.{ℕ}
use lib.ListN.{length, take, drop}
use lib.Seq.{take_at, drop_at}
use Rattle.std.proofs.Common.{Ok}
use Rattle.number_octets.specs.Octets.{Octets}
use Rattle.wire_nops.specs.declared.Strictness.TheVariants.{Plain}
use Rattle.wire_options.specs.Walk.{walk_from, option_limit}
use Rattle.wire_reading.specs.Extents.{bytes_in}
use Rattle.wire_reading.specs.Packet.{PacketReading as Reading}
use Rattle.wire_datagram.proofs.Lists.{reading-lists}
use Rattle.wire_reading.proofs.Lists.{lists-part}
use Rattle.list_encoding.specs.Encoding.{given, decoded_list}
use Rattle.list_options.specs.Listing.{listing}
use Rattle.list_writer.specs.Answer.{written, datagram_for, Wrote}
use Rattle.list_payload.specs.Back.{walk_back, ReadsBack, LeavesBack}
use Rattle.list_payload.specs.Payload.{Datagram, payload_of}
use Rattle.list_payload.proofs.ReadBack.{back_of, user-there}
use Rattle.list_payload.proofs.Claims.{ReadBack}
use Rattle.list_writer.proofs.Claims.{write-reads-back}

-- ---- the payload

module _ (d : Datagram) (list : List ℕ) (decoded : decoded_list list ≡ given d.items) (b : ReadBack d list (back_of d)) where
  abbrev p : List ℕ
  p = payload_of d

  abbrev back : Reading
  back = back_of d

  -- the list that the reading names is all that stands behind the option checksum
  whole : walk_back p back ≡ walk_from option_limit 0 (drop back.options.from.0 p)
  whole =
      ap (walk_from option_limit 0)
      (lists-part p back.options.from.0 back.options.to.0 back.count back.fill
      (reading-lists Plain p d.source d.destination back (b.is_read Plain) b.verdict))

  payload-back : ReadsBack d.source d.destination d.user list d.fill p
  payload-back = record {
    items = d.items;
    decoded = decoded;
    back = back;
    is_read = b.is_read;
    verdict = b.verdict;
    same_user = user-there d;
    same_options = whole ∙ b.options;
    same_count = b.count;
    same_fill = b.fill;
    same_apc = b.same_apc;
    same_list = ap listing whole ∙ b.same_list;
  }

-- ---- the call

pub call-reads-back : (source destination : List ℕ) (source_port destination_port : ℕ) (user : List ℕ) (fill : ℕ) (list entry exit : List ℕ) (n : ℕ)
    → length source ≡ 4 → length destination ≡ 4 → Octets list
    → Wrote (written (datagram_for source destination source_port destination_port user fill) list entry) (Ok n) exit
    → LeavesBack source destination user list fill entry exit n
call-reads-back source destination source_port destination_port user fill list entry exit n s t oct w =
    let b = write-reads-back source destination source_port destination_port user fill list entry n s t oct (sym w.answered) in
    let d : Datagram = datagram_for source destination source_port destination_port user fill b.items in
    let left : exit ≡ payload_of d ++ drop n entry = w.left ∙ b.left in
    let front : take n exit ≡ payload_of d = ap (take n) left ∙ take_at (payload_of d) (drop n entry) n (sym b.size) in
    record {
      size = ap length front ∙ sym b.size;
      behind = ap (drop n) left ∙ drop_at (payload_of d) (drop n entry) n (sym b.size);
      reads_back = subst (ReadsBack source destination user list fill) (sym front) (payload-back d list b.decoded b.back);
    }

-- ---- what read-back shuts out

-- A payload is read back as one thing only: so a writer with one constant payload is none that is read back, whatever the payload.
pub record OneOrigin (user user' list list' : List ℕ) (fill fill' : ℕ) : Type 0 where
  pub one_user : user ≡ user'
  pub one_list : list ≡ list'
  pub one_fill : fill ≡ fill'

pub reads-back-once : (source destination user user' list list' : List ℕ) (fill fill' : ℕ) (payload : List ℕ)
    → ReadsBack source destination user list fill payload → ReadsBack source destination user' list' fill' payload
    → OneOrigin user user' list list' fill fill'
reads-back-once source destination user user' list list' fill fill' payload a b =
    let same : a.back ≡ b.back = cc (a.is_read Plain, b.is_read Plain) in
    record {
      one_user = sym a.same_user ∙ ap (λ (r : Reading). bytes_in r.user payload) same ∙ b.same_user;
      one_list = sym a.same_list ∙ ap (λ (r : Reading). listing (walk_back payload r)) same ∙ b.same_list;
      one_fill = sym a.same_fill ∙ ap (λ (r : Reading). r.fill) same ∙ b.same_fill;
    }
