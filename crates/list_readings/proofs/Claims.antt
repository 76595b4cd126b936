-- A reading with "read" is listed as the walk of its option list, with its own count and fill, and any other as no option; so what was written is
-- listed back as the encoded list that it was written from.
-- Assumes nothing.
use mathlib.Core.Path.{◌≡◌, refl, ap, ◌∙◌}
use mathlib.Core.Bool.{Bool, true, false, cond}
use mathlib.Core.List.{List, [], ◌++◌}
use Prim.Native.Nat.{ℕ, ◌≤◌}
use native.Mathlib.Omega.{arith}
use borrow.Author.Tests.{le-leb}
use lib.ListN.{length, drop}
use Rattle.std.proofs.Common.{Result}
use Rattle.number_octets.specs.Octets.{Octets}
use Rattle.number_varint.specs.declared.Full.{Full}
use Rattle.wire_nops.specs.declared.Strictness.{Strictness}
use Rattle.wire_nops.specs.declared.Strictness.TheVariants.{Plain}
use Rattle.wire_options.specs.Walk.{Item, Walked, listed, walk_from, option_limit, items_of}
use Rattle.wire_datagram.specs.Reading.{reads, reading}
use Rattle.wire_reading.specs.Reading.{is_read}
use Rattle.wire_original.specs.Rereading.{rereads, rereading}
use Rattle.wire_reading.specs.declared.Verdict.{Verdict}
use Rattle.wire_reading.specs.declared.Verdict.TheVariants.{Read}
use Rattle.wire_reading.specs.Packet.{PacketReading as Reading}
use Rattle.wire_original.specs.Original.{OriginalReading as Rereading}
use Rattle.wire_datagram.proofs.Lists.{reading-lists}
use Rattle.wire_reading.proofs.Lists.{Lists, lists-part, read-verdict}
use Rattle.wire_original.proofs.Lists.{rereading-lists}
use Rattle.list_encoding.specs.Encoding.{given, refused}
use Rattle.list_options.specs.Listing.{too_small, fill_of, listing, room_for, ListedInto}
use Rattle.list_options.specs.declared.Listing.{Listing}
use Rattle.list_writer.specs.Answer.{written, datagram_for}
use Rattle.list_payload.specs.Payload.{Datagram, payload_of}
use Rattle.list_payload.proofs.ReadBack.{back_of}
use Rattle.list_payload.proofs.Claims.{ReadBack}
use Rattle.list_writer.proofs.Claims.{WroteBack, write-reads-back}
use Rattle.list_options.proofs.Listings.{length-items}
use Rattle.list_readings.specs.Back.{GivesList, walk_of}
use Rattle.list_readings.specs.Catalogue.{is_listed, walk_of_value}
use Rattle.list_readings.proofs.Values.{by-verdict, value-listed, value_none, none-listed}

-- ---- what is listed of a reading and of a rereading

-- the walk of the list at `from`, with so many options and this fill
pub record ListedAt (bytes : List ℕ) (from count fill : ℕ) (walk : Walked) : Type 0 where
  pub walks : walk ≡ walk_from option_limit 0 (drop from bytes)
  pub fills : fill_of walk ≡ fill
  pub counts : length (items_of walk) ≡ count

-- how a value is listed: its list with "read", no option with any other verdict
pub record ValueListed (bytes : List ℕ) (verdict : Verdict) (from to count fill : ℕ) : Type 0 where
  pub with_read : verdict ≡ Read → ListedAt bytes from count fill (walk_of_value bytes verdict from to)
  pub with_other : (verdict ≡ Read → ⊥) → walk_of_value bytes verdict from to ≡ listed [] 0

abbrev pub ReadingListed : List ℕ → Reading → Type 0
ReadingListed payload r = ValueListed payload r.verdict r.options.from.0 r.options.to.0 r.count r.fill

abbrev pub RereadingListed : List ℕ → Rereading → Type 0
RereadingListed original r = ValueListed original r.verdict r.options.from.0 r.options.to.0 r.count r.fill

-- a list that reaches to the end of the bytes is listed
lists-listed : (bytes : List ℕ) (verdict : Verdict) (from to count fill : ℕ) → verdict ≡ Read → Lists bytes from to count fill
    → ListedAt bytes from count fill (walk_of_value bytes verdict from to)
lists-listed bytes verdict from to count fill v l =
    let n : to ≡ length bytes = l.ends in
    let inside : is_listed verdict from to (length bytes) ≡ true = by-verdict verdict from to (length bytes) l.ordered (omega arith) ∙ ap is_read v in
    let same : walk_of_value bytes verdict from to ≡ walk_from option_limit 0 (drop from bytes) =
    value-listed bytes verdict from to inside ∙ ap (walk_from option_limit 0) (lists-part bytes from to count fill l) in
    let walk : walk_of_value bytes verdict from to ≡ listed l.found fill = same ∙ l.walks in
    record { walks = same; fills = ap fill_of walk; counts = ap (λ (w : Walked). length (items_of w)) walk ∙ length-items l.found ∙ l.counts }

value-claim : (bytes : List ℕ) (verdict : Verdict) (from to count fill : ℕ) → (verdict ≡ Read → Lists bytes from to count fill)
    → ValueListed bytes verdict from to count fill
value-claim bytes verdict from to count fill lists = record {
  with_read = λ v. lists-listed bytes verdict from to count fill v (lists v);
  with_other = λ other. value_none bytes verdict from to (none-listed verdict from to (length bytes) (no_read other (is_read verdict) refl));
}
  where
    no_read : (verdict ≡ Read → ⊥) → (t : Bool) → is_read verdict ≡ t → is_read verdict ≡ false
    no_read other true e = absurd (other (read-verdict verdict e))
    no_read other false e = e

pub reading-listed : (how : Strictness) (payload source destination : List ℕ) (r : Reading) → reading how payload source destination ≡ reads r → ReadingListed payload r
reading-listed how payload source destination r e =
    value-claim payload r.verdict r.options.from.0 r.options.to.0 r.count r.fill (reading-lists how payload source destination r e)

pub rereading-listed : (how : Strictness) (original : List ℕ) (start : ℕ) (r : Rereading) → rereading how original start ≡ rereads r → RereadingListed original r
rereading-listed how original start r e =
    value-claim original r.verdict r.options.from.0 r.options.to.0 r.count r.fill (rereading-lists how original start r e)

-- ---- what was written is listed back

-- the listing of a reading is the encoded list, and the fill beside it the one that was asked for
pub record ListsBack (d : Datagram) (list : List ℕ) (r : Reading) : Type 0 where
  pub same_list : listing (walk_of (payload_of d) r) ≡ list
  pub fill : fill_of (walk_of (payload_of d) r) ≡ d.fill

pub written-lists-back : (d : Datagram) (list : List ℕ) (r : Reading) → ReadBack d list r → ListsBack d list r
written-lists-back d list r b =
    let l = (reading-listed Plain (payload_of d) d.source d.destination r (b.is_read Plain)).with_read b.verdict in
    record { same_list = ap listing l.walks ∙ b.same_list; fill = l.fills ∙ b.fill }

-- ---- the same, said of calls

-- what a call that `write` took leaves is read, and `list_reading` with room for the list gives the list back
pub record WroteListed (datagram : List Item → Datagram) (list buffer : List ℕ) (n : ℕ) : Type 0 where
  pub wrote : WroteBack datagram list buffer n
  pub back : ListsBack (datagram wrote.items) list (back_of (datagram wrote.items))

pub write-lists-back : (source destination : List ℕ) (source_port destination_port : ℕ) (user : List ℕ) (fill : ℕ) (list buffer : List ℕ) (n : ℕ)
    → length source ≡ 4 → length destination ≡ 4 → Octets list
    → (written (datagram_for source destination source_port destination_port user fill) list buffer).answer ≡ given n
    → WroteListed (datagram_for source destination source_port destination_port user fill) list buffer n
write-lists-back source destination source_port destination_port user fill list buffer n s t oct e =
    let w = write-reads-back source destination source_port destination_port user fill list buffer n s t oct e in
    record { wrote = w; back = written-lists-back _ list _ w.back }

pub listed_back : (d : Datagram) (list : List ℕ) (r : Reading) (buffer : List ℕ) (answer : Result Listing Full) (left : List ℕ) → ListsBack d list r
    → ListedInto (walk_of (payload_of d) r) buffer answer left → length list ≤ length buffer → GivesList list d.fill buffer answer left
unfolding room_for
listed_back d list r buffer answer left b into h =
    let walk : Walked = walk_of (payload_of d) r in
    let room : room_for walk buffer ≡ true = le-leb (length (listing walk)) (length buffer) (omega (arith, ap length b.same_list)) in
    record {
      answered =
          into.answered
          ∙ ap (λ (t : Bool). cond t (given (record { size = length (listing walk); fill = fill_of walk })) (refused too_small)) room
          ∙ ap (λ (l : List ℕ). given (record { size = length l; fill = fill_of walk })) b.same_list
          ∙ ap (λ (k : ℕ). given (record { size = length list; fill = k })) b.fill;
      leaves =
          into.written ∙ ap (λ (t : Bool). cond t (listing walk ++ drop (length (listing walk)) buffer) buffer) room
          ∙ ap (λ (l : List ℕ). l ++ drop (length l) buffer) b.same_list;
    }
