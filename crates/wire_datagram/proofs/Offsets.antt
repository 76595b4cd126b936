-- The offset that a fault verdict carries names a byte of the option list, the one that document 02 says (R-7): a walk meets its fault at a byte of its
-- list (`fault-byte`), a piece's options are a part of the list, and a FRAG that leads is met at its kind byte. Options stand at their offsets likewise.
-- Assumes nothing.
use mathlib.Core.Path.{◌≡◌, refl, sym, ap, subst, ◌∙◌}
use mathlib.Core.Bool.{Bool, true, false}
use mathlib.Core.List.{List}
use mathlib.Core.Logic.{◌⊎◌, inl, inr, ⊎_elim}
use Rattle.std.specs.Prelude.{Option, None, Some}
use Prim.Native.Nat.{ℕ, ◌+◌, ◌-◌, ◌≤◌, ◌<◌}
use native.Mathlib.Omega.{arith}
use borrow.Author.Tests.{eqb-true, eqb-false, ltb-true, ltb-false}
use lib.Dec.{ltb}
use lib.ListN.{length, drop, get_or, get_or-eq_default}
use Rattle.number_octets.proofs.Laws.{length_part}
use Rattle.number_offsets.specs.Offsets.{udp_header}
use Rattle.number_offsets.specs.declared.PacketOffset.{PacketOffset}
use Rattle.wire_nops.specs.Nops.{nops_of}
use Rattle.wire_nops.specs.declared.Strictness.{Strictness}
use Rattle.wire_options.specs.Walk.{faulty, option_limit}
use Rattle.wire_options.specs.Strict.{walk_by}
use Rattle.wire_options.specs.declared.walk.Fault.{Fault}
use Rattle.wire_options.specs.declared.walk.Fault.TheVariants.{Malformed as malformed_list, FragData as frag_data}
use Rattle.wire_offsets.specs.Places.{frag, place_before, OptionsFrom, FaultAt, ByteOf}
use Rattle.wire_offsets.proofs.Faults.{fault-byte}
use Rattle.wire_offsets.proofs.Parts.{LiesIn, rest-lies, part_lies, FaultByte, fault-lies, options-from}
use Rattle.wire_area.specs.Area.{fields_of, up_to_start}
use Rattle.wire_area.specs.declared.Fragment.{Fragment}
use Rattle.wire_area.proofs.Areas.{fragment-within, Leads}
use Rattle.wire_area.proofs.Faults.{WalkFault, PieceFault, FragFault, AreaFault, area-cause}
use Rattle.wire_reading.specs.Reading.{no_data, verdict_of}
use Rattle.wire_reading.specs.Verdict.{fault_at}
use Rattle.wire_reading.specs.Packet.{PacketReading as Reading}
use Rattle.wire_reading.specs.declared.Verdict.{Verdict}
use Rattle.wire_reading.specs.declared.Verdict.TheVariants.{Bare, Short, Pad, Unsummed, BadSum, Malformed, Unsafe, FragData, Crowded, Tail, Padded, Read, Piece}
use Rattle.wire_reading.proofs.Faults.{fault_in}
use Rattle.wire_reading.proofs.Lists.{ListsIn}
use Rattle.wire_datagram.specs.Reading.{udp_length, reads, reading}
use Rattle.wire_datagram.proofs.Claims.{met-none, in-range}
use Rattle.wire_datagram.proofs.Faults.{ListStarts, reading-fault}
use Rattle.wire_datagram.proofs.Lists.{reading-lists}

-- ---- what is met, and where

-- the walk of a list that starts at the packet offset `start` comes to the fault, and meets it at this offset
pub record WalkMeets (how : Strictness) (room : ℕ) (x : Fault) (start : ℕ) (l : List ℕ) (at : PacketOffset) : Type 0 where
  pub remains : ℕ
  pub walks : walk_by how room 0 l ≡ faulty x remains
  pub fault : FaultAt l x remains
  pub place : at.0 ≡ start + place_before l remains

-- no user data, FRAG leads the list that starts at `from`, and the walk of the options behind it, up to Frag. Start, meets the fault
pub record PieceMeets (how : Strictness) (p : List ℕ) (x : Fault) (from : ℕ) (l : List ℕ) (at : PacketOffset) : Type 0 where
  pub no_data : udp_length p ≡ udp_header
  pub fragment : Fragment
  pub led : Leads from l fragment
  pub behind : WalkMeets how (option_limit - 1) x (from + (nops_of l + led.size)) (up_to_start fragment from (nops_of l + led.size) l) at

-- the FRAG that leads the list is the fault: it is malformed, or stands beside user data
pub record FragMeets (p : List ℕ) (x : Fault) (from : ℕ) (l : List ℕ) (at : PacketOffset) : Type 0 where
  pub place : at.0 ≡ from + nops_of l
  pub kind : get_or p at.0 0 ≡ frag
  pub which : (x ≡ malformed_list) ⊎ ((x ≡ frag_data) × (udp_header < udp_length p))

abbrev pub Meets : Strictness → List ℕ → Fault → ℕ → PacketOffset → Type 0
Meets how p x from at =
    WalkMeets how option_limit x from (drop from p) at ⊎ (PieceMeets how p x from (drop from p) at ⊎ FragMeets p x from (drop from p) at)

-- The offset names a byte of the option list, which starts at `from`, `into` bytes behind L: the byte where the fault is met.
pub record FaultInList (how : Strictness) (p : List ℕ) (x : Fault) (at : PacketOffset) : Type 0 where
  pub into : ℕ
  pub starts : ListStarts p into
  pub from : ℕ
  pub start : from ≡ udp_length p + into
  pub behind : from ≤ at.0
  pub within : at.0 < length p
  pub byte : ByteOf x (get_or p at.0 0)
  pub met : Meets how p x from at

-- ---- the fault verdicts

walk_meets : (how : Strictness) (room : ℕ) (x : Fault) (start end : ℕ) (l : List ℕ) (at : PacketOffset) → end ≡ start + length l
    → WalkFault how room x end l at → WalkMeets how room x start l at
walk_meets how room x start end l at ends w =
    let f = fault-byte how room l x w.remains w.faults in
    record {
      remains = w.remains;
      walks = w.faults;
      fault = f;
      place = ap (λ (o : PacketOffset). o.0) w.met ∙ omega (arith, f.within);
    }

-- a walk over bytes of the payload
meets-byte : (how : Strictness) (room : ℕ) (p : List ℕ) (x : Fault) (start : ℕ) (l : List ℕ) (at : PacketOffset) → LiesIn p start l
    → WalkMeets how room x start l at → FaultByte p start x at.0
meets-byte how room p x start l at lies w =
    subst (FaultByte p start x) (sym w.place) (fault-lies p start l x w.remains lies w.fault)

module _ (how : Strictness) (p : List ℕ) (x : Fault) (from : ℕ) (at : PacketOffset) (header : udp_header ≤ udp_length p) where
  abbrev l : List ℕ
  l = drop from p

  abbrev Met : Type 0
  Met = FaultByte p from x at.0 × Meets how p x from at

  of-walk : WalkFault how option_limit x (from + length l) l at → Met
  of-walk w =
      let m = walk_meets how option_limit x from (from + length l) l at refl w in
      (meets-byte how option_limit p x from l at (rest-lies p from) m, inl m)

  of-piece : (no_data (udp_length p) ≡ true) × PieceFault how x from l at → Met
  of-piece f =
      let led = f.1.led in
      let fragment : Fragment = f.1.fragment in
      let skip : ℕ = nops_of l + led.size in
      let size : ℕ = fragment.start.0 - (from + skip) in
      let w = fragment-within (fields_of led.size (drop (nops_of l) l)) from skip (length l) fragment led.sound in
      let long : length (up_to_start fragment from skip l) ≡ size = length_part skip size l (omega (arith, w.0, w.1)) in
      let m =
      walk_meets how (option_limit - 1) x (from + skip) fragment.start.0 (up_to_start fragment from skip l) at (omega (arith, w.0, long)) f.1.walk in
      let b = meets-byte how (option_limit - 1) p x (from + skip) (up_to_start fragment from skip l) at (part_lies p from l skip size (rest-lies p from)) m in
      let of-options : PieceMeets how p x from l at =
      record { no_data = eqb-true (udp_length p) udp_header f.0; fragment = fragment; led = led; behind = m } in
      (record { behind = omega (arith, b.behind); within = b.within; byte = b.byte }, inr (inl of-options))

  of-frag : FragFault (no_data (udp_length p)) x from l at → Met
  of-frag f =
      let kind : get_or l (nops_of l) 0 ≡ frag = eqb-true (get_or l (nops_of l) 0) frag f.first in
      let place : at.0 ≡ from + nops_of l = ap (λ (o : PacketOffset). o.0) f.met in
      let inside : nops_of l < length l = go (ltb (nops_of l) (length l)) refl kind in
      let there : get_or p at.0 0 ≡ frag = ap (λ (n : ℕ). get_or p n 0) place ∙ (rest-lies p from).same (nops_of l) inside ∙ kind in
      let which : (x ≡ malformed_list) ⊎ ((x ≡ frag_data) × (udp_header < udp_length p)) =
      ⊎_elim inl (λ d. inr (d.0, omega (arith, header, eqb-false (udp_length p) udp_header d.1))) f.which in
      let within : at.0 < length p = omega (arith, place, (rest-lies p from).within (nops_of l) inside) in
      let of-kind : FragMeets p x from l at = record { place = place; kind = there; which = which } in
      (record { behind = omega (arith, place); within = within; byte = ⊎_elim (malformed there) (λ d. with-data there d.0) which }, inr (inr of-kind))
    where
      go : (t : Bool) → ltb (nops_of l) (length l) ≡ t → get_or l (nops_of l) 0 ≡ frag → nops_of l < length l
      go true e k = ltb-true (nops_of l) (length l) e
      go false e k = absurd (omega (arith, k, get_or-eq_default l 0 (ltb-false (nops_of l) (length l) e)))

      malformed : get_or p at.0 0 ≡ frag → x ≡ malformed_list → ByteOf x (get_or p at.0 0)
      malformed k e = subst (λ (y : Fault). ByteOf y (get_or p at.0 0)) (sym e) (omega arith, omega arith)

      with-data : get_or p at.0 0 ≡ frag → x ≡ frag_data → ByteOf x (get_or p at.0 0)
      with-data k e = subst (λ (y : Fault). ByteOf y (get_or p at.0 0)) (sym e) k

  met_at : AreaFault how (no_data (udp_length p)) x from l at → Met
  met_at c = ⊎_elim of-walk (λ d. ⊎_elim of-piece of-frag d) c

pub fault-offset : (how : Strictness) (p s d : List ℕ) (r : Reading) (x : Fault) (at : PacketOffset) → reading how p s d ≡ reads r
    → r.verdict ≡ verdict_of x at → FaultInList how p x at
fault-offset how p s d r x at e v =
    let f = reading-fault how p x at s d r e v in
    let from : ℕ = udp_length p + f.at in
    let range = in-range p s d (met-none how p s d r e).0 in
    let m = met_at how p x from at range.0 (area-cause how (no_data (udp_length p)) from (drop from p) x at f.faults) in
    record {
      into = f.at;
      starts = f.starts;
      from = from;
      start = refl;
      behind = m.0.behind;
      within = m.0.within;
      byte = m.0.byte;
      met = m.1;
    }

-- ---- every verdict

-- the offset beside the fault that a verdict names, and the verdict that names it
abbrev placed : Option (Fault × PacketOffset) → Option PacketOffset
placed None = None
placed (Some fault) = Some fault.1

abbrev named : Verdict → Option (Fault × PacketOffset) → Verdict
named v None = v
named v (Some fault) = verdict_of fault.0 fault.1

both : (v : Verdict) → (fault_at v ≡ placed (fault_in v)) × (v ≡ named v (fault_in v))
both Bare = (refl, refl)
both Short = (refl, refl)
both Pad = (refl, refl)
both Unsummed = (refl, refl)
both BadSum = (refl, refl)
both (Malformed at) = (refl, refl)
both (Unsafe at) = (refl, refl)
both (FragData at) = (refl, refl)
both (Crowded at) = (refl, refl)
both (Tail at) = (refl, refl)
both (Padded at) = (refl, refl)
both Read = (refl, refl)
both (Piece f) = (refl, refl)

beside : (fault : Option (Fault × PacketOffset)) (at : PacketOffset) → placed fault ≡ Some at → (x : Fault) × (fault ≡ Some (x, at))
beside None at e = cc
beside (Some fault) at e = let same : fault.1 ≡ at = cc in (fault.0, ap (λ (a : PacketOffset). Some (fault.0, a)) same)

-- a verdict carries an offset exactly if it names a fault: where the fault was met
pub no-offset : (v : Verdict) (at : PacketOffset)
    → (fault_at v ≡ Some at → (x : Fault) × (fault_in v ≡ Some (x, at))) × ((x : Fault) → fault_in v ≡ Some (x, at) → fault_at v ≡ Some at)
no-offset v at = (λ e. beside (fault_in v) at (sym (both v).0 ∙ e), λ x e. (both v).0 ∙ ap placed e)

-- so every offset that a reading carries names a byte of its option list
pub offset-names : (how : Strictness) (p s d : List ℕ) (r : Reading) (at : PacketOffset) → reading how p s d ≡ reads r → fault_at r.verdict ≡ Some at
    → (x : Fault) × (r.verdict ≡ verdict_of x at) × FaultInList how p x at
offset-names how p s d r at e o =
    let f = (no-offset r.verdict at).0 o in
    let v : r.verdict ≡ verdict_of f.0 at = (both r.verdict).1 ∙ ap (named r.verdict) f.1 in
    (f.0, v, fault-offset how p s d r f.0 at e v)

-- ---- options

-- with "read" each option of the list stands at its offset, before the fill, and ends before every later one starts
pub option-offsets : (how : Strictness) (p s d : List ℕ) (r : Reading) → reading how p s d ≡ reads r → r.verdict ≡ Read
    → (lists : ListsIn p r) × OptionsFrom p r.options.from.0 r.fill lists.found
option-offsets how p s d r e v =
    let lists = reading-lists how p s d r e v in
    (lists, options-from p r.options.from.0 option_limit lists.found r.fill lists.walks)
