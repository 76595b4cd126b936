-- The offset that a fault verdict of a rereading carries is 8 plus a place in the option list, the one that document 02 says (R-7): the list is the end of
-- the original, and its walk meets the fault at one of its bytes (`fault-byte`). Options stand at their places likewise.
-- Assumes nothing.
use mathlib.Core.Path.{◌≡◌, refl, ap, ◌∙◌}
use mathlib.Core.Bool.{true}
use mathlib.Core.List.{List}
use Prim.Native.Nat.{ℕ, ◌+◌, ◌-◌, ◌≤◌, ◌<◌}
use native.Mathlib.Omega.{arith}
use lib.ListN.{length, drop, get_or, length-drop}
use Rattle.number_offsets.specs.Offsets.{udp_header, offset_of}
use Rattle.number_offsets.specs.declared.PacketOffset.{PacketOffset}
use Rattle.wire_nops.specs.declared.Strictness.{Strictness}
use Rattle.wire_options.specs.Walk.{faulty, option_limit}
use Rattle.wire_options.specs.Strict.{walk_by}
use Rattle.wire_options.specs.declared.walk.Fault.{Fault}
use Rattle.wire_offsets.specs.Places.{place_before, OptionsFrom, FaultAt, ByteOf}
use Rattle.wire_offsets.proofs.Faults.{fault-byte}
use Rattle.wire_offsets.proofs.Parts.{rest-lies, fault-lies, options-from}
use Rattle.wire_surplus.specs.Surplus.{start_of}
use Rattle.std.specs.Prelude.{Ok}
use Rattle.wire_reading.specs.Reading.{is_odd, verdict_of}
use Rattle.wire_reading.specs.declared.Verdict.TheVariants.{Read}
use Rattle.wire_original.specs.Rereading.{rereads, rereading}
use Rattle.wire_original.specs.Original.{OriginalReading as Rereading}
use Rattle.wire_original.proofs.Causes.{rereading-fault}
use Rattle.wire_original.proofs.Lists.{RelistsIn, rereading-lists}

-- The offset is 8 plus a place in the option list, which starts at place `from`, `into` bytes behind r: where the walk meets the fault.
pub record FaultInOriginal (how : Strictness) (original : List ℕ) (r : ℕ) (x : Fault) (at : PacketOffset) : Type 0 where
  pub into : ℕ
  pub starts : start_of (is_odd (udp_header + r)) true (drop r original) ≡ Ok into
  pub from : ℕ
  pub start : from ≡ r + into
  pub place : ℕ
  pub behind : from ≤ place
  pub within : place < length original
  pub offset : at ≡ offset_of (record { 0 = place })
  pub byte : ByteOf x (get_or original place 0)
  pub remains : ℕ
  pub walks : walk_by how option_limit 0 (drop from original) ≡ faulty x remains
  pub met : FaultAt (drop from original) x remains
  pub placed : place ≡ from + place_before (drop from original) remains

pub reread-fault-offset : (how : Strictness) (original : List ℕ) (r : ℕ) (y : Rereading) (x : Fault) (at : PacketOffset)
    → rereading how original r ≡ rereads y → y.verdict ≡ verdict_of x at → FaultInOriginal how original r x at
reread-fault-offset how original r y x at e v =
    let f = rereading-fault how original r x at y e v in
    let from : ℕ = r + f.1.at in
    let list : List ℕ = drop from original in
    let met = fault-byte how option_limit list x f.0 f.1.walks in
    let b = fault-lies original from list x f.0 (rest-lies original from) met in
    let same : length original - f.0 ≡ from + place_before list f.0 = omega (arith, met.within, met.some, length-drop from original) in
    record {
      into = f.1.at;
      starts = f.1.starts;
      from = from;
      start = refl;
      place = from + place_before list f.0;
      behind = b.behind;
      within = b.within;
      offset = f.2 ∙ ap (λ (n : ℕ). offset_of (record { 0 = n })) same;
      byte = b.byte;
      remains = f.0;
      walks = f.1.walks;
      met = met;
      placed = refl;
    }

-- with "read" each option of the list stands at its place, before the fill, and ends before every later one starts
pub reread-option-offsets : (how : Strictness) (original : List ℕ) (r : ℕ) (y : Rereading) → rereading how original r ≡ rereads y → y.verdict ≡ Read
    → (lists : RelistsIn original y) × OptionsFrom original y.options.from.0 y.fill lists.found
reread-option-offsets how original r y e v =
    let lists = rereading-lists how original r y e v in
    (lists, options-from original y.options.from.0 option_limit lists.found y.fill lists.walks)
