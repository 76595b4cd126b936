-- A reading whose verdict is a fault of its list comes of an area's walk that came to that fault: every other end of a reading has another verdict.
-- Assumes nothing.
use mathlib.Core.Path.{◌≡◌, refl, sym, ap, ◌∙◌}
use mathlib.Core.List.{List}
use Prim.Native.Nat.{ℕ, ◌+◌}
use lib.ListN.{drop}
use Rattle.number_offsets.specs.declared.PacketOffset.{PacketOffset}
use Rattle.wire_nops.specs.declared.Strictness.{Strictness}
use Rattle.wire_options.specs.declared.walk.Fault.{Fault}
use Rattle.wire_options.specs.declared.walk.Fault.TheVariants.{Malformed as malformed_list, Unsafe as unsafe_list, FragData as frag_data, Crowded as crowded_list, Tail as tailed, Padded as padded_list}
use Rattle.wire_area.specs.Area.{AreaWalk, plain, piece, fault, area_of}
use Rattle.std.specs.Prelude.{Option, Some, None, Result, Ok, Err}
use Rattle.wire_surplus.specs.declared.Unlisted.{Unlisted}
use Rattle.wire_surplus.specs.declared.Unlisted.TheVariants.{Empty, Short as short_area, Pad as bad_pad, Unsummed as no_sum, BadSum as bad_sum}
use Rattle.wire_reading.specs.Reading.{no_data, verdict_of, walked, started}
use Rattle.wire_reading.specs.declared.Verdict.{Verdict}
use Rattle.wire_reading.specs.declared.Verdict.TheVariants.{Bare, Short, Pad, Unsummed, BadSum, Malformed, Unsafe, FragData, Crowded, Tail, Padded, Read, Piece}

-- the fault that a verdict names, and where it was met
abbrev pub fault_in : Verdict → Option (Fault × PacketOffset)
fault_in (Malformed at) = Some (malformed_list, at)
fault_in (Unsafe at) = Some (unsafe_list, at)
fault_in (FragData at) = Some (frag_data, at)
fault_in (Crowded at) = Some (crowded_list, at)
fault_in (Tail at) = Some (tailed, at)
fault_in (Padded at) = Some (padded_list, at)
fault_in Bare = None
fault_in Short = None
fault_in Pad = None
fault_in Unsummed = None
fault_in BadSum = None
fault_in Read = None
fault_in (Piece f) = None

pub fault-named : (x : Fault) (at : PacketOffset) → fault_in (verdict_of x at) ≡ Some (x, at)
fault-named malformed_list at = refl
fault-named unsafe_list at = refl
fault-named frag_data at = refl
fault-named crowded_list at = refl
fault-named tailed at = refl
fault-named padded_list at = refl

-- an area that starts so has a list, `at` bytes into it, whose walk came to a fault, met at `there`
pub record StartFaults (how : Strictness) (p : List ℕ) (size : ℕ) (start : Result ℕ Unlisted) (x : Fault) (there : PacketOffset) : Type 0 where
  pub at : ℕ
  pub starts : start ≡ Ok at
  pub faults : area_of how (no_data size) (size + at) (drop (size + at) p) ≡ fault x there

module _ (how : Strictness) (p : List ℕ) (size : ℕ) (x : Fault) (there : PacketOffset) where
  walked-fault : (from : ℕ) (w : AreaWalk) → fault_in (walked p size from w).verdict ≡ Some (x, there) → w ≡ fault x there
  walked-fault from (plain options fill) v = cc
  walked-fault from (piece f) v = cc
  walked-fault from (fault y at) v =
      let both : ◌≡◌ {A = Option (Fault × PacketOffset)} (Some (y, at)) (Some (x, there)) = sym (fault-named y at) ∙ v in
      let pair : ◌≡◌ {A = Fault × PacketOffset} (y, at) (x, there) = cc in
      ap (λ (z : Fault × PacketOffset). fault z.0 z.1) pair

  pub started-fault : (start : Result ℕ Unlisted) → fault_in (started how p size start).verdict ≡ Some (x, there) → StartFaults how p size start x there
  started-fault (Err Empty) v = cc
  started-fault (Err short_area) v = cc
  started-fault (Err bad_pad) v = cc
  started-fault (Err no_sum) v = cc
  started-fault (Err bad_sum) v = cc
  started-fault (Ok at) v =
      let from : ℕ = size + at in
      record { at = at; starts = refl; faults = walked-fault from (area_of how (no_data size) from (drop from p)) v }
