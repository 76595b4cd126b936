-- A reading by cases: of a list of options, of a piece, or without options. What holds of each holds however the area starts.
-- Assumes nothing.
use mathlib.Core.Path.{◌≡◌, refl}
use mathlib.Core.Bool.{Bool}
use mathlib.Core.List.{List}
use Prim.Native.Nat.{ℕ, ◌+◌, ◌≤◌}
use native.Mathlib.Omega.{arith}
use lib.ListN.{length, drop, length-drop}
use Rattle.wire_nops.specs.declared.Strictness.{Strictness}
use Rattle.wire_options.specs.Walk.{Located, listed, walk_from, option_limit}
use Rattle.wire_options.specs.declared.walk.Fault.TheVariants.{Malformed as malformed_list, Unsafe as unsafe_list, FragData as frag_data, Crowded as crowded_list, Tail as tailed, Padded as padded_list}
use Rattle.wire_area.specs.Area.{AreaWalk, plain, piece, fault, area_of}
use Rattle.wire_area.specs.declared.Fragment.{Fragment}
use Rattle.wire_area.proofs.Areas.{area-plain}
use Rattle.wire_surplus.specs.Surplus.{start_of}
use Rattle.std.specs.Prelude.{Result, Ok, Err}
use Rattle.wire_surplus.specs.declared.Unlisted.{Unlisted}
use Rattle.wire_surplus.specs.declared.Unlisted.TheVariants.{Empty, Short as short_area, Pad as bad_pad, Unsummed as no_sum, BadSum as bad_sum}
use Rattle.wire_surplus.proofs.Starts.{start-list}
use Rattle.wire_reading.specs.Reading.{no_data, optionless, walked, started}
use Rattle.wire_reading.specs.Packet.{PacketReading as Reading}
use Rattle.wire_reading.specs.declared.Verdict.{Verdict}
use Rattle.wire_reading.specs.declared.Verdict.TheVariants.{Bare, Short, Pad, Unsummed, BadSum, Malformed, Unsafe, FragData, Crowded, Tail, Padded, Read, Piece}

-- neither "read" nor a piece
abbrev pub Other : Verdict → Type 0
Other Bare = Unit {0}
Other Short = Unit {0}
Other Pad = Unit {0}
Other Unsummed = Unit {0}
Other BadSum = Unit {0}
Other (Malformed at) = Unit {0}
Other (Unsafe at) = Unit {0}
Other (FragData at) = Unit {0}
Other (Crowded at) = Unit {0}
Other (Tail at) = Unit {0}
Other (Padded at) = Unit {0}
Other Read = ⊥
Other (Piece f) = ⊥

module _
    (how : Strictness)
    (P : Reading → Type 0)
    (p : List ℕ)
    (size : ℕ)
    (fits : size ≤ length p)
    (by-other : (end : ℕ) (verdict : Verdict) → Other verdict → P (optionless end verdict))
    (by-list : (from : ℕ) (options : List Located) (fill : ℕ) → from ≤ length p → walk_from option_limit 0 (drop from p) ≡ listed options fill
    → P (walked p size from (plain options fill)))
    (by-piece : (from : ℕ) (f : Fragment) → from ≤ length p → area_of how (no_data size) from (drop from p) ≡ piece f → P (optionless size (Piece f))) where
  walked_by : (from : ℕ) (w : AreaWalk) → from ≤ length p → area_of how (no_data size) from (drop from p) ≡ w → P (walked p size from w)
  walked_by from (plain options fill) h e = by-list from options fill h (area-plain how (no_data size) from (drop from p) options fill e)
  walked_by from (piece f) h e = by-piece from f h e
  walked_by from (fault malformed_list at) h e = by-other _ (Malformed at) tt
  walked_by from (fault unsafe_list at) h e = by-other _ (Unsafe at) tt
  walked_by from (fault frag_data at) h e = by-other _ (FragData at) tt
  walked_by from (fault crowded_list at) h e = by-other _ (Crowded at) tt
  walked_by from (fault tailed at) h e = by-other _ (Tail at) tt
  walked_by from (fault padded_list at) h e = by-other _ (Padded at) tt

  pub started-by : (odd unused : Bool) (start : Result ℕ Unlisted) → start_of odd unused (drop size p) ≡ start → P (started how p size start)
  started-by odd unused (Err Empty) e = by-other _ Bare tt
  started-by odd unused (Err short_area) e = by-other _ Short tt
  started-by odd unused (Err bad_pad) e = by-other _ Pad tt
  started-by odd unused (Err no_sum) e = by-other _ Unsummed tt
  started-by odd unused (Err bad_sum) e = by-other _ BadSum tt
  started-by odd unused (Ok at) e =
      let within : at ≤ length (drop size p) = start-list odd unused (drop size p) at e in
      walked_by (size + at) (area_of how (no_data size) (size + at) (drop (size + at) p)) (omega (arith, simp length-drop at within)) refl
