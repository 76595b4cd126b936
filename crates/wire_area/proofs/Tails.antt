-- Where the walk of an area's list comes to "tail" (document 02, R-2): the list has one, or, where FRAG leads it and there is no user data, the
-- options up to Frag. Start have one.
-- Assumes nothing.
use mathlib.Core.Path.{◌≡◌}
use mathlib.Core.Bool.{Bool, true}
use mathlib.Core.List.{List}
use mathlib.Core.Logic.{◌⊎◌, inl, inr, ⊎_elim}
use Prim.Native.Nat.{ℕ, ◌+◌, ◌-◌}
use lib.ListN.{length}
use Rattle.number_offsets.specs.declared.PacketOffset.{PacketOffset}
use Rattle.wire_nops.specs.Nops.{nops_of}
use Rattle.wire_nops.specs.declared.Strictness.{Strictness}
use Rattle.wire_options.specs.Walk.{offset_before, option_limit}
use Rattle.wire_options.specs.declared.walk.Fault.TheVariants.{Tail}
use Rattle.wire_options.proofs.Tails.{Tailed, tailed-by}
use Rattle.wire_area.specs.Area.{fault, up_to_start, area_of}
use Rattle.wire_area.specs.declared.Fragment.{Fragment}
use Rattle.wire_area.proofs.Areas.{Leads}
use Rattle.wire_area.proofs.Faults.{WalkFault, area-fault}

-- a list that ends at the packet offset `end` has a tail, met at this offset
pub record TailIn (room : ℕ) (end : ℕ) (l : List ℕ) (at : PacketOffset) : Type 0 where
  pub remains : ℕ
  pub tailed : Tailed room 0 l remains
  pub met : at ≡ offset_before end remains

-- FRAG leads, and the options up to Frag. Start have a tail
pub record PieceTail (base : ℕ) (l : List ℕ) (at : PacketOffset) : Type 0 where
  pub fragment : Fragment
  pub led : Leads base l fragment
  pub tail : TailIn (option_limit - 1) fragment.start.0 (up_to_start fragment base (nops_of l + led.size) l) at

tail_at : (how : Strictness) (room end : ℕ) (l : List ℕ) (at : PacketOffset) → WalkFault how room Tail end l at → TailIn room end l at
tail_at how room end l at w = record { remains = w.remains; tailed = tailed-by how room l w.remains w.faults; met = w.met }

pub area-tail : (how : Strictness) (empty : Bool) (base : ℕ) (l : List ℕ) (at : PacketOffset) → area_of how empty base l ≡ fault Tail at
    → (TailIn option_limit (base + length l) l at) ⊎ ((empty ≡ true) × PieceTail base l at)
area-tail how empty base l at q =
    ⊎_elim
    (λ w. inl (tail_at how option_limit (base + length l) l at w))
    (λ w. inr (w.0, record { fragment = w.1.fragment; led = w.1.led; tail = tail_at how (option_limit - 1) _ _ at w.1.walk }))
    (area-fault how empty base l Tail at ((λ e. cc), (λ e. cc)) q)
