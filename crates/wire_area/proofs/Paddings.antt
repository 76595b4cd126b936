-- Where the walk of an area's list comes to "padded" (document 02, R-6): reading is strict and the walk of the list comes to eight NOPs in a row,
-- before FRAG too; or, where FRAG leads it and there is no user data, the walk of the options up to Frag. Start does.
-- Assumes nothing.
use mathlib.Core.Path.{◌≡◌, ap}
use mathlib.Core.Bool.{Bool, true, cond}
use mathlib.Core.List.{List}
use mathlib.Core.Logic.{◌⊎◌, inl, inr, ⊎_elim}
use Prim.Native.Nat.{ℕ, ◌+◌, ◌-◌}
use borrow.Author.Tests.{lt-ltb}
use lib.ListN.{length}
use Rattle.number_offsets.specs.declared.PacketOffset.{PacketOffset}
use Rattle.wire_nops.specs.Nops.{nop_limit, nops_of}
use Rattle.wire_nops.specs.declared.Strictness.{Strictness}
use Rattle.wire_nops.specs.declared.Strictness.TheVariants.{Strict}
use Rattle.wire_options.specs.Walk.{offset_before, option_limit}
use Rattle.wire_options.specs.declared.walk.Fault.TheVariants.{Padded}
use Rattle.wire_options.proofs.Paddings.{Padding, eight_nops, eight-many, padded-cause}
use Rattle.wire_area.specs.Area.{fault, up_to_start, offset_in, behind_nops, area_of}
use Rattle.wire_area.specs.declared.Fragment.{Fragment}
use Rattle.wire_area.proofs.Areas.{Leads}
use Rattle.wire_area.proofs.Faults.{WalkFault, area-fault}

-- the walk of a list that ends at the packet offset `end` comes to eight NOPs in a row, the eighth at this offset
pub record PaddingIn (room : ℕ) (end : ℕ) (l : List ℕ) (at : PacketOffset) : Type 0 where
  pub remains : ℕ
  pub padding : Padding room l remains
  pub met : at ≡ offset_before end remains

-- FRAG leads, and the walk of the options up to Frag. Start comes to eight NOPs in a row
pub record PiecePadding (base : ℕ) (l : List ℕ) (at : PacketOffset) : Type 0 where
  pub fragment : Fragment
  pub led : Leads base l fragment
  pub nops : PaddingIn (option_limit - 1) fragment.start.0 (up_to_start fragment base (nops_of l + led.size) l) at

padding-at : (how : Strictness) (room end : ℕ) (l : List ℕ) (at : PacketOffset) → WalkFault how room Padded end l at
    → (how ≡ Strict) × PaddingIn room end l at
padding-at how room end l at w =
    let c = padded-cause how room l w.remains w.faults in
    (c.0, record { remains = w.remains; padding = c.1; met = w.met })

pub area-padded : (how : Strictness) (empty : Bool) (base : ℕ) (l : List ℕ) (at : PacketOffset) → area_of how empty base l ≡ fault Padded at
    → (how ≡ Strict) × ((PaddingIn option_limit (base + length l) l at) ⊎ ((empty ≡ true) × PiecePadding base l at))
area-padded how empty base l at q =
    ⊎_elim
    (λ w. let c = padding-at how option_limit (base + length l) l at w in (c.0, inl c.1))
    (λ w. let c = padding-at how (option_limit - 1) _ _ at w.1.walk in
    (c.0, inr (w.0, record { fragment = w.1.fragment; led = w.1.led; nops = c.1 })))
    (area-fault how empty base l Padded at ((λ e. cc), (λ e. cc)) q)

-- eight NOPs at the front are met before anything else, a FRAG behind them too
pub padded-front : (empty : Bool) (base : ℕ) (rest : List ℕ) → area_of Strict empty base (eight_nops rest) ≡ fault Padded (offset_in base nop_limit)
unfolding area_of nop_limit
padded-front empty base rest =
    ap (λ (t : Bool). cond t (fault Padded (offset_in base 7)) (behind_nops Strict empty base (eight_nops rest)))
    (lt-ltb 7 (nops_of (eight_nops rest)) (eight-many rest))
