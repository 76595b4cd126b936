-- Strict reading of an area's list (document 02, R-6): it comes to "padded", or to what plain reading comes to.
-- Assumes nothing.
use mathlib.Core.Path.{◌≡◌, refl, ap}
use mathlib.Core.Bool.{Bool, true, false, cond}
use mathlib.Core.List.{List}
use mathlib.Core.Logic.{◌⊎◌, inl, inr, ⊎_elim}
use Prim.Native.Nat.{ℕ, ◌+◌, ◌-◌}
use lib.Dec.{eqb}
use lib.ListN.{length, drop, get_or}
use Rattle.number_offsets.specs.declared.PacketOffset.{PacketOffset}
use Rattle.wire_nops.specs.Nops.{nop_limit, nops_of, is_padding}
use Rattle.wire_nops.specs.declared.Strictness.{Strictness}
use Rattle.wire_nops.specs.declared.Strictness.TheVariants.{Plain}
use Rattle.wire_step.specs.Kinds.{eol, frag}
use Rattle.wire_step.specs.Step.{step_of}
use Rattle.wire_step.specs.declared.Step.{Step}
use Rattle.wire_step.specs.declared.Step.TheVariants.{End, Eol, Nop, Found, Malformed as Unsound, Outlawed}
use Rattle.wire_options.specs.Walk.{walk_from, option_limit}
use Rattle.wire_options.specs.Strict.{walk_by}
use Rattle.wire_options.specs.declared.walk.Fault.TheVariants.{Padded}
use Rattle.wire_options.proofs.Stricts.{padded-or-plain}
use Rattle.wire_area.specs.Area.{AreaWalk, fault, fields_of, fragment_of, plainly, piece_with, up_to_start, offset_in, behind_frag, led_by, area_of}
use Rattle.wire_area.specs.declared.Fragment.{Fragment}
use Rattle.std.specs.Prelude.{Option, Some, None}

-- a list that is "padded", at some place
abbrev pub IsPadded : AreaWalk → Type 0
IsPadded v = (at : PacketOffset) × (v ≡ fault Padded at)

abbrev OrPlain : AreaWalk → AreaWalk → Type 0
OrPlain v w = IsPadded v ⊎ (v ≡ w)

module _ (how : Strictness) (empty : Bool) (base : ℕ) (l : List ℕ) where
  behind-or-plain : (nops behind : ℕ) (p : Option Fragment) (t : Bool) → OrPlain (behind_frag how t l base nops behind p) (behind_frag Plain t l base nops behind p)
  behind-or-plain nops behind None t = inr refl
  behind-or-plain nops behind (Some f) false = inr refl
  behind-or-plain nops behind (Some f) true =
      ⊎_elim (λ p. inl (_, ap (piece_with f) p.1)) (λ e. inr (ap (piece_with f) e)) (padded-or-plain how (option_limit - 1) (up_to_start f base behind l))

  led-or-plain : (nops : ℕ) (step : Step) → OrPlain (led_by how empty l base nops step) (led_by Plain empty l base nops step)
  led-or-plain nops End = inr refl
  led-or-plain nops Eol = inr refl
  led-or-plain nops Nop = inr refl
  led-or-plain nops Unsound = inr refl
  led-or-plain nops Outlawed = inr refl
  led-or-plain nops (Found kind header size) =
      behind-or-plain nops (nops + size) (fragment_of (fields_of size (drop nops l)) base (nops + size) (length l)) empty

  pub area-or-plain : IsPadded (area_of how empty base l) ⊎ (area_of how empty base l ≡ area_of Plain empty base l)
  unfolding area_of
  area-or-plain = front (is_padding how (nops_of l)) (eqb (get_or l (nops_of l) eol) frag)
    where
      led : Strictness → AreaWalk
      led x = led_by x empty l base (nops_of l) (step_of (drop (nops_of l) l))

      front : (t u : Bool) → OrPlain (cond t (fault Padded (offset_in base nop_limit)) (cond u (led how) (plainly (base + length l) (walk_by how option_limit 0 l))))
          (cond u (led Plain) (plainly (base + length l) (walk_from option_limit 0 l)))
      front true u = inl (_, refl)
      front false true = led-or-plain (nops_of l) (step_of (drop (nops_of l) l))
      front false false = ⊎_elim (λ p. inl (_, ap (plainly (base + length l)) p.1)) (λ e. inr (ap (plainly (base + length l)) e)) (padded-or-plain how option_limit l)
