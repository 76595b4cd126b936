-- Of a piece, too, the fill is zero bytes (document 02, R-2): its options, from behind FRAG up to Frag. Start, are walked like any list, and a piece
-- with a fault in them is none.
-- Assumes nothing.
use mathlib.Core.Path.{◌≡◌, refl}
use mathlib.Core.Bool.{Bool, true, false}
use mathlib.Core.List.{List}
use Prim.Native.Nat.{ℕ, ◌+◌, ◌-◌}
use native.Mathlib.Omega.{arith}
use Rattle.wire_nops.specs.Nops.{nops_of}
use Rattle.wire_nops.specs.declared.Strictness.{Strictness}
use Rattle.wire_options.specs.Walk.{Located, Walked, listed, faulty, walk_from, option_limit}
use Rattle.wire_options.specs.Strict.{walk_by}
use Rattle.wire_options.proofs.Rests.{Fills}
use Rattle.wire_options.proofs.Fills.{walk-fills}
use Rattle.wire_options.proofs.Stricts.{listed_plain}
use Rattle.wire_area.specs.Area.{piece, piece_with, up_to_start, behind_frag, area_of}
use Rattle.wire_area.specs.declared.Fragment.{Fragment}
use Rattle.std.specs.Prelude.{Some}
use Rattle.wire_area.proofs.Areas.{Leads, led-behind, piece-leads}

-- the options of a list that `led` leads, and their fill
pub record PieceFill (base : ℕ) (l : List ℕ) (f : Fragment) (led : Leads base l f) : Type 0 where
  pub options : List Located
  pub fill : ℕ
  pub walks : walk_from (option_limit - 1) 0 (up_to_start f base (nops_of l + led.size) l) ≡ listed options fill
  pub fills : Fills 0 (up_to_start f base (nops_of l + led.size) l) fill

pub piece-fill : (how : Strictness) (empty : Bool) (base : ℕ) (l : List ℕ) (f : Fragment) (e : area_of how empty base l ≡ piece f)
    → PieceFill base l f (piece-leads how empty base l f e)
piece-fill how empty base l f e = go empty (led-behind how empty base l f led (piece f) e (λ at p. cc))
  where
    led : Leads base l f
    led = piece-leads how empty base l f e

    list : List ℕ
    list = up_to_start f base (nops_of l + led.size) l

    walked : (w : Walked) → walk_by how (option_limit - 1) 0 list ≡ w → piece_with f w ≡ piece f → PieceFill base l f led
    walked (faulty x n) w q = cc
    walked (listed options fill) w q =
        let plain = listed_plain how (option_limit - 1) list options fill w in
        record { options = options; fill = fill; walks = plain; fills = walk-fills (option_limit - 1) 0 list options fill (omega arith) plain }

    go : (t : Bool) → behind_frag how t l base (nops_of l) (nops_of l + led.size) (Some f) ≡ piece f → PieceFill base l f led
    go false q = cc
    go true q = walked (walk_by how (option_limit - 1) 0 list) refl q
