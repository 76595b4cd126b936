-- Laws of the walk of an area: what a fragment that was found keeps to, that options come from the walk of a plain list, and where
-- a fragment's bytes end.
-- Assumes nothing.
use mathlib.Core.Path.{◌≡◌, refl, sym, ap, ◌∙◌}
use mathlib.Core.Bool.{Bool, true, false, cond, ◌&&◌}
use mathlib.Core.List.{List}
use mathlib.Core.Logic.{⊎_elim}
use Prim.Native.Nat.{ℕ, ◌+◌, ◌-◌, ◌≤◌}
use native.Mathlib.Omega.{arith}
use borrow.Author.Tests.{leb-true}
use lib.Dec.{eqb, leb}
use lib.ListN.{length, drop, get_or}
use Rattle.number_offsets.specs.Offsets.{place_of}
use Rattle.number_offsets.specs.declared.PacketOffset.{PacketOffset}
use Rattle.std.specs.Prelude.{Option, Some, None}
use Rattle.number_offsets.specs.declared.OriginalOffset.{OriginalOffset}
use Rattle.wire_nops.specs.Nops.{nop_limit, nops_of, is_padding}
use Rattle.wire_nops.specs.declared.Strictness.{Strictness}
use Rattle.wire_step.specs.Kinds.{class_of, eol, frag}
use Rattle.wire_step.specs.Step.{step_of}
use Rattle.wire_step.specs.declared.Step.{Step}
use Rattle.wire_step.specs.declared.Step.TheVariants.{End, Eol, Nop, Found, Malformed as Unsound, Outlawed}
use Rattle.wire_step.proofs.Steps.{step-found}
use Rattle.wire_options.specs.Walk.{Located, Walked, listed, faulty, walk_from, option_limit}
use Rattle.wire_options.specs.Strict.{walk_by}
use Rattle.wire_area.specs.Area.{
  AreaWalk,
  plain,
  piece,
  fault,
  fields_of,
  placed_at,
  fragment_of,
  plainly,
  piece_with,
  up_to_start,
  behind_frag,
  led_by,
  offset_in,
  behind_nops,
  area_of,
}
use Rattle.wire_options.specs.declared.walk.Fault.TheVariants.{FragData, Padded}
use Rattle.wire_area.specs.declared.Fields.{Fields}
use Rattle.wire_area.specs.declared.Fragment.{Fragment}
use Rattle.wire_options.proofs.Stricts.{listed_plain}

-- ---- FRAG

-- a FRAG that was found is whole: 10 bytes, or 12
pub frag-found : (l : List ℕ) (kind h s : ℕ) → step_of l ≡ Found kind h s → get_or l 0 0 ≡ frag → (10 ≤ length l) × (s ≤ length l)
unfolding class_of
frag-found l kind h s e k =
    let f = step-found l kind h s e in
    let long : 10 ≤ s = ⊎_elim (λ u. omega arith) (λ u. omega arith) (f.fixed 10 12 (ap class_of (f.front ∙ k))) in
    (omega (arith, f.sized.fits), f.sized.fits)

abbrev start_of : Option Fragment → ℕ
start_of (Some f) = f.start.0
start_of None = 0

abbrev end_of : Option Fragment → ℕ
end_of (Some f) = f.end.0
end_of None = 0

-- a fragment's bytes start behind FRAG and end with the list
pub fragment-within : (fields : Fields) (base behind size : ℕ) (f : Fragment) → fragment_of fields base behind size ≡ Some f
    → (base + behind ≤ f.start.0) × (f.start.0 ≤ base + size) × (f.end.0 ≡ base + size)
unfolding fragment_of
fragment-within fields base behind size f =
    go (leb (base + behind) fields.start.0) (leb fields.start.0 (base + size)) (place_of fields.offset) (place_of fields.option_start) refl refl
  where
    go : (s t : Bool) (o r : Option OriginalOffset) → leb (base + behind) fields.start.0 ≡ s → leb fields.start.0 (base + size) ≡ t
        → cond (s && t) (placed_at fields (base + size) o r) None ≡ Some f → (base + behind ≤ f.start.0) × (f.start.0 ≤ base + size) × (f.end.0 ≡ base + size)
    go false t o r p q e = cc
    go true false o r p q e = cc
    go true true None r p q e = cc
    go true true (Some o) None p q e = cc
    go true true (Some o) (Some r) p q e =
        let same : fields.start.0 ≡ f.start.0 = ap start_of e in
        (omega (arith, leb-true (base + behind) fields.start.0 p), omega (arith, leb-true fields.start.0 (base + size) q), sym (ap end_of e))

-- ---- a list whose walk gives options

piece-not : (f : Fragment) (w : Walked) (options : List Located) (fill : ℕ) → piece_with f w ≡ plain options fill → ⊥
piece-not f (listed others n) options fill e = cc
piece-not f (faulty x n) options fill e = cc

behind-not : (how : Strictness) (empty : Bool) (l : List ℕ) (base nops n : ℕ) (p : Option Fragment) (options : List Located) (fill : ℕ)
    → behind_frag how empty l base nops n p ≡ plain options fill → ⊥
behind-not how empty l base nops n None options fill e = cc
behind-not how false l base nops n (Some f) options fill e = cc
behind-not how true l base nops n (Some f) options fill e = piece-not f (walk_by how (option_limit - 1) 0 (up_to_start f base n l)) options fill e

-- a list that FRAG leads gives none
led-not : (how : Strictness) (empty : Bool) (l : List ℕ) (base nops : ℕ) (step : Step) (options : List Located) (fill : ℕ)
    → led_by how empty l base nops step ≡ plain options fill → ⊥
led-not how empty l base nops (Found kind header size) options fill e =
    behind-not how empty l base nops (nops + size) (fragment_of (fields_of size (drop nops l)) base (nops + size) (length l)) options fill e
led-not how empty l base nops End options fill e = cc
led-not how empty l base nops Eol options fill e = cc
led-not how empty l base nops Nop options fill e = cc
led-not how empty l base nops Unsound options fill e = cc
led-not how empty l base nops Outlawed options fill e = cc

plain-listed : (end : ℕ) (w : Walked) (options : List Located) (fill : ℕ) → plainly end w ≡ plain options fill → w ≡ listed options fill
plain-listed end (listed others n) options fill e = cc
plain-listed end (faulty x n) options fill e = cc

-- a list that comes to anything but "padded" has no padding at its front
pub no-padding : (how : Strictness) (empty : Bool) (base : ℕ) (l : List ℕ) (w : AreaWalk) → area_of how empty base l ≡ w → ((at : PacketOffset) → w ≡ fault Padded at → ⊥)
    → (is_padding how (nops_of l) ≡ false) × (behind_nops how empty base l ≡ w)
unfolding area_of
no-padding how empty base l w e other = go (is_padding how (nops_of l)) refl e
  where
    go : (t : Bool) → is_padding how (nops_of l) ≡ t → cond t (fault Padded (offset_in base nop_limit)) (behind_nops how empty base l) ≡ w
        → (is_padding how (nops_of l) ≡ false) × (behind_nops how empty base l ≡ w)
    go true p q = absurd (other _ (sym q))
    go false p q = (p, q)

-- options and fill are those of the plain walk in which FRAG has no place
pub area-plain : (how : Strictness) (empty : Bool) (base : ℕ) (l : List ℕ) (options : List Located) (fill : ℕ) → area_of how empty base l ≡ plain options fill
    → walk_from option_limit 0 l ≡ listed options fill
area-plain how empty base l options fill e =
    go (eqb (get_or l (nops_of l) eol) frag) (no-padding how empty base l (plain options fill) e (λ at p. cc)).1
  where
    go : (t : Bool) → cond t (led_by how empty l base (nops_of l) (step_of (drop (nops_of l) l))) (plainly (base + length l) (walk_by how option_limit 0 l)) ≡ plain options fill
        → walk_from option_limit 0 l ≡ listed options fill
    go true e = absurd (led-not how empty l base (nops_of l) (step_of (drop (nops_of l) l)) options fill e)
    go false e = listed_plain how option_limit l options fill (plain-listed (base + length l) (walk_by how option_limit 0 l) options fill e)

-- ---- a list that is a fragment's

pub plain-not : (end : ℕ) (w : Walked) (f : Fragment) → plainly end w ≡ piece f → ⊥
plain-not end (listed others n) f e = cc
plain-not end (faulty x n) f e = cc

-- FRAG is the first option that is no NOP, and passes its tests: the fragment that it says
pub record Leads (base : ℕ) (l : List ℕ) (f : Fragment) : Type 0 where
  pub kind : ℕ
  pub header : ℕ
  pub size : ℕ
  pub first : eqb (get_or l (nops_of l) eol) frag ≡ true
  pub found : step_of (drop (nops_of l) l) ≡ Found kind header size
  pub sound : fragment_of (fields_of size (drop (nops_of l) l)) base (nops_of l + size) (length l) ≡ Some f

-- what the walk comes to behind such a FRAG, unless the NOPs in front are padding
pub led-area : (how : Strictness) (empty : Bool) (base : ℕ) (l : List ℕ) (f : Fragment) (led : Leads base l f)
    → area_of how empty base l ≡ cond (is_padding how (nops_of l)) (fault Padded (offset_in base nop_limit)) (behind_frag how empty l base (nops_of l) (nops_of l + led.size) (Some f))
unfolding area_of
led-area how empty base l f led =
    ap (cond (is_padding how (nops_of l)) (fault Padded (offset_in base nop_limit)))
    (ap (λ (t : Bool). cond t (led_by how empty l base (nops_of l) (step_of (drop (nops_of l) l))) (plainly (base + length l) (walk_by how option_limit 0 l))) led.first
    ∙ ap (led_by how empty l base (nops_of l)) led.found ∙ ap (behind_frag how empty l base (nops_of l) (nops_of l + led.size)) led.sound)

-- the same where the list comes to anything but "padded"
pub led-behind : (how : Strictness) (empty : Bool) (base : ℕ) (l : List ℕ) (f : Fragment) (led : Leads base l f) (w : AreaWalk)
    → area_of how empty base l ≡ w → ((at : PacketOffset) → w ≡ fault Padded at → ⊥) → behind_frag how empty l base (nops_of l) (nops_of l + led.size) (Some f) ≡ w
led-behind how empty base l f led w e other =
    let n = no-padding how empty base l w e other in
    sym (ap (λ (t : Bool). cond t (fault Padded (offset_in base nop_limit)) (behind_frag how empty l base (nops_of l) (nops_of l + led.size) (Some f))) n.0)
    ∙ sym (led-area how empty base l f led) ∙ e

-- with user data a FRAG that passes its tests is "fragdata" at once, whatever stands behind it
pub data-at-once : (how : Strictness) (base : ℕ) (l : List ℕ) (f : Fragment) → is_padding how (nops_of l) ≡ false → Leads base l f
    → area_of how false base l ≡ fault FragData (offset_in base (nops_of l))
data-at-once how base l f few led = led-area how false base l f led ∙ ap (λ (t : Bool). cond t (fault Padded (offset_in base nop_limit)) (fault FragData (offset_in base (nops_of l)))) few

with-same : (f g : Fragment) (w : Walked) → piece_with g w ≡ piece f → g ≡ f
with-same f g (listed options fill) q = cc
with-same f g (faulty x n) q = cc

behind-same : (how : Strictness) (empty : Bool) (l : List ℕ) (base nops behind : ℕ) (f g : Fragment) → behind_frag how empty l base nops behind (Some g) ≡ piece f
    → g ≡ f
behind-same how true l base nops behind f g q = with-same f g (walk_by how (option_limit - 1) 0 (up_to_start g base behind l)) q
behind-same how false l base nops behind f g q = cc

-- a piece is the fragment of the FRAG that leads its list
pub piece-leads : (how : Strictness) (empty : Bool) (base : ℕ) (l : List ℕ) (f : Fragment) → area_of how empty base l ≡ piece f → Leads base l f
piece-leads how empty base l f q =
    go (eqb (get_or l nops eol) frag) refl (no-padding how empty base l (piece f) q (λ at p. cc)).1
  where
    nops : ℕ
    nops = nops_of l

    placed : (kind header size : ℕ) → eqb (get_or l nops eol) frag ≡ true → step_of (drop nops l) ≡ Found kind header size → (p : Option Fragment)
        → fragment_of (fields_of size (drop nops l)) base (nops + size) (length l) ≡ p → behind_frag how empty l base nops (nops + size) p ≡ piece f → Leads base l f
    placed kind header size c e None s q = cc
    placed kind header size c e (Some g) s q = record {
      kind = kind;
      header = header;
      size = size;
      first = c;
      found = e;
      sound = s ∙ ap Some (behind-same how empty l base nops (nops + size) f g q);
    }

    led : (step : Step) → eqb (get_or l nops eol) frag ≡ true → step_of (drop nops l) ≡ step → led_by how empty l base nops step ≡ piece f → Leads base l f
    led End c e q = cc
    led Eol c e q = cc
    led Nop c e q = cc
    led Unsound c e q = cc
    led Outlawed c e q = cc
    led (Found kind header size) c e q =
        placed kind header size c e (fragment_of (fields_of size (drop nops l)) base (nops + size) (length l)) refl q

    go : (t : Bool) → eqb (get_or l nops eol) frag ≡ t
        → cond t (led_by how empty l base nops (step_of (drop nops l))) (plainly (base + length l) (walk_by how option_limit 0 l)) ≡ piece f → Leads base l f
    go true c q = led (step_of (drop nops l)) c refl q
    go false c q = absurd (plain-not (base + length l) (walk_by how option_limit 0 l) f q)

-- a datagram with user data is no piece
pub data-not-piece : (how : Strictness) (base : ℕ) (l : List ℕ) (f : Fragment) → area_of how false base l ≡ piece f → ⊥
data-not-piece how base l f e =
    let q = led-behind how false base l f (piece-leads how false base l f e) (piece f) e (λ at p. cc) in
    cc

-- its bytes start within the list, or right behind it, and end with it
pub record Ends (base : ℕ) (l : List ℕ) (f : Fragment) : Type 0 where
  pub starts : f.start.0 ≤ base + length l
  pub ends : f.end.0 ≡ base + length l

pub area-piece : (how : Strictness) (empty : Bool) (base : ℕ) (l : List ℕ) (f : Fragment) → area_of how empty base l ≡ piece f → Ends base l f
area-piece how empty base l f e =
    let led = piece-leads how empty base l f e in
    let w = fragment-within (fields_of led.size (drop (nops_of l) l)) base (nops_of l + led.size) (length l) f led.sound in
    record { starts = w.1; ends = w.2 }
