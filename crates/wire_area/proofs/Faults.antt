-- What a fault comes of, and where it is met: of the walk of the whole list; where FRAG leads it and there is no user data, of the walk of the options
-- up to Frag. Start; or, malformed or fragdata, of the FRAG that leads. No byte behind Frag. Start is looked at for it.
-- Assumes nothing.
use mathlib.Core.Path.{◌≡◌, refl, sym, ap, ◌∙◌}
use mathlib.Core.Bool.{Bool, true, false, cond}
use mathlib.Core.List.{List}
use mathlib.Core.Logic.{◌⊎◌, inl, inr, ⊎_elim}
use Prim.Native.Nat.{ℕ, ◌+◌, ◌-◌, ◌<◌}
use native.Mathlib.Omega.{arith}
use lib.Dec.{eqb}
use lib.ListN.{length, drop, get_or}
use Rattle.number_offsets.specs.declared.PacketOffset.{PacketOffset}
use Rattle.wire_nops.specs.Nops.{nop_limit, nops_of, is_padding}
use Rattle.wire_nops.specs.declared.Strictness.{Strictness}
use Rattle.wire_nops.proofs.Counts.{nops-within, padding-limit}
use Rattle.wire_step.specs.Kinds.{eol, frag}
use Rattle.wire_step.specs.Step.{step_of}
use Rattle.wire_step.specs.declared.Step.{Step}
use Rattle.wire_step.specs.declared.Step.TheVariants.{End, Eol, Nop, Found, Malformed as Unsound, Outlawed}
use Rattle.wire_options.specs.Walk.{Walked, listed, faulty, offset_before, option_limit}
use Rattle.wire_options.specs.Strict.{walk_by}
use Rattle.wire_options.specs.declared.walk.Fault.{Fault}
use Rattle.wire_options.specs.declared.walk.Fault.TheVariants.{Malformed, FragData, Padded}
use Rattle.wire_options.proofs.Runs.{run-padded}
use Rattle.wire_area.specs.Area.{fields_of, fragment_of, fault, plainly, piece_with, up_to_start, offset_in, behind_frag, led_by, behind_nops, area_of}
use Rattle.wire_area.specs.declared.Fragment.{Fragment}
use Rattle.std.specs.Prelude.{Option, Some, None}
use Rattle.wire_area.proofs.Areas.{Leads}

-- the walk of a list that ends at the packet offset `end` comes to a fault, and meets it at this offset
pub record WalkFault (how : Strictness) (room : ℕ) (x : Fault) (end : ℕ) (l : List ℕ) (at : PacketOffset) : Type 0 where
  pub remains : ℕ
  pub faults : walk_by how room 0 l ≡ faulty x remains
  pub met : at ≡ offset_before end remains

-- FRAG leads, and the walk of the options up to Frag. Start comes to a fault
pub record PieceFault (how : Strictness) (x : Fault) (base : ℕ) (l : List ℕ) (at : PacketOffset) : Type 0 where
  pub fragment : Fragment
  pub led : Leads base l fragment
  pub walk : WalkFault how (option_limit - 1) x fragment.start.0 (up_to_start fragment base (nops_of l + led.size) l) at

-- the FRAG that leads is the fault, and is met at its kind byte: it is malformed, or passes its tests beside user data
pub record FragFault (empty : Bool) (x : Fault) (base : ℕ) (l : List ℕ) (at : PacketOffset) : Type 0 where
  pub first : eqb (get_or l (nops_of l) eol) frag ≡ true
  pub met : at ≡ offset_in base (nops_of l)
  pub which : (x ≡ Malformed) ⊎ ((x ≡ FragData) × (empty ≡ false))

abbrev pub AreaFault : Strictness → Bool → Fault → ℕ → List ℕ → PacketOffset → Type 0
AreaFault how empty x base l at =
    WalkFault how option_limit x (base + length l) l at ⊎ (((empty ≡ true) × PieceFault how x base l at) ⊎ FragFault empty x base l at)

plain-fault : (how : Strictness) (x : Fault) (end : ℕ) (l : List ℕ) (at : PacketOffset) (w : Walked) → walk_by how option_limit 0 l ≡ w
    → plainly end w ≡ fault x at → WalkFault how option_limit x end l at
plain-fault how x end l at (listed options fill) e q = cc
plain-fault how x end l at (faulty y remains) e q =
    let same : y ≡ x = cc in
    let there : offset_before end remains ≡ at = cc in
    record { remains = remains; faults = e ∙ ap (λ (z : Fault). faulty z remains) same; met = sym there }

with-fault : (how : Strictness) (x : Fault) (f : Fragment) (l : List ℕ) (at : PacketOffset) (w : Walked) → walk_by how (option_limit - 1) 0 l ≡ w
    → piece_with f w ≡ fault x at → WalkFault how (option_limit - 1) x f.start.0 l at
with-fault how x f l at (listed options fill) e q = cc
with-fault how x f l at (faulty y remains) e q =
    let same : y ≡ x = cc in
    let there : offset_before f.start.0 remains ≡ at = cc in
    record { remains = remains; faults = e ∙ ap (λ (z : Fault). faulty z remains) same; met = sym there }

pub area-cause : (how : Strictness) (empty : Bool) (base : ℕ) (l : List ℕ) (x : Fault) (at : PacketOffset) → area_of how empty base l ≡ fault x at
    → AreaFault how empty x base l at
unfolding area_of
area-cause how empty base l x at = front (is_padding how (nops_of l)) refl
  where
    nops : ℕ
    nops = nops_of l

    of-frag : eqb (get_or l nops eol) frag ≡ true → offset_in base nops ≡ at → (x ≡ Malformed) ⊎ ((x ≡ FragData) × (empty ≡ false))
        → AreaFault how empty x base l at
    of-frag c m w = inr (inr (record { first = c; met = sym m; which = w }))

    malformed : eqb (get_or l nops eol) frag ≡ true → fault Malformed (offset_in base nops) ≡ fault x at → AreaFault how empty x base l at
    malformed c q =
        let there : offset_in base nops ≡ at = cc in
        let same : x ≡ Malformed = cc in
        of-frag c there (inl same)

    behind : (kind header size : ℕ) → eqb (get_or l nops eol) frag ≡ true → step_of (drop nops l) ≡ Found kind header size → (p : Option Fragment)
        → fragment_of (fields_of size (drop nops l)) base (nops + size) (length l) ≡ p → (t : Bool) → empty ≡ t
        → behind_frag how t l base nops (nops + size) p ≡ fault x at → AreaFault how empty x base l at
    behind kind header size c e None s t b q = malformed c q
    behind kind header size c e (Some f) s false b q =
        let there : offset_in base nops ≡ at = cc in
        let beside : (x ≡ FragData) × (empty ≡ false) = (cc, b) in
        of-frag c there (inr beside)
    behind kind header size c e (Some f) s true b q =
        let of-piece : (empty ≡ true) × PieceFault how x base l at = (
          b,
          record {
            fragment = f;
            led = record { kind = kind; header = header; size = size; first = c; found = e; sound = s };
            walk = with-fault how x f (up_to_start f base (nops + size) l) at (walk_by how (option_limit - 1) 0 (up_to_start f base (nops + size) l)) refl q;
          },
        ) in
        inr (inl of-piece)

    led : (step : Step) → eqb (get_or l nops eol) frag ≡ true → step_of (drop nops l) ≡ step → led_by how empty l base nops step ≡ fault x at
        → AreaFault how empty x base l at
    led End c e q = malformed c q
    led Eol c e q = malformed c q
    led Nop c e q = malformed c q
    led Unsound c e q = malformed c q
    led Outlawed c e q = malformed c q
    led (Found kind header size) c e q =
        behind kind header size c e (fragment_of (fields_of size (drop nops l)) base (nops + size) (length l)) refl empty refl q

    go : (t : Bool) → eqb (get_or l nops eol) frag ≡ t
        → cond t (led_by how empty l base nops (step_of (drop nops l))) (plainly (base + length l) (walk_by how option_limit 0 l)) ≡ fault x at
        → AreaFault how empty x base l at
    go true c q = led (step_of (drop nops l)) c refl q
    go false c q = inl (plain-fault how x (base + length l) l at (walk_by how option_limit 0 l) refl q)

    front : (t : Bool) → is_padding how nops ≡ t → cond t (fault Padded (offset_in base nop_limit)) (behind_nops how empty base l) ≡ fault x at
        → AreaFault how empty x base l at
    front true p q =
        let same : Padded ≡ x = cc in
        let there : offset_in base nop_limit ≡ at = cc in
        let within : nop_limit < length l = omega (arith, padding-limit how nops p, nops-within l) in
        let offset : base + nop_limit ≡ base + length l - (length l - nop_limit) = omega arith in
        inl (record {
          remains = length l - nop_limit;
          faults = run-padded how option_limit l p ∙ ap (λ (z : Fault). faulty z (length l - nop_limit)) same;
          met = sym there ∙ ap (λ (n : ℕ). record { 0 = n }) offset;
        })
    front false p q = go (eqb (get_or l nops eol) frag) refl q

-- a fault that only walks come to
abbrev pub OfWalks : Fault → Type 0
OfWalks x = (x ≡ Malformed → ⊥) × (x ≡ FragData → ⊥)

pub area-fault : (how : Strictness) (empty : Bool) (base : ℕ) (l : List ℕ) (x : Fault) (at : PacketOffset) → OfWalks x
    → area_of how empty base l ≡ fault x at → WalkFault how option_limit x (base + length l) l at ⊎ ((empty ≡ true) × PieceFault how x base l at)
area-fault how empty base l x at other q =
    ⊎_elim inl (λ c. ⊎_elim inr (λ f. absurd (⊎_elim other.0 (λ d. other.1 d.0) f.which)) c) (area-cause how empty base l x at q)
