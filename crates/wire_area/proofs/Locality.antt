-- The list of a piece is cut at Frag. Start, behind FRAG: so the bytes behind Frag. Start change nothing.
-- Assumes nothing.
use mathlib.Core.Path.{◌≡◌, refl, sym, ap, ap₂, ◌∙◌}
use mathlib.Core.Bool.{Bool, true, false, cond}
use mathlib.Core.List.{List, [], ◌∷◌}
use mathlib.Core.Logic.{⊎_elim}
use Prim.Native.Nat.{ℕ, zero, suc, ◌+◌, ◌-◌, ◌≤◌, ◌<◌}
use native.Mathlib.Nat.{add-zero}
use native.Mathlib.Omega.{arith}
use borrow.Author.Tests.{eqb-true}
use lib.Dec.{eqb}
use lib.ListN.{length, take, drop, get_or, length-drop}
use lib.Seq.{get_or-drop}
use Rattle.number_octets.specs.Octets.{number, part}
use Rattle.number_offsets.specs.Offsets.{udp_header}
use Rattle.wire_nops.specs.Nops.{nop_limit, nops_of, is_padding}
use Rattle.wire_nops.specs.declared.Strictness.{Strictness}
use Rattle.wire_step.specs.Kinds.{class_of, eol, nop, frag, last_frag_size}
use Rattle.wire_step.specs.Step.{step_of}
use Rattle.wire_step.specs.declared.Step.TheVariants.{Found}
use Rattle.wire_step.proofs.Steps.{step-found}
use Rattle.wire_step.proofs.Locality.{byte-same, part_same, step_local}
use Rattle.wire_options.specs.Walk.{option_limit}
use Rattle.wire_options.specs.Strict.{walk_by}
use Rattle.wire_options.specs.declared.walk.Fault.TheVariants.{Padded}
use Rattle.wire_area.specs.Area.{fields_of, fragment_of, piece, fault, piece_with, offset_in, behind_frag, area_of}
use Rattle.wire_area.specs.declared.Fields.{Fields}
use Rattle.wire_area.specs.declared.Fragment.{Fragment}
use Rattle.std.specs.Prelude.{Some}
use Rattle.wire_area.proofs.Areas.{fragment-within, Leads, led-area, piece-leads}

-- the NOPs at the front are known by them and the byte behind them
nops-local : (n : ℕ) (l m : List ℕ) → length l ≡ length m → take n l ≡ take n m → nops_of l < n → nops_of m ≡ nops_of l
unfolding nops_of
nops-local n [] [] len same h = refl
nops-local n [] (c ∷ cs) len same h = absurd (omega arith)
nops-local n (b ∷ bs) [] len same h = absurd (omega arith)
nops-local zero (b ∷ bs) (c ∷ cs) len same h = absurd (omega arith)
nops-local (suc n) (b ∷ bs) (c ∷ cs) len same h =
    let front : c ≡ b = cc in
    let rest : take n bs ≡ take n cs = cc in
    ap (λ (k : ℕ). cond (eqb k nop) (1 + nops_of cs) 0) front ∙ go (eqb b nop) h (nops-local n bs cs (omega arith) rest)
  where
    go : (t : Bool) → cond t (1 + nops_of bs) 0 < suc n → (nops_of bs < n → nops_of cs ≡ nops_of bs) → cond t (1 + nops_of cs) 0 ≡ cond t (1 + nops_of bs) 0
    go true h ih = ap (λ (k : ℕ). 1 + k) (ih (omega arith))
    go false h ih = refl

fields-local : (size n : ℕ) (l m : List ℕ) → take n l ≡ take n m → 10 ≤ size → size ≤ n → fields_of size l ≡ fields_of size m
unfolding fields_of
fields-local size n l m same long fits =
    let start : number (part 2 2 l) ≡ number (part 2 2 m) = ap number (part_same 2 2 n l m same (omega arith)) in
    let identification : number (part 4 4 l) ≡ number (part 4 4 m) = ap number (part_same 4 4 n l m same (omega arith)) in
    let offset : number (part 8 2 l) ≡ number (part 8 2 m) = ap number (part_same 8 2 n l m same (omega arith)) in
    let last : cond (eqb size last_frag_size) (number (part 10 2 l)) udp_header ≡ cond (eqb size last_frag_size) (number (part 10 2 m)) udp_header =
    go (eqb size last_frag_size) refl in
    cc
  where
    go : (t : Bool) → eqb size last_frag_size ≡ t → cond t (number (part 10 2 l)) udp_header ≡ cond t (number (part 10 2 m)) udp_header
    go true e = ap number (part_same 10 2 n l m same (omega (arith, eqb-true size last_frag_size e)))
    go false e = refl

frag-long : (l : List ℕ) (kind h s : ℕ) → step_of l ≡ Found kind h s → get_or l 0 0 ≡ frag → 10 ≤ s
unfolding class_of
frag-long l kind h s e k =
    let f = step-found l kind h s e in
    ⊎_elim (λ u. omega arith) (λ u. omega arith) (f.fixed 10 12 (ap class_of (f.front ∙ k)))

-- the options behind FRAG are walked up to Frag. Start
behind-local : (how : Strictness) (empty : Bool) (l m : List ℕ) (base nops behind : ℕ) (f : Fragment) → base + behind ≤ f.start.0
    → take (f.start.0 - base) l ≡ take (f.start.0 - base) m
    → behind_frag how empty l base nops behind (Some f) ≡ behind_frag how empty m base nops behind (Some f)
behind-local how false l m base nops behind f h same = refl
behind-local how true l m base nops behind f h same =
    ap (λ (t : List ℕ). piece_with f (walk_by how (option_limit - 1) 0 t))
    (part_same behind (f.start.0 - (base + behind)) (f.start.0 - base) l m same (omega arith))

module _
    (base : ℕ)
    (l m : List ℕ)
    (f : Fragment)
    (len : length l ≡ length m)
    (same : take (f.start.0 - base) l ≡ take (f.start.0 - base) m) where
  abbrev n : ℕ
  n = f.start.0 - base

  abbrev nops : ℕ
  nops = nops_of l

  -- FRAG stands before Frag. Start
  ahead : (led : Leads base l f) → (base + (nops + led.size) ≤ f.start.0) × (nops < n)
  ahead led =
      let w = fragment-within (fields_of led.size (drop nops l)) base (nops + led.size) (length l) f led.sound in
      let z = step-found (drop nops l) led.kind led.header led.size led.found in
      (w.0, omega (arith, w.0, z.sized.least))

  nops-same : Leads base l f → nops_of m ≡ nops
  nops-same led = nops-local n l m len same (ahead led).1

  led-local : (led : Leads base l f) → Leads base m f
  led-local led =
      let h = ahead led in
      let size : ℕ = led.size in
      let before : nops + size ≤ n = omega (arith, h.0) in
      let some : nops < n = h.1 in
      let leads : get_or (drop nops l) 0 0 ≡ frag =
      get_or-drop nops l 0 0 ∙ ap (λ (i : ℕ). get_or l i 0) (add-zero nops) ∙ eqb-true (get_or l nops eol) frag led.first in
      let tails : take (n - nops) (drop nops l) ≡ take (n - nops) (drop nops m) = part_same nops (n - nops) n l m same (omega arith) in
      let lengths : length (drop nops l) ≡ length (drop nops m) = length-drop nops l ∙ ap (λ (i : ℕ). i - nops) len ∙ sym (length-drop nops m) in
      let fields : fields_of size (drop nops l) ≡ fields_of size (drop nops m) =
      fields-local size (n - nops) (drop nops l) (drop nops m) tails (frag-long (drop nops l) led.kind led.header size led.found leads)
      (omega arith) in
      let at : nops_of m ≡ nops = nops-same led in
      record {
        kind = led.kind;
        header = led.header;
        size = size;
        first =
            ap (λ (i : ℕ). eqb (get_or m i eol) frag) at ∙ ap (λ (b : ℕ). eqb b frag) (sym (byte-same n nops l m same some)) ∙ led.first;
        found =
            ap (λ (i : ℕ). step_of (drop i m)) at
            ∙ step_local (n - nops) (drop nops l) (drop nops m) led.kind led.header size lengths tails (omega arith) led.found;
        sound =
            ap (λ (i : ℕ). fragment_of (fields_of size (drop i m)) base (i + size) (length m)) at
            ∙ ap₂ (λ (x : Fields) (i : ℕ). fragment_of x base (nops + size) i) (sym fields) (sym len) ∙ led.sound;
      }

  area-local : (how : Strictness) (empty : Bool) → Leads base l f → area_of how empty base m ≡ area_of how empty base l
  unfolding led-local
  area-local how empty led =
      led-area how empty base m f (led-local led)
      ∙ ap (λ (i : ℕ). cond (is_padding how i) (fault Padded (offset_in base nop_limit)) (behind_frag how empty m base i (i + led.size) (Some f))) (nops-same led)
      ∙ ap (cond (is_padding how nops) (fault Padded (offset_in base nop_limit))) (sym (behind-local how empty l m base nops (nops + led.size) f (ahead led).0 same))
      ∙ sym (led-area how empty base l f led)

-- Where FRAG leads, the walk looks at no byte behind Frag. Start, whatever it comes to: a piece, or the fault met first.
pub behind-frag-start : (how : Strictness) (empty : Bool) (base : ℕ) (l m : List ℕ) (f : Fragment) → Leads base l f → length l ≡ length m
    → take (f.start.0 - base) l ≡ take (f.start.0 - base) m → area_of how empty base m ≡ area_of how empty base l
behind-frag-start how empty base l m f led len same = area-local base l m f len same how empty led

-- a piece is such a list, so its walk looks at no byte of the piece itself
pub behind-piece : (how : Strictness) (empty : Bool) (base : ℕ) (l m : List ℕ) (f : Fragment) → area_of how empty base l ≡ piece f → length l ≡ length m
    → take (f.start.0 - base) l ≡ take (f.start.0 - base) m → area_of how empty base m ≡ piece f
behind-piece how empty base l m f q len same = behind-frag-start how empty base l m f (piece-leads how empty base l f q) len same ∙ q
