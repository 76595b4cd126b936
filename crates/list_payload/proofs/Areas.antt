-- The area that the writer makes passes every test of the reader: zero pad, an option checksum that is there and right, and a list that the
-- walk reads as the options and the fill.
-- Assumes nothing.
use mathlib.Core.Path.{◌≡◌, refl, sym, ap, ◌∙◌}
use mathlib.Core.Bool.{Bool, true, false, cond}
use mathlib.Core.List.{List, [], ◌∷◌, ◌++◌, append_assoc}
use mathlib.Core.Logic.{⊎_elim}
use Prim.Native.Nat.{ℕ, zero, suc, ◌+◌, ◌≤◌, ◌<◌}
use native.Mathlib.Omega.{arith}
use borrow.Author.Tests.{ne_eqb}
use lib.Dec.{leb}
use lib.ListN.{length, take, drop, replicate, length-append}
use lib.Seq.{take_at, drop_at}
use Rattle.std.proofs.Common.{Ok}
use Rattle.number_octets.specs.Octets.{number, octets}
use Rattle.number_octets.proofs.Laws.{length-octets, number-octets}
use Rattle.number_checksum.specs.Checksum.{word_sum, folded, sent, all_ones, parity_after}
use Rattle.number_checksum.proofs.Laws.{sent-pos, sent-le, folded-le, field-law}
use Rattle.wire_nops.specs.Nops.{nop_limit, nops_of}
use Rattle.wire_nops.specs.declared.Strictness.{Strictness}
use Rattle.wire_nops.specs.declared.Strictness.TheVariants.{Plain, Strict}
use Rattle.wire_step.specs.Kinds.{class_of, nop, frag}
use Rattle.wire_step.specs.declared.Class.TheVariants.{NoOperation, Fixed, Varying}
use Rattle.wire_options.specs.Walk.{Item, Located, listed, walk_from, option_limit}
use Rattle.wire_options.specs.Strict.{strict_from, walk_by}
use Rattle.wire_area.specs.Area.{plain, plainly, area_of as area_walk}
use Rattle.wire_surplus.specs.Surplus.{pad_of, ocs_of, start_of}
use Rattle.wire_surplus.proofs.Starts.{start-odd, start-even, summed-right}
use Rattle.list_encoding.specs.Wire.{longest_short}
use Rattle.list_payload.specs.Payload.{wire_of, wires, standing, padding, area_with, area_of}
use Rattle.list_payload.proofs.Wires.{Wired, Each, walk-wires}

-- ---- no NOP and no FRAG leads

wire-front : (item : Item) (rest : List ℕ) → (t : List ℕ) × (wire_of item ++ rest ≡ item.kind ∷ t)
unfolding wire_of
wire-front item rest = go (leb (length item.body + 2) longest_short)
  where
    go : (s : Bool) → (t : List ℕ)
        × (cond s (item.kind ∷ (length item.body + 2) ∷ item.body) (item.kind ∷ 255 ∷ (octets 2 (length item.body + 4) ++ item.body)) ++ rest
        ≡ item.kind ∷ t)
    go true = ((length item.body + 2) ∷ (item.body ++ rest), refl)
    go false = (255 ∷ ((octets 2 (length item.body + 4) ++ item.body) ++ rest), refl)

-- the kind of a written option is no NOP
no_nop : (item : Item) → Wired item → item.kind ≡ nop → ⊥
unfolding class_of
no_nop item w e =
    ⊎_elim
    (λ v. let c : NoOperation ≡ Varying = sym (ap class_of e) ∙ v.0 in let z : ◌≡◌ {A = ℕ} 0 1 = cc in omega arith)
    (λ f. let c : NoOperation ≡ Fixed f.0 f.0 = sym (ap class_of e) ∙ f.1 in let z : ◌≡◌ {A = ℕ} 0 1 = cc in omega arith)
    w.class

-- a list whose first byte is neither NOP nor FRAG is walked without FRAG
plain-front : (how : Strictness) (empty : Bool) (base b : ℕ) (l : List ℕ) → (b ≡ nop → ⊥) → (b ≡ frag → ⊥)
    → area_walk how empty base (b ∷ l) ≡ plainly (base + suc (length l)) (walk_by how option_limit 0 (b ∷ l))
unfolding area_walk nop_limit nops_of
plain-front Plain empty base b l p q = simp (ne_eqb b nop p, ne_eqb b frag q)
plain-front Strict empty base b l p q = simp (ne_eqb b nop p, ne_eqb b frag q)

-- a list that starts so, once the walk of it is known
plainly-walked : (how : Strictness) (empty : Bool) (base : ℕ) (l : List ℕ) (b : ℕ) (t : List ℕ) (options : List Located) (fill : ℕ) → l ≡ b ∷ t → (b ≡ nop → ⊥) → (b ≡ frag → ⊥)
    → walk_by how option_limit 0 l ≡ listed options fill → area_walk how empty base l ≡ plain options fill
plainly-walked how empty base l b t options fill e p q w =
    ap (area_walk how empty base) e ∙ plain-front how empty base b t p q ∙ ap (λ (x : List ℕ). plainly (base + length x) (walk_by how option_limit 0 x)) (sym e) ∙ ap (plainly (base + length l)) w

nothing-listed : (how : Strictness) (empty : Bool) (base : ℕ) → area_walk how empty base [] ≡ plain [] 0
unfolding area_walk nop_limit nops_of walk_from strict_from
nothing-listed Plain empty base = refl
nothing-listed Strict empty base = refl

wires-none : (fill : ℕ) → wires [] ++ replicate fill 0 ≡ replicate fill 0
unfolding wires
wires-none fill = refl

wires-some : (item : Item) (items : List Item) (fill : ℕ) → wires (item ∷ items) ++ replicate fill 0 ≡ wire_of item ++ (wires items ++ replicate fill 0)
unfolding wires
wires-some item items fill = append_assoc (wire_of item) (wires items) (replicate fill 0)

pub plain-area : (how : Strictness) (empty : Bool) (base : ℕ) (items : List Item) (fill : ℕ) → Each items → length items ≤ option_limit
    → area_walk how empty base (wires items ++ replicate fill 0) ≡ plain (standing items fill) fill
plain-area how empty base [] zero each few = ap (area_walk how empty base) (wires-none 0) ∙ nothing-listed how empty base
plain-area how empty base [] (suc fill) each few =
    plainly-walked how empty base (wires [] ++ replicate (suc fill) 0) 0 (replicate fill 0) [] (suc fill) (wires-none (suc fill))
    (λ e. omega arith) (λ e. omega arith) (walk-wires how option_limit [] (suc fill) each few)
plain-area how empty base (item ∷ items) fill each few =
    let f = wire-front item (wires items ++ replicate fill 0) in
    plainly-walked how empty base (wires (item ∷ items) ++ replicate fill 0) item.kind f.0 (standing (item ∷ items) fill) fill (wires-some item items fill ∙ f.1)
    (no_nop item each.0) each.0.no_frag (walk-wires how option_limit (item ∷ items) fill each few)

-- ---- the option checksum

-- what goes into the option checksum field
abbrev pub ocs_for : Bool → List ℕ → ℕ
ocs_for odd list = let blank = area_with odd (0 ∷ 0 ∷ []) list in sent (folded (length blank + word_sum odd blank))

pub area-is : (odd : Bool) (list : List ℕ) → area_of odd list ≡ area_with odd (octets 2 (ocs_for odd list)) list
unfolding area_of
area-is odd list = refl

ocs-small : (odd : Bool) (list : List ℕ) → ocs_for odd list < 65536
ocs-small odd list = let blank = area_with odd (0 ∷ 0 ∷ []) list in omega (arith, sent-le (folded (length blank + word_sum odd blank)))

-- the field is there
ocs-some : (odd : Bool) (list : List ℕ) → ocs_for odd list ≡ 0 → ⊥
ocs-some odd list e =
    let blank = area_with odd (0 ∷ 0 ∷ []) list in
    omega (arith, sent-pos (folded (length blank + word_sum odd blank)) (folded-le (length blank + word_sum odd blank)))

-- two bytes at the front of a list
front-two : (w : ℕ) (list : List ℕ) → w < 65536 → number (take 2 (octets 2 w ++ list)) ≡ w
front-two w list h = ap number (take_at (octets 2 w) list 2 (length-octets 2 w)) ∙ number-octets 2 w h

two-more : (w : ℕ) (list : List ℕ) → length (octets 2 w ++ list) ≡ 2 + length list
two-more w list = length-append (octets 2 w) list ∙ ap (λ (n : ℕ). n + length list) (length-octets 2 w)

-- with the field in it, the area sums to FFFF
summed : (odd : Bool) (list : List ℕ) → parity_after odd (length (padding odd)) ≡ false
    → length (area_with odd (octets 2 (ocs_for odd list)) list) ≡ length (area_with odd (0 ∷ 0 ∷ []) list)
    → folded (length (area_with odd (octets 2 (ocs_for odd list)) list) + word_sum odd (area_with odd (octets 2 (ocs_for odd list)) list)) ≡ all_ones
summed odd list even size =
    ap (λ (n : ℕ). folded (n + word_sum odd (area_with odd (octets 2 (ocs_for odd list)) list))) size
    ∙ field-law odd (length (area_with odd (0 ∷ 0 ∷ []) list)) (padding odd) list even

starts : (odd unused : Bool) (list : List ℕ) → start_of odd unused (area_with odd (octets 2 (ocs_for odd list)) list) ≡ Ok (pad_of odd + 2)
unfolding parity_after
starts true unused list =
    let w : ℕ = ocs_for true list in
    let area : List ℕ = area_with true (octets 2 w) list in
    let size : length (octets 2 w ++ list) ≡ 2 + length list = two-more w list in
    let long : length area ≡ length (area_with true (0 ∷ 0 ∷ []) list) = omega arith in
    let ocs : ocs_of true area ≡ w = front-two w list (ocs-small true list) in
    start-odd unused area (omega arith) refl
    ∙ summed-right true area unused (λ z. ocs-some true list (sym ocs ∙ z)) (summed true list refl long)
starts false unused list =
    let w : ℕ = ocs_for false list in
    let area : List ℕ = area_with false (octets 2 w) list in
    let size : length (octets 2 w ++ list) ≡ 2 + length list = two-more w list in
    let long : length area ≡ length (area_with false (0 ∷ 0 ∷ []) list) = omega arith in
    let ocs : ocs_of false area ≡ w = front-two w list (ocs-small false list) in
    start-even unused area (omega arith)
    ∙ summed-right false area unused (λ z. ocs-some false list (sym ocs ∙ z)) (summed false list refl long)

pub area-starts : (odd unused : Bool) (list : List ℕ) → start_of odd unused (area_of odd list) ≡ Ok (pad_of odd + 2)
area-starts odd unused list = ap (start_of odd unused) (area-is odd list) ∙ starts odd unused list

pub area-length : (odd : Bool) (list : List ℕ) → length (area_of odd list) ≡ pad_of odd + 2 + length list
area-length true list = ap length (area-is true list) ∙ omega (arith, two-more (ocs_for true list) list)
area-length false list = ap length (area-is false list) ∙ omega (arith, two-more (ocs_for false list) list)

-- the list is what stands behind pad and option checksum
pub area-list : (odd : Bool) (list : List ℕ) → drop (pad_of odd + 2) (area_of odd list) ≡ list
area-list true list = ap (drop 3) (area-is true list) ∙ drop_at (octets 2 (ocs_for true list)) list 2 (length-octets 2 (ocs_for true list))
area-list false list = ap (drop 2) (area-is false list) ∙ drop_at (octets 2 (ocs_for false list)) list 2 (length-octets 2 (ocs_for false list))
