-- An option that the walk finds has the body that its kind has in an encoded option list: the table of lengths on the wire and the table of shapes
-- agree row by row. Assumes nothing.
use mathlib.Core.Path.{◌≡◌, refl, sym, ap, ap₂, ◌∙◌}
use mathlib.Core.Bool.{true, false}
use mathlib.Core.List.{List, [], ◌∷◌}
use mathlib.Core.Logic.{⊎_elim}
use Prim.Native.Nat.{ℕ, suc, ◌-◌, ◌^◌, ◌≤◌, ◌<◌, zero-le}
use native.Mathlib.Omega.{arith}
use borrow.Author.Tests.{eqb-true, eqb-false, leb-true}
use lib.Dec.{eqb, leb}
use lib.ListN.{length, get_or}
use Rattle.number_octets.specs.Octets.{Octets, number, part}
use Rattle.number_octets.proofs.Laws.{number_lt, length_part, part_bytes}
use Rattle.wire_step.specs.Kinds.{class_of, frag}
use Rattle.wire_step.specs.Step.{header_of, sound, step_in, step_of}
use Rattle.wire_step.specs.declared.Class.{Class}
use Rattle.wire_step.specs.declared.Class.TheVariants.{EndOfList, NoOperation, Fixed, Varying, Unsafe}
use Rattle.wire_step.specs.declared.Step.TheVariants.{Found}
use Rattle.wire_step.proofs.Steps.{header-sound, step-found}
use Rattle.list_entry.specs.Shape.{Shape, fields, raw, barred, shape_of}
use Rattle.list_entry.specs.Option.{longest_body, total}
use Rattle.list_encoding.specs.Wire.{fields_on_wire}
use Rattle.list_entry.proofs.Shapes.{cond_cases, shape-raw}

-- ---- the classes of kinds, row by row

past : {k : ℕ} (n : ℕ) → n ≤ k → (k ≡ n → ⊥) → suc n ≤ k
past n h d = omega arith

class_cases : (kind : ℕ) (P : Class → Type 0) → P EndOfList → P NoOperation → (kind ≡ 2 → P (Fixed 6 6)) → (kind ≡ 3 → P (Fixed 10 12))
    → (kind ≡ 4 → P (Fixed 4 4)) → (kind ≡ 5 → P (Fixed 5 5)) → (kind ≡ 6 → P (Fixed 6 6)) → (kind ≡ 7 → P (Fixed 6 6))
    → (kind ≡ 8 → P (Fixed 10 10)) → (9 ≤ kind → kind ≤ 191 → P Varying) → P Unsafe → P (class_of kind)
unfolding class_of
class_cases kind P eol nop apc frag' mds mrds req res time body out =
    let t : (n : ℕ) → eqb kind n ≡ true → kind ≡ n = λ n e. eqb-true kind n e in
    let f : (n : ℕ) → eqb kind n ≡ false → kind ≡ n → ⊥ = λ n e. eqb-false kind n e in
    cond_cases P (eqb kind 0) _ _ (λ e. eol)
    (λ n0. cond_cases P (eqb kind 1) _ _ (λ e. nop)
    (λ n1. cond_cases P (eqb kind 2) _ _ (λ e. apc (t 2 e))
    (λ n2. cond_cases P (eqb kind 3) _ _ (λ e. frag' (t 3 e))
    (λ n3. cond_cases P (eqb kind 4) _ _ (λ e. mds (t 4 e))
    (λ n4. cond_cases P (eqb kind 5) _ _ (λ e. mrds (t 5 e))
    (λ n5. cond_cases P (eqb kind 6) _ _ (λ e. req (t 6 e))
    (λ n6. cond_cases P (eqb kind 7) _ _ (λ e. res (t 7 e))
    (λ n7. cond_cases P (eqb kind 8) _ _ (λ e. time (t 8 e))
    (λ n8. cond_cases P (leb kind 191) _ _
    (λ e. body (past 8 (past 7 (past 6 (past 5 (past 4 (past 3 (past 2 (past 1 (past 0 zero-le (f 0 n0)) (f 1 n1)) (f 2 n2)) (f 3 n3)) (f 4 n4)) (f 5 n5))
    (f 6 n6)) (f 7 n7)) (f 8 n8)) (leb-true kind 191 e))
    (λ e. out))))))))))

-- ---- the longest body: a length byte below 255, or two bytes behind a header of four

header-most : (l : List ℕ) (h s : ℕ) → Octets l → header_of l ≡ sound h s → s - h ≤ longest_body
header-most l h s b e =
    let z = header-sound l h s e in
    ⊎_elim
    (λ short. omega (arith, b 1))
    (λ long.
    let two : length (part 2 2 l) ≡ 2 = length_part 2 2 l (omega (arith, long.1, z.fits)) in
    let small : number (part 2 2 l) < 256 ^ 2 = rw two at (number_lt (part 2 2 l) (part_bytes 2 2 l b)) in
    omega (arith, long.0, long.2))
    z.read

-- ---- an option that was found

-- the length of a body by the shape of its kind
abbrev pub Fitting : ℕ → Shape → ℕ → Type 0
Fitting kind (fields widths) size = size ≡ fields_on_wire kind
Fitting kind raw size = size ≤ longest_body
Fitting kind barred size = ⊥

module _ (l : List ℕ) (kind h s : ℕ) (e : step_of l ≡ Found kind h s) where
  -- a fixed length below 255 stands behind a short header
  pub fixed-length : (k a : ℕ) → kind ≡ k → class_of k ≡ Fixed a a → a < 255 → (h ≡ 2) × (s ≡ a)
  fixed-length k a q c small =
      let f = step-found l kind h s e in
      let size : s ≡ a = ⊎_elim (λ u. u) (λ u. u) (f.fixed a a (ap class_of q ∙ c)) in
      (f.sized.short (omega arith), size)

  row : (k a : ℕ) (widths : List ℕ) → kind ≡ k → class_of k ≡ Fixed a a → a < 255 → shape_of k ≡ fields widths → a - 2 ≡ fields_on_wire k
      → Fitting kind (shape_of kind) (s - h)
  row k a widths q c small shape size =
      let r = fixed-length k a q c small in
      let same : shape_of kind ≡ fields widths = ap shape_of q ∙ shape in
      rw same (ap₂ ◌-◌ r.1 r.0 ∙ size ∙ ap fields_on_wire (sym q))

  pub found-fits : (kind ≡ frag → ⊥) → Octets l → Fitting kind (shape_of kind) (s - h)
  unfolding step_of class_of shape_of fields_on_wire total
  found-fits d b = go l refl e
    where
      Goal : Class → Type 0
      Goal class = step_in class l ≡ Found kind h s → Fitting kind (shape_of kind) (s - h)

      by-class : Goal (class_of kind)
      by-class =
          class_cases kind Goal
          (λ q. absurd (let z : ◌≡◌ {A = ℕ} 0 1 = cc in omega arith))
          (λ q. absurd (let z : ◌≡◌ {A = ℕ} 0 1 = cc in omega arith))
          (λ k q. row 2 6 [] k refl (omega arith) refl refl)
          (λ k q. absurd (d k))
          (λ k q. row 4 4 (2 ∷ []) k refl (omega arith) refl refl)
          (λ k q. row 5 5 (2 ∷ 1 ∷ []) k refl (omega arith) refl refl)
          (λ k q. row 6 6 (4 ∷ []) k refl (omega arith) refl refl)
          (λ k q. row 7 6 (4 ∷ []) k refl (omega arith) refl refl)
          (λ k q. row 8 10 (4 ∷ 4 ∷ []) k refl (omega arith) refl refl)
          (λ g m q. let same : shape_of kind ≡ raw = shape-raw kind g m in rw same (header-most l h s b (step-found l kind h s e).headed))
          (λ q. absurd (let z : ◌≡◌ {A = ℕ} 0 1 = cc in omega arith))

      go : (m : List ℕ) → l ≡ m → step_of m ≡ Found kind h s → Fitting kind (shape_of kind) (s - h)
      go [] p q = absurd (let z : ◌≡◌ {A = ℕ} 0 1 = cc in omega arith)
      go (x ∷ xs) p q =
          let first : kind ≡ x = (step-found l kind h s e).front ∙ ap (λ (y : List ℕ). get_or y 0 0) p in
          by-class (ap₂ (λ (n : ℕ) (y : List ℕ). step_in (class_of n) y) first p ∙ q)
