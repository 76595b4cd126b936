-- What holds of each row of the table of kinds holds of the shape of every kind: the tests are gone through one after the other.
-- Assumes nothing.
use mathlib.Core.Path.{◌≡◌, refl, ap}
use mathlib.Core.Bool.{Bool, true, false, cond}
use mathlib.Core.List.{List, [], ◌∷◌}
use Prim.Native.Nat.{ℕ, zero, suc, ◌^◌, ◌≤◌, ◌<◌}
use native.Mathlib.Omega.{arith}
use borrow.Author.Tests.{ne_eqb, le-leb, lt-leb, eqb-true, eqb-false, leb-true}
use lib.Dec.{eqb, leb, lit≤}
use Rattle.list_entry.specs.Shape.{Shape, fields, raw, barred, shape_of}

pub cond_cases : {A : Type 0} (P : A → Type 0) (t : Bool) (a b : A) → (t ≡ true → P a) → (t ≡ false → P b) → P (cond t a b)
cond_cases P true a b f g = f refl
cond_cases P false a b f g = g refl

-- each number of a field is within 64 bits
abbrev pub Narrow : List ℕ → Type 0
Narrow [] = Unit {0}
Narrow (width ∷ widths) = (256 ^ width ≤ 2 ^ 64) × Narrow widths

abbrev pub NarrowShape : Shape → Type 0
NarrowShape (fields widths) = Narrow widths
NarrowShape raw = Unit {0}
NarrowShape barred = Unit {0}

-- a kind that is not refused fits a byte
abbrev pub ByteKind : ℕ → Shape → Type 0
ByteKind kind (fields widths) = kind < 256
ByteKind kind raw = kind < 256
ByteKind kind barred = Unit {0}

module _ (kind : ℕ) where
  pub shape-cases : (P : Shape → Type 0) → (kind ≡ 2 → P (fields [])) → (kind ≡ 4 → P (fields (2 ∷ []))) → (kind ≡ 5 → P (fields (2 ∷ 1 ∷ [])))
      → ((kind ≡ 6) → P (fields (4 ∷ []))) → (kind ≡ 7 → P (fields (4 ∷ []))) → (kind ≡ 8 → P (fields (4 ∷ 4 ∷ [])))
      → (9 ≤ kind → kind ≤ 191 → P raw) → P barred → P (shape_of kind)
  unfolding shape_of
  shape-cases P apc mds mrds req res time body out =
      cond_cases P (eqb kind 2) _ _ (λ e. apc (eqb-true kind 2 e))
      (λ n2. cond_cases P (eqb kind 4) _ _ (λ e. mds (eqb-true kind 4 e))
      (λ n4. cond_cases P (eqb kind 5) _ _ (λ e. mrds (eqb-true kind 5 e))
      (λ n5. cond_cases P (eqb kind 6) _ _ (λ e. req (eqb-true kind 6 e))
      (λ n6. cond_cases P (eqb kind 7) _ _ (λ e. res (eqb-true kind 7 e))
      (λ n7. cond_cases P (eqb kind 8) _ _ (λ e. time (eqb-true kind 8 e))
      (λ n8. cond_cases P (leb 9 kind) _ _
      (λ e. cond_cases P (leb kind 191) _ _ (λ f. body (leb-true 9 kind e) (leb-true kind 191 f)) (λ f. out))
      (λ e. out)))))))

  pub shape-narrow : NarrowShape (shape_of kind)
  shape-narrow =
      shape-cases NarrowShape (λ e. tt) (λ e. (lit≤ tt, tt)) (λ e. (lit≤ tt, (lit≤ tt, tt))) (λ e. (lit≤ tt, tt)) (λ e. (lit≤ tt, tt))
      (λ e. (lit≤ tt, (lit≤ tt, tt))) (λ g h. tt) tt

  pub shape-byte : ByteKind kind (shape_of kind)
  shape-byte =
      shape-cases (ByteKind kind) (λ e. omega arith) (λ e. omega arith) (λ e. omega arith) (λ e. omega arith) (λ e. omega arith) (λ e. omega arith)
      (λ g h. omega arith) tt

  above : 9 ≤ kind → shape_of kind ≡ cond (leb 9 kind) (cond (leb kind 191) raw barred) barred
  unfolding shape_of
  above h =
      simp (
        ne_eqb kind 2 (λ e. omega arith),
        ne_eqb kind 4 (λ e. omega arith),
        ne_eqb kind 5 (λ e. omega arith),
        ne_eqb kind 6 (λ e. omega arith),
        ne_eqb kind 7 (λ e. omega arith),
        ne_eqb kind 8 (λ e. omega arith),
      )

  pub shape-raw : 9 ≤ kind → kind ≤ 191 → shape_of kind ≡ raw
  shape-raw h g = simp (above h, le-leb 9 kind h, le-leb kind 191 g)

  pub shape-barred : 192 ≤ kind → shape_of kind ≡ barred
  shape-barred h = simp (above (omega arith), le-leb 9 kind (omega arith), lt-leb kind 191 (omega arith))

  pub shape-token : 6 ≤ kind → kind < 8 → shape_of kind ≡ fields (4 ∷ [])
  unfolding shape_of
  shape-token h g = go (eqb kind 6) (eqb kind 7) refl refl
    where
      go : (s t : Bool) → eqb kind 6 ≡ s → eqb kind 7 ≡ t → shape_of kind ≡ fields (4 ∷ [])
      go true t e f = ap shape_of (eqb-true kind 6 e)
      go false true e f = ap shape_of (eqb-true kind 7 f)
      go false false e f = absurd (omega (arith, eqb-false kind 6 e, eqb-false kind 7 f))

pub shape-low : (kind : ℕ) → kind < 2 → shape_of kind ≡ barred
unfolding shape_of
shape-low zero h = refl
shape-low (suc zero) h = refl
shape-low (suc (suc k)) h = absurd (omega arith)
