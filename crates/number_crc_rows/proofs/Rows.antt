-- Rows of the table: a list whose place k has where a number has come to after 8 * k + 8 bits. Steps are linear, so the xor of two rows is
-- the row of the xor. And which arm of a `match` a number takes. Assumes nothing.
use mathlib.Core.Path.{◌≡◌, refl, sym, ap, ap₂, ◌∙◌}
use mathlib.Core.Bool.{Bool, true, ◌&&◌}
use mathlib.Core.List.{List, [], ◌∷◌}
use Prim.Native.Nat.{ℕ, zero, suc, ◌+◌, ◌*◌, ◌<◌, ◌≤◌}
use native.Mathlib.Nat.{le_of_suc-le-suc, not-suc-le-zero}
use native.Mathlib.Omega.{arith}
use lib.Bits.{bit_xor}
use lib.Dec.{T, eqb, eqb→eq}
use lib.Ieee.Fits.{and_l, and_r}
use lib.ListN.{length, get_or}
use Rattle.number_crc_steps.specs.Steps.{steps}
use Rattle.number_crc_steps.proofs.Steps.{steps-add, steps-xor}
use Rattle.number_crc_rows.specs.Rows.{two}

-- the row of a number
pub record Stepped (n : ℕ) (row : List ℕ) : Type 0 where
  pub entry : (k : ℕ) → k < length row → steps (8 * k + 8) n ≡ get_or row k 0

-- each entry is the one before it after eight bits
abbrev pub chain : ℕ → List ℕ → Bool
chain n [] = true
chain n (v ∷ vs) = eqb (steps 8 n) v && chain v vs

follow : (n : ℕ) (row : List ℕ) → T (chain n row) → (k : ℕ) → k < length row → steps (8 * k + 8) n ≡ get_or row k 0
follow n [] t k h = absurd (not-suc-le-zero h)
follow n (v ∷ vs) t zero h = eqb→eq (steps 8 n) v (and_l (eqb (steps 8 n) v) (chain v vs) t)
follow n (v ∷ vs) t (suc k) h =
    let here : steps 8 n ≡ v = eqb→eq (steps 8 n) v (and_l (eqb (steps 8 n) v) (chain v vs) t) in
    let more : 8 * suc k + 8 ≡ 8 + (8 * k + 8) = omega arith in
    ap (λ (m : ℕ). steps m n) more ∙ steps-add 8 (8 * k + 8) n ∙ ap (steps (8 * k + 8)) here
    ∙ follow v vs (and_r (eqb (steps 8 n) v) (chain v vs) t) k (le_of_suc-le-suc h)

pub chained : {n : ℕ} {row : List ℕ} → T (chain n row) → Stepped n row
chained {n} {row} t = record { entry = follow n row t }

-- two rows, xor-ed entry by entry
abbrev pub xored : List ℕ → List ℕ → List ℕ
xored [] vs = []
xored (u ∷ us) [] = []
xored (u ∷ us) (v ∷ vs) = bit_xor u v ∷ xored us vs

length-xored : (us vs : List ℕ) → length us ≡ length vs → length (xored us vs) ≡ length us
length-xored [] vs e = refl
length-xored (u ∷ us) [] e = absurd (omega arith)
length-xored (u ∷ us) (v ∷ vs) e = ap suc (length-xored us vs (omega arith))

get_d-xored : (us vs : List ℕ) → length us ≡ length vs → (k : ℕ) → k < length us → get_or (xored us vs) k 0 ≡ bit_xor (get_or us k 0) (get_or vs k 0)
get_d-xored [] vs e k h = absurd (not-suc-le-zero h)
get_d-xored (u ∷ us) [] e k h = absurd (omega arith)
get_d-xored (u ∷ us) (v ∷ vs) e zero h = refl
get_d-xored (u ∷ us) (v ∷ vs) e (suc k) h = get_d-xored us vs (omega arith) k (le_of_suc-le-suc h)

pub both : {a b : ℕ} {us vs : List ℕ} → Stepped a us → Stepped b vs → length us ≡ length vs → Stepped (bit_xor a b) (xored us vs)
both {a} {b} {us} {vs} p q e = record { entry = entry }
  where
    entry : (k : ℕ) → k < length (xored us vs) → steps (8 * k + 8) (bit_xor a b) ≡ get_or (xored us vs) k 0
    entry k h =
        let here : k < length us = omega (arith, length-xored us vs e) in
        let there : k < length vs = omega arith in
        steps-xor (8 * k + 8) a b ∙ ap₂ bit_xor (p.entry k here) (q.entry k there) ∙ sym (get_d-xored us vs e k here)

-- the fields of a number, from the row of the place that it has in the table
abbrev Fields : ℕ → List ℕ → Type 0
Fields n row =
    (get_or row 3 0 * 4294967296 + get_or row 2 0 ≡ two 32 24 n) × (get_or row 1 0 * 4294967296 + get_or row 0 0 ≡ two 16 8 n)
    × (get_or row 7 0 * 4294967296 + get_or row 6 0 ≡ two 64 56 n) × (get_or row 5 0 * 4294967296 + get_or row 4 0 ≡ two 48 40 n)
    × (get_or row 11 0 * 4294967296 + get_or row 10 0 ≡ two 96 88 n) × (get_or row 9 0 * 4294967296 + get_or row 8 0 ≡ two 80 72 n)
    × (get_or row 15 0 * 4294967296 + get_or row 14 0 ≡ two 128 120 n) × (get_or row 13 0 * 4294967296 + get_or row 12 0 ≡ two 112 104 n)

pub fields : {n i : ℕ} {row : List ℕ} → n ≡ i → Stepped i row → length row ≡ 16 → Fields n row
unfolding two
fields {n = n} {i = i} {row = row} e s size =
    let at : (k : ℕ) → k < 16 → get_or row k 0 ≡ steps (8 * k + 8) n =
    λ k h. sym (ap (steps (8 * k + 8)) e ∙ s.entry k (omega arith)) in
    let pair : (j k : ℕ) → j < 16 → k < 16
    → get_or row j 0 * 4294967296 + get_or row k 0 ≡ steps (8 * j + 8) n * 4294967296 + steps (8 * k + 8) n =
    λ j k hj hk. ap₂ (λ (x y : ℕ). x * 4294967296 + y) (at j hj) (at k hk) in (
      pair 3 2 (omega arith) (omega arith),
      pair 1 0 (omega arith) (omega arith),
      pair 7 6 (omega arith) (omega arith),
      pair 5 4 (omega arith) (omega arith),
      pair 11 10 (omega arith) (omega arith),
      pair 9 8 (omega arith) (omega arith),
      pair 15 14 (omega arith) (omega arith),
      pair 13 12 (omega arith) (omega arith),
    )

-- ---- the arm that a number takes, of those for size, size + 1 and so on, and of one for what is left

pub at : {n : ℕ} (size i : ℕ) → n + size ≡ size + i → n ≡ i
at size i e = omega arith

-- a number is at none of the first k places
abbrev Passed : ℕ → ℕ → ℕ → Type 0
Passed size zero n = Unit
Passed size (suc k) n = Passed size k n × (n + size ≡ size + k → ⊥)

behind : (size k n : ℕ) → Passed size k n → k ≤ n
behind size zero n p = omega arith
behind size (suc k) n p =
    let off : n ≡ k → ⊥ = λ e. p.1 (omega arith) in
    omega (arith, behind size k n p.0, off)

pub last : {n : ℕ} (size k : ℕ) → n < size → Passed size k n → k + 1 ≡ size → n ≡ k
last {n = n} size k h p e = omega (arith, behind size k n p)
