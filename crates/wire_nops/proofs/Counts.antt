-- NOPs in a row are counted byte by byte, or four and 32 at once, and eight of them are padding where reading is strict (document 02, R-6).
-- Assumes nothing.
use mathlib.Core.Path.{◌≡◌, refl, ap, ◌∙◌}
use mathlib.Core.Bool.{Bool, true, false, cond}
use mathlib.Core.List.{List, [], ◌∷◌, reverse}
use Prim.Native.Nat.{ℕ, zero, suc, ◌+◌, ◌≤◌, ◌<◌}
use native.Mathlib.Omega.{arith}
use borrow.Author.Tests.{eq-eqb, ne_eqb, eqb-true, lt-ltb, le-ltb, ltb-true}
use lib.Bits.{bit_or, bit_xor, or_add_and, xor_add_and, and_le_l, and_le_r}
use lib.Dec.{eqb, ltb}
use lib.ListN.{length, drop, get_or}
use Rattle.number_octets.specs.Octets.{number, part}
use Rattle.number_octets.specs.Runs.{run_of}
use Rattle.number_octets.proofs.Laws.{little-four}
use Rattle.number_octets.proofs.RunBytes.{run-four}
use Rattle.wire_nops.specs.Nops.{nop, nop_limit, nops_of, is_padding}
use Rattle.wire_nops.specs.declared.Strictness.{Strictness}
use Rattle.wire_nops.specs.declared.Strictness.TheVariants.{Plain, Strict}

-- ---- counting

-- NOPs in a row are bytes of their kind in a row
pub nops-run : (l : List ℕ) → run_of nop l ≡ nops_of l
unfolding run_of nops_of
nops-run [] = refl
nops-run (b ∷ bs) = ap (λ (n : ℕ). cond (eqb b nop) (1 + n) 0) (nops-run bs)

pub nops-none : (l : List ℕ) → length l ≡ 0 → nops_of l ≡ 0
unfolding nops_of
nops-none [] h = refl
nops-none (b ∷ bs) h = absurd (omega arith)

pub nops-other : (l : List ℕ) → (get_or l 0 0 ≡ nop → ⊥) → nops_of l ≡ 0
unfolding nops_of
nops-other [] d = refl
nops-other (b ∷ bs) d = simp (ne_eqb b nop d)

pub nops-some : (b : ℕ) (bs : List ℕ) → b ≡ nop → (0 < nops_of (b ∷ bs)) × (nops_of (b ∷ bs) ≡ 1 + nops_of bs)
unfolding nops_of
nops-some b bs e = let one : nops_of (b ∷ bs) ≡ 1 + nops_of bs = simp (eq-eqb b nop e) in (omega arith, one)

pub nops-within : (l : List ℕ) → nops_of l ≤ length l
unfolding nops_of
nops-within [] = omega arith
nops-within (b ∷ bs) = go (eqb b nop) (nops-within bs)
  where
    go : (t : Bool) → nops_of bs ≤ length bs → cond t (1 + nops_of bs) 0 ≤ suc (length bs)
    go true h = omega arith
    go false h = omega arith

pub nops-four : (l : List ℕ) (i : ℕ) → i + 4 ≤ length l → ((k : ℕ) → get_or l k 0 < 256) → number (reverse (part i 4 l)) ≡ 16843009
    → nops_of (drop i l) ≡ 4 + nops_of (drop (i + 4) l)
nops-four l i h small e = omega (arith, run-four nop l i (omega arith) h small e, nops-run (drop i l), nops-run (drop (i + 4) l))

-- words among which no bit is different from four NOPs are four NOPs
pub none-different : (bits word : ℕ) → bit_or bits (bit_xor word 16843009) ≡ 0 → (bits ≡ 0) × (word ≡ 16843009)
none-different bits word e =
    let d : ℕ = bit_xor word 16843009 in
    let or-sum = or_add_and bits d in
    let none : d ≡ 0 = omega (arith, or-sum, and_le_l bits d) in (
      omega (arith, or-sum, and_le_r bits d),
      omega (arith, none, xor_add_and word 16843009, and_le_l word 16843009, and_le_r word 16843009),
    )

-- NOPs at the front are NOP bytes, and four of them are this number
pub nops-are : (l : List ℕ) (i : ℕ) → i < nops_of l → get_or l i 0 ≡ nop
unfolding nops_of
nops-are [] i h = absurd (omega arith)
nops-are (b ∷ bs) i h = go (eqb b nop) refl i h (nops-are bs)
  where
    go : (t : Bool) → eqb b nop ≡ t → (i : ℕ) → i < cond t (1 + nops_of bs) 0 → ((k : ℕ) → k < nops_of bs → get_or bs k 0 ≡ nop) → get_or (b ∷ bs) i 0 ≡ nop
    go false e i h rest = absurd (omega arith)
    go true e zero h rest = eqb-true b nop e
    go true e (suc i) h rest = rest i (omega arith)

nops-word : (l : List ℕ) (i : ℕ) → i + 4 ≤ nops_of l → number (reverse (part i 4 l)) ≡ 16843009
nops-word l i h =
    let a = nops-are l i (omega arith) in
    let b = nops-are l (i + 1) (omega arith) in
    let c = nops-are l (i + 2) (omega arith) in
    let d = nops-are l (i + 3) (omega arith) in
    little-four i l (omega (arith, nops-within l)) ∙ omega arith

-- ---- padding

pub padding-many : (l : List ℕ) → 8 ≤ nops_of l → is_padding Strict (nops_of l) ≡ true
unfolding nop_limit
padding-many l h = lt-ltb nop_limit (nops_of l) (omega arith)

pub padding-few : (l : List ℕ) → nops_of l < 8 → is_padding Strict (nops_of l) ≡ false
unfolding nop_limit
padding-few l h = le-ltb nop_limit (nops_of l) (omega arith)

-- so padding is behind as many as there may be
pub padding-limit : (s : Strictness) (nops : ℕ) → is_padding s nops ≡ true → nop_limit < nops
padding-limit Plain nops e = absurd (let z : ◌≡◌ {A = ℕ} 0 1 = cc in omega arith)
padding-limit Strict nops e = ltb-true nop_limit nops e

-- another word among the first eight bytes ends the row before the eighth
pub padding-word : (l : List ℕ) (i : ℕ) → i ≤ 4 → (number (reverse (part i 4 l)) ≡ 16843009 → ⊥) → is_padding Strict (nops_of l) ≡ false
unfolding nop_limit
padding-word l i h d = go (ltb nop_limit (nops_of l)) refl
  where
    go : (t : Bool) → ltb nop_limit (nops_of l) ≡ t → t ≡ false
    go false e = refl
    go true e = absurd (d (nops-word l i (omega (arith, ltb-true nop_limit (nops_of l) e))))
