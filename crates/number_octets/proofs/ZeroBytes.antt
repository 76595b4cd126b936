-- Laws of bytes that are all zero, and of the zeros in front of another byte: parts of a list are tested one by one, and bits that are set stay set.
-- Assumes nothing.
use mathlib.Core.Path.{◌≡◌, refl, sym, ap, ap₂, ◌∙◌}
use mathlib.Core.Bool.{Bool, true, false, cond, ◌&&◌}
use mathlib.Core.List.{List, [], ◌∷◌, ◌++◌, reverse}
use Prim.Native.Nat.{ℕ, zero, suc, ◌+◌, ◌*◌, ◌≤◌, ◌<◌}
use native.Mathlib.Numerals.{add-one}
use native.Mathlib.Omega.{arith}
use borrow.Author.Tests.{eq-eqb, ne_eqb, eqb-true, eqb-false}
use lib.Bits.{bit_or, or_add_and, and_le_l, and_le_r}
use lib.Dec.{eqb}
use lib.ListN.{length, take, drop, get_or, replicate, take-append-drop}
use lib.Seq.{take-add, drop-cons}
use Rattle.std.specs.List.{fold}
use Rattle.number_octets.specs.Octets.{number, part}
use Rattle.number_octets.specs.Runs.{run_of}
use Rattle.number_octets.specs.Zeros.{all_zero, zeros_of}
use Rattle.number_octets.proofs.Laws.{part-four, little-four}

-- ---- lists

and_assoc : (a b c : Bool) → (a && b) && c ≡ a && (b && c)
and_assoc true b c = refl
and_assoc false b c = refl

and-true : (a : Bool) → a ≡ a && true
and-true true = refl
and-true false = refl

pub zero-append : (a b : List ℕ) → all_zero (a ++ b) ≡ all_zero a && all_zero b
unfolding all_zero
zero-append [] b = refl
zero-append (x ∷ a) b = ap (λ (t : Bool). eqb x 0 && t) (zero-append a b) ∙ sym (and_assoc (eqb x 0) (all_zero a) (all_zero b))

pub zero-split : (n : ℕ) (l : List ℕ) → all_zero l ≡ all_zero (take n l) && all_zero (drop n l)
zero-split n l = ap all_zero (sym (take-append-drop n l)) ∙ zero-append (take n l) (drop n l)

-- some bytes more
pub zero_more : (n k : ℕ) (l : List ℕ) → all_zero (take (n + k) l) ≡ all_zero (take n l) && all_zero (part n k l)
zero_more n k l = ap all_zero (take-add n k l) ∙ zero-append (take n l) (part n k l)

-- the byte at `at`, and those behind it
pub zero-at : (at : ℕ) (l : List ℕ) → at < length l → all_zero (drop at l) ≡ eqb (get_or l at 0) 0 && all_zero (drop (at + 1) l)
unfolding all_zero
zero-at at l h = ap all_zero (drop-cons l at 0 h) ∙ ap (λ (n : ℕ). eqb (get_or l at 0) 0 && all_zero (drop n l)) (sym (add-one at))

pub zero-alike : (n : ℕ) → all_zero (replicate n 0) ≡ true
unfolding all_zero
zero-alike zero = refl
zero-alike (suc n) = zero-alike n

-- the only list of that length
pub zero-only : (l : List ℕ) → all_zero l ≡ true → l ≡ replicate (length l) 0
unfolding all_zero
zero-only [] e = refl
zero-only (b ∷ l) e = go (eqb b 0) refl e (zero-only l)
  where
    go : (s : Bool) → eqb b 0 ≡ s → (s && all_zero l) ≡ true → (all_zero l ≡ true → l ≡ replicate (length l) 0) → b ∷ l ≡ 0 ∷ replicate (length l) 0
    go true p e rest = ap₂ (λ (x : ℕ) (xs : List ℕ). x ∷ xs) (eqb-true b 0 p) (rest e)
    go false p e rest = absurd (let z : ◌≡◌ {A = ℕ} 0 1 = cc in omega arith)

-- ---- the zeros in front of another byte

pub zeros-run : (l : List ℕ) → run_of 0 l ≡ zeros_of l
unfolding run_of zeros_of
zeros-run [] = refl
zeros-run (b ∷ bs) = ap (λ (n : ℕ). cond (eqb b 0) (1 + n) 0) (zeros-run bs)

pub zeros_within : (l : List ℕ) → zeros_of l ≤ length l
unfolding zeros_of
zeros_within [] = omega arith
zeros_within (b ∷ bs) = go (eqb b 0) (zeros_within bs)
  where
    go : (t : Bool) → zeros_of bs ≤ length bs → cond t (1 + zeros_of bs) 0 ≤ suc (length bs)
    go true h = omega arith
    go false h = omega arith

-- where not all are zero, the zeros end before the list does, at a byte that is not zero; each of them is zero
pub record FirstSet (l : List ℕ) : Type 0 where
  pub within : zeros_of l < length l
  pub set : get_or l (zeros_of l) 0 ≡ 0 → ⊥
  pub zeros : (i : ℕ) → i < zeros_of l → get_or l i 0 ≡ 0

pub first-set : (l : List ℕ) → all_zero l ≡ false → FirstSet l
unfolding all_zero zeros_of
first-set [] e = absurd (let z : ◌≡◌ {A = ℕ} 0 1 = cc in omega arith)
first-set (b ∷ bs) e = let g = go (eqb b 0) refl e (first-set bs) in record { within = g.0; set = g.1; zeros = g.2 }
  where
    zeros : b ≡ 0 → FirstSet bs → (i : ℕ) → i < 1 + zeros_of bs → get_or (b ∷ bs) i 0 ≡ 0
    zeros p f zero h = p
    zeros p f (suc i) h = f.zeros i (omega arith)

    go : (t : Bool) → eqb b 0 ≡ t → (t && all_zero bs) ≡ false → (all_zero bs ≡ false → FirstSet bs)
        → (cond t (1 + zeros_of bs) 0 < suc (length bs)) × (get_or (b ∷ bs) (cond t (1 + zeros_of bs) 0) 0 ≡ 0 → ⊥)
        × ((i : ℕ) → i < cond t (1 + zeros_of bs) 0 → get_or (b ∷ bs) i 0 ≡ 0)
    go true p e ih =
        let f = ih e in
        let more : 1 + zeros_of bs ≡ suc (zeros_of bs) = omega arith in (
          omega (arith, f.within),
          λ q. f.set (sym (ap (λ (n : ℕ). get_or (b ∷ bs) n 0) more) ∙ q),
          zeros (eqb-true b 0 p) f,
        )
    go false p e ih = (omega arith, eqb-false b 0 p, λ i h. absurd (omega arith))

-- ---- bits

pub or-zero : (a b : ℕ) → eqb (bit_or a b) 0 ≡ eqb a 0 && eqb b 0
or-zero a b = go (eqb a 0) (eqb b 0) refl refl
  where
    go : (s t : Bool) → eqb a 0 ≡ s → eqb b 0 ≡ t → eqb (bit_or a b) 0 ≡ s && t
    go true true p q = eq-eqb (bit_or a b) 0 (omega (arith, or_add_and a b, eqb-true a 0 p, eqb-true b 0 q))
    go true false p q = ne_eqb (bit_or a b) 0 (λ e. eqb-false b 0 q (omega (arith, or_add_and a b, and_le_l a b)))
    go false t p q = ne_eqb (bit_or a b) 0 (λ e. eqb-false a 0 p (omega (arith, or_add_and a b, and_le_r a b)))

-- the bits that are set in a number or in one of the bytes
pub none-set : (n : ℕ) (l : List ℕ) → eqb (fold bit_or n l) 0 ≡ eqb n 0 && all_zero l
unfolding all_zero
none-set n [] = and-true (eqb n 0)
none-set n (b ∷ bs) =
    none-set (bit_or n b) bs ∙ ap (λ (t : Bool). t && all_zero bs) (or-zero n b) ∙ and_assoc (eqb n 0) (eqb b 0) (all_zero bs)

four-zero : (a b c d : ℕ) → eqb (a + b * 256 + c * 65536 + d * 16777216) 0 ≡ eqb a 0 && (eqb b 0 && (eqb c 0 && (eqb d 0 && true)))
four-zero a b c d = go (eqb a 0) (eqb b 0) (eqb c 0) (eqb d 0) refl refl refl refl
  where
    n : ℕ
    n = a + b * 256 + c * 65536 + d * 16777216

    go : (s t u v : Bool) → eqb a 0 ≡ s → eqb b 0 ≡ t → eqb c 0 ≡ u → eqb d 0 ≡ v → eqb n 0 ≡ s && (t && (u && (v && true)))
    go true true true true p q r w = eq-eqb n 0 (omega (arith, eqb-true a 0 p, eqb-true b 0 q, eqb-true c 0 r, eqb-true d 0 w))
    go true true true false p q r w = ne_eqb n 0 (λ e. eqb-false d 0 w (omega arith))
    go true true false v p q r w = ne_eqb n 0 (λ e. eqb-false c 0 r (omega arith))
    go true false u v p q r w = ne_eqb n 0 (λ e. eqb-false b 0 q (omega arith))
    go false t u v p q r w = ne_eqb n 0 (λ e. eqb-false a 0 p (omega arith))

-- four bytes as one number
pub word-zero : (at : ℕ) (l : List ℕ) → at + 4 ≤ length l → eqb (number (reverse (part at 4 l))) 0 ≡ all_zero (part at 4 l)
unfolding all_zero
word-zero at l h =
    ap (λ (n : ℕ). eqb n 0) (little-four at l h) ∙ four-zero (get_or l at 0) (get_or l (at + 1) 0) (get_or l (at + 2) 0) (get_or l (at + 3) 0)
    ∙ sym (ap all_zero (part-four at l h))
