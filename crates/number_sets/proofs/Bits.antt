-- Laws of the bits of a number: those of an `and` and an `or` go bit by bit, a number that is not 0 has one, and the bits of 2 ^ k - 1 are the k lowest.
-- Assumes nothing.
use mathlib.Core.Path.{◌≡◌, refl, sym, ap, ◌∙◌}
use mathlib.Core.Bool.{Bool, true, false, ◌&&◌, ◌||◌}
use Prim.Native.Nat.{ℕ, zero, suc, ◌-◌, ◌*◌, ◌/◌, ◌%◌, ◌^◌, ◌<◌}
use native.Mathlib.Nat.{pow-suc, mod-eq_of_lt}
use native.Mathlib.Omega.{arith}
use borrow.Author.Tests.{eqb-false, eq-eqb, ne_eqb, lt-ltb, le-ltb}
use lib.Bits.{bit_and, bit_or, and_mod, and_shr, or_mod, or_shr, or_add_and, and_mask}
use lib.Dec.{eqb, leb, ltb, lit<, leb-zero, leb-suc-zero, leb-suc-suc}
use lib.Pow.{pow_pos, shl_exact}
use Rattle.number_sets.specs.Sets.{bit}

-- ---- bit by bit

module _ (op : ℕ → ℕ → ℕ) (test : Bool → Bool → Bool) (low : (x y : ℕ) → op x y % 2 ≡ op (x % 2) (y % 2)) (rest : (x y : ℕ) → op x y / 2 ≡ op (x / 2) (y / 2))
    (digit : (p q : ℕ) → p < 2 → q < 2 → eqb (op p q) 1 ≡ test (eqb p 1) (eqb q 1)) where
  bitwise : (x y b : ℕ) → bit (op x y) b ≡ test (bit x b) (bit y b)
  unfolding bit
  bitwise x y zero = ap (λ (n : ℕ). eqb n 1) (low x y) ∙ digit (x % 2) (y % 2) (omega arith) (omega arith)
  bitwise x y (suc b) = ap (λ (n : ℕ). bit n b) (rest x y) ∙ bitwise (x / 2) (y / 2) b

and-digit : (p q : ℕ) → p < 2 → q < 2 → eqb (bit_and p q) 1 ≡ eqb p 1 && eqb q 1
and-digit zero q hp hq = refl
and-digit (suc zero) zero hp hq = refl
and-digit (suc zero) (suc zero) hp hq = refl
and-digit (suc zero) (suc (suc q)) hp hq = absurd (omega arith)
and-digit (suc (suc p)) q hp hq = absurd (omega arith)

or-digit : (p q : ℕ) → p < 2 → q < 2 → eqb (bit_or p q) 1 ≡ eqb p 1 || eqb q 1
or-digit zero q hp hq = refl
or-digit (suc zero) zero hp hq = refl
or-digit (suc zero) (suc zero) hp hq = refl
or-digit (suc zero) (suc (suc q)) hp hq = absurd (omega arith)
or-digit (suc (suc p)) q hp hq = absurd (omega arith)

pub and-bit : (x y b : ℕ) → bit (bit_and x y) b ≡ bit x b && bit y b
and-bit = bitwise bit_and ◌&&◌ (λ x y. and_mod x y 1) (λ x y. and_shr x y 1) and-digit

pub or-bit : (x y b : ℕ) → bit (bit_or x y) b ≡ bit x b || bit y b
or-bit = bitwise bit_or ◌||◌ (λ x y. or_mod x y 1) (λ x y. or_shr x y 1) or-digit

-- ---- 0, and what is not

pub zero_bit : (b : ℕ) → bit 0 b ≡ false
unfolding bit
zero_bit zero = refl
zero_bit (suc b) = zero_bit b

-- one of the k lowest bits
pub record Lit (x k : ℕ) : Type 0 where
  pub at : ℕ
  pub below : at < k
  pub lit : bit x at ≡ true

pub some-bit : (k x : ℕ) → x < 2 ^ k → (x ≡ 0 → ⊥) → Lit x k
unfolding bit
some-bit zero x h d = absurd (d (omega arith))
some-bit (suc k) x h d = go (eqb (x % 2) 1) refl (some-bit k (x / 2) (omega (arith, pow-suc 2 k)))
  where
    go : (t : Bool) → eqb (x % 2) 1 ≡ t → ((x / 2 ≡ 0 → ⊥) → Lit (x / 2) k) → Lit x (suc k)
    go true e rest = record { at = 0; below = omega arith; lit = e }
    go false e rest =
        let even = eqb-false (x % 2) 1 e in
        let r = rest (λ z. d (omega (arith, even))) in
        record { at = suc r.at; below = omega arith; lit = r.lit }

-- ---- masks

-- one bit of a word
pub one_bit : (k : ℕ) → k < 64 → (1 * 2 ^ k) % 2 ^ 64 ≡ 2 ^ k
one_bit k h = shl_exact 1 k 64 (lit< tt) (omega arith) ∙ omega arith

pub ones_bit : (k b : ℕ) → bit (2 ^ k - 1) b ≡ ltb b k
unfolding bit
ones_bit zero b = zero_bit b ∙ sym (le-ltb b 0 (omega arith))
ones_bit (suc k) zero = eq-eqb ((2 ^ suc k - 1) % 2) 1 (omega (arith, pow-suc 2 k, pow_pos k)) ∙ sym (lt-ltb 0 (suc k) (omega arith))
ones_bit (suc k) (suc b) =
    let half : (2 ^ suc k - 1) / 2 ≡ 2 ^ k - 1 = omega (arith, pow-suc 2 k, pow_pos k) in
    ap (λ (n : ℕ). bit n b) half ∙ ones_bit k b ∙ sym (leb-suc-suc (suc b) k)

pub high_bit : (n s b : ℕ) → b < n → bit (2 ^ n - 2 ^ s) b ≡ leb s b
unfolding bit
high_bit n zero b h = ones_bit n b ∙ lt-ltb b n h ∙ sym (leb-zero b)
high_bit zero (suc s) b h = absurd (omega arith)
high_bit (suc n) (suc s) zero h = ne_eqb ((2 ^ suc n - 2 ^ suc s) % 2) 1 (λ e. omega (arith, pow-suc 2 n, pow-suc 2 s)) ∙ sym (leb-suc-zero s)
high_bit (suc n) (suc s) (suc b) h =
    let half : (2 ^ suc n - 2 ^ suc s) / 2 ≡ 2 ^ n - 2 ^ s = omega (arith, pow-suc 2 n, pow-suc 2 s) in
    ap (λ (m : ℕ). bit m b) half ∙ high_bit n s b (omega arith) ∙ sym (leb-suc-suc s b)

-- with all the bits of a word
pub and-full : (k x : ℕ) → x < 2 ^ k → bit_and x (2 ^ k - 1) ≡ x
and-full k x h = and_mask x k ∙ mod-eq_of_lt h

pub or-full : (k x : ℕ) → x < 2 ^ k → bit_or x (2 ^ k - 1) ≡ 2 ^ k - 1
or-full k x h = omega (arith, or_add_and x (2 ^ k - 1), and-full k x h)
