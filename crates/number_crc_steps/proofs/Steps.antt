-- Bit steps are linear, so the steps of a number are those of its low digits xor its high digits, which the steps bring down unchanged.
-- Assumes nothing.
use mathlib.Core.Path.{◌≡◌, refl, sym, ap, ap₂, ◌∙◌}
use Prim.Native.Nat.{ℕ, zero, suc, ◌+◌, ◌*◌, ◌/◌, ◌%◌, ◌^◌, ◌<◌}
use native.Mathlib.Nat.{mod-lt, zero-add, suc-add}
use native.Mathlib.Omega.{arith}
use lib.Bits.{bit_xor, differ, xor_comm, xor_lt, xor_shifted, shifted_half, shifted_even}
use lib.Pow.{split, pow_pos}
use Rattle.number_crc_steps.proofs.Xor.{bit, xor-half, xor-odd, xor-exchange}
use Rattle.number_crc_steps.specs.Steps.{polynomial, bit_step, steps}

-- the polynomial taken once, or not, by each of two bits
taken : (x y : ℕ) → x < 2 → y < 2 → differ x y * polynomial ≡ bit_xor (x * polynomial) (y * polynomial)
unfolding polynomial
taken zero y hx hy = refl
taken (suc zero) zero hx hy = refl
taken (suc zero) (suc zero) hx hy = refl
taken (suc zero) (suc (suc y)) hx hy = absurd (omega arith)
taken (suc (suc x)) y hx hy = absurd (omega arith)

bit_step-xor : (a b : ℕ) → bit_step (bit_xor a b) ≡ bit_xor (bit_step a) (bit_step b)
unfolding bit_step
bit_step-xor a b =
    ap₂ (λ (x y : ℕ). bit_xor (x * polynomial) y) (xor-odd a b) (xor-half a b)
    ∙ ap (λ (n : ℕ). bit_xor n (bit_xor (a / 2) (b / 2))) (taken (a % 2) (b % 2) (bit a) (bit b))
    ∙ xor-exchange (a % 2 * polynomial) (b % 2 * polynomial) (a / 2) (b / 2)

-- steps are linear
pub steps-xor : (k a b : ℕ) → steps k (bit_xor a b) ≡ bit_xor (steps k a) (steps k b)
unfolding steps
steps-xor zero a b = refl
steps-xor (suc k) a b = ap (steps k) (bit_step-xor a b) ∙ steps-xor k (bit_step a) (bit_step b)

-- k steps bring down what stands above k digits 0
pub steps_high : (k a : ℕ) → steps k (a * 2 ^ k) ≡ a
unfolding steps bit_step polynomial
steps_high zero a = omega arith
steps_high (suc k) a =
    ap (steps k) (ap₂ (λ (x y : ℕ). bit_xor (x * polynomial) y) (shifted_even a k) (shifted_half a k)) ∙ steps_high k a

pub steps-add : (m n x : ℕ) → steps (m + n) x ≡ steps n (steps m x)
unfolding steps
steps-add zero n x = ap (λ (k : ℕ). steps k x) (zero-add n)
steps-add (suc m) n x = ap (λ (k : ℕ). steps k x) (suc-add m n) ∙ steps-add m n (bit_step x)

-- k steps of a number are those of its k low digits, xor the high digits
pub steps-split : (k n : ℕ) → steps k n ≡ bit_xor (steps k (n % 2 ^ k)) (n / 2 ^ k)
steps-split k n =
    ap (steps k) (sym (split n k) ∙ sym (xor_shifted (n / 2 ^ k) k (n % 2 ^ k) (mod-lt n (pow_pos k))))
    ∙ steps-xor k (n / 2 ^ k * 2 ^ k) (n % 2 ^ k)
    ∙ ap (λ (x : ℕ). bit_xor x (steps k (n % 2 ^ k))) (steps_high k (n / 2 ^ k))
    ∙ xor_comm (n / 2 ^ k) (steps k (n % 2 ^ k))

-- k steps and more of a number: the high digits miss the first k
pub steps-split-more : (k m n : ℕ) → steps (k + m) n ≡ bit_xor (steps (k + m) (n % 2 ^ k)) (steps m (n / 2 ^ k))
steps-split-more k m n =
    steps-add k m n ∙ ap (steps m) (steps-split k n) ∙ steps-xor m (steps k (n % 2 ^ k)) (n / 2 ^ k)
    ∙ ap (λ (x : ℕ). bit_xor x (steps m (n / 2 ^ k))) (sym (steps-add k m (n % 2 ^ k)))

pub steps-zero : (k : ℕ) → steps k 0 ≡ 0
unfolding steps bit_step polynomial
steps-zero zero = refl
steps-zero (suc k) = steps-zero k

-- a digit above k others is k steps behind them
pub steps-digit : (k m t x y : ℕ) → k + m ≡ t → x < 2 ^ k → bit_xor (steps t x) (steps m y) ≡ steps t (y * 2 ^ k + x)
steps-digit k m t x y e h =
    ap (bit_xor (steps t x)) (ap (steps m) (sym (steps_high k y)) ∙ sym (steps-add k m (y * 2 ^ k)) ∙ ap (λ (n : ℕ). steps n (y * 2 ^ k)) e)
    ∙ xor_comm (steps t x) (steps t (y * 2 ^ k)) ∙ sym (steps-xor t (y * 2 ^ k) x) ∙ ap (steps t) (xor_shifted y k x h)

-- the register has 32 bits
pub steps-lt : (k n : ℕ) → n < 2 ^ 32 → steps k n < 2 ^ 32
unfolding steps bit_step polynomial
steps-lt zero n h = h
steps-lt (suc k) n h = steps-lt k (bit_xor (n % 2 * 0x82F6_3B78) (n / 2)) (xor_lt 32 (n % 2 * 0x82F6_3B78) (n / 2) (omega arith) (omega arith))
