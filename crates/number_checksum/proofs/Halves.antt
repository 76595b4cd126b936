-- Words of 64 bits, added wrapping with their high halves apart: less the high halves, what was added is the sum of the low halves, as long as that
-- does not wrap. Assumes nothing.
use Rattle.std.proofs.Common.{◌≡◌, ℕ, ◌+◌, ◌-◌, ◌*◌, ◌%◌, ◌<◌, ◌≤◌, true, List, drop, ap, ◌∙◌, arith}
use native.Mathlib.Nat.{mod-add-mod}
use Rattle.number_checksum.specs.Checksum.{word_sum, folded}

-- what has been added after k steps of eight bytes, and what it comes to with the bytes that are left
pub record Halves (bytes : List ℕ) (k added high : ℕ) : Type 0 where
  pub low : ℕ
  pub bound : low ≤ 4294967295 * k
  pub sum : added ≡ (low + 4294967296 * high) % 18446744073709551616
  pub folds : folded (low + high + word_sum true (drop (8 * k) bytes)) ≡ folded (word_sum true bytes)

pub wraps : (added low high x y : ℕ) → added ≡ (low + 4294967296 * high) % 18446744073709551616
    → (added + (x + y * 4294967296)) % 18446744073709551616 ≡ (low + x + 4294967296 * (high + y)) % 18446744073709551616
wraps added low high x y e =
    let whole : low + 4294967296 * high + (x + y * 4294967296) ≡ low + x + 4294967296 * (high + y) = omega arith in
    ap (λ (n : ℕ). (n + (x + y * 4294967296)) % 18446744073709551616) e
    ∙ mod-add-mod (low + 4294967296 * high) 18446744073709551616 (x + y * 4294967296) ∙ ap (λ (n : ℕ). n % 18446744073709551616) whole

pub without-high : (added low high r : ℕ) → added ≡ (low + 4294967296 * high) % 18446744073709551616 → low < 18446744073709551616
    → r < 18446744073709551616 → (r + high % 4294967296 * 4294967296) % 18446744073709551616 ≡ added → r ≡ low
without-high added low high r e hl hr back = omega arith

-- what the code takes off
pub low-is : {bytes : List ℕ} {k added high : ℕ} (h : Halves bytes k added high) → k ≤ 8192
    → (added + (18446744073709551616 - high % 4294967296 * 4294967296)) % 18446744073709551616 ≡ h.low
low-is {bytes} {k} {added} {high} h n =
    without-high added h.low high ((added + (18446744073709551616 - high % 4294967296 * 4294967296)) % 18446744073709551616)
    h.sum (omega (arith, h.bound)) (omega arith) (omega (arith, h.sum))
