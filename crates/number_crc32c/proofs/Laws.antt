-- Laws of the register: byte by byte, half a byte at a time, and several bytes as one number. Assumes nothing.
use mathlib.Core.Path.{◌≡◌, refl, sym, ap, ap₂, ◌∙◌}
use mathlib.Core.List.{List, [], ◌∷◌, ◌++◌, reverse, reverse-cons}
use Prim.Native.Nat.{ℕ, suc, ◌+◌, ◌*◌, ◌/◌, ◌%◌, ◌^◌, ◌<◌, ◌≤◌}
use native.Mathlib.Nat.{mod-lt}
use native.Mathlib.Omega.{arith}
use lib.Bits.{bit_xor, xor_comm, xor_zero_r, xor_shifted}
use lib.Dec.{lit<}
use lib.ListN.{length, take, get_or}
use lib.Seq.{take-add}
use Rattle.number_octets.specs.Octets.{Octets, number, octets, part}
use Rattle.number_octets.proofs.Laws.{number_append, part-append, part-one, part_bytes, length_part}
use Rattle.number_crc_steps.specs.Steps.{steps}
use Rattle.number_crc_steps.proofs.Xor.{xor_assoc}
use Rattle.number_crc_steps.proofs.Steps.{steps-add, steps-digit, steps_high, steps-split, steps-xor}
use Rattle.number_crc32c.specs.Crc.{byte_step, register, reflected, swapped, crc_of}

-- ---- bytes

-- one byte: eight steps of its low half, four of the high half, and the rest of the register
pub byte_step-halves : (r b : ℕ) → byte_step r b
    ≡ bit_xor (bit_xor (steps 8 (bit_xor r b % 16)) (steps 4 (bit_xor r b / 16 % 16))) (bit_xor r b / 256)
unfolding byte_step
byte_step-halves r b =
    let n = bit_xor r b in
    let whole : n / 16 % 16 * 16 + n % 16 ≡ n % 256 = omega arith in
    steps-split 8 n ∙ ap (λ (x : ℕ). bit_xor x (n / 256)) (ap (steps 8) (sym whole) ∙ sym (steps-digit 4 4 8 (n % 16) (n / 16 % 16) refl (mod-lt n (lit< tt))))

pub register-append : (r : ℕ) (a b : List ℕ) → register r (a ++ b) ≡ register (register r a) b
unfolding register
register-append r [] b = refl
register-append r (x ∷ a) b = register-append (byte_step r x) a b

pub register-take : (r n m : ℕ) (bs : List ℕ) → register r (take (n + m) bs) ≡ register (register r (take n bs)) (part n m bs)
register-take r n m bs = ap (register r) (take-add n m bs) ∙ register-append r (take n bs) (part n m bs)

pub register-next : (r i : ℕ) (bs : List ℕ) → i < length bs → register r (take (i + 1) bs) ≡ byte_step (register r (take i bs)) (get_or bs i 0)
unfolding register
register-next r i bs h = register-take r i 1 bs ∙ ap (register (register r (take i bs))) (part-one i bs h)

-- ---- the order of the bytes

number-four : (a b c d : ℕ) → number (a ∷ b ∷ c ∷ d ∷ []) ≡ a * 16777216 + b * 65536 + c * 256 + d
unfolding number
number-four a b c d = omega arith

-- a CRC is a number of 32 bits
pub crc_of-lt : (bs : List ℕ) → crc_of bs < 2 ^ 32
unfolding crc_of swapped octets
crc_of-lt bs =
    let n = reflected bs in
    below (n / 1 % 256) (n / 256 % 256) (n / 65536 % 256) (n / 16777216 % 256) (byte (n / 1)) (byte (n / 256)) (byte (n / 65536)) (byte (n / 16777216))
  where
    byte : (n : ℕ) → n % 256 < 256
    byte n = mod-lt n (lit< tt)

    below : (a b c d : ℕ) → a < 256 → b < 256 → c < 256 → d < 256 → number (a ∷ b ∷ c ∷ d ∷ []) < 2 ^ 32
    below a b c d ha hb hc hd = omega (arith, number-four a b c d)

-- the digits of a swapped number, most significant first
pub swapped-digits : (n : ℕ) → n < 2 ^ 32 → swapped n ≡ n % 256 * 16777216 + n / 256 % 256 * 65536 + n / 65536 % 256 * 256 + n / 16777216
unfolding swapped octets
swapped-digits n h =
    let low : n / 1 % 256 ≡ n % 256 = omega arith in
    let top : n / 16777216 % 256 ≡ n / 16777216 = omega arith in
    number-four (n / 1 % 256) (n / 256 % 256) (n / 65536 % 256) (n / 16777216 % 256)
    ∙ ap₂ (λ (x y : ℕ). x * 16777216 + n / 256 % 256 * 65536 + n / 65536 % 256 * 256 + y) low top

-- ---- several bytes at once

number-reverse : (b : ℕ) (bs : List ℕ) → number (reverse (b ∷ bs)) ≡ number (reverse bs) * 256 + b
unfolding number
number-reverse b bs = ap number (reverse-cons b bs) ∙ number_append (reverse bs) (b ∷ []) ∙ omega arith

-- bytes are stepped out as the bits of one number, the first byte lowest
pub register-steps : (r : ℕ) (bs : List ℕ) → Octets bs → register r bs ≡ steps (8 * length bs) (bit_xor r (number (reverse bs)))
unfolding register byte_step steps number
register-steps r [] h = sym (xor_zero_r r)
register-steps r (b ∷ bs) h =
    let rest = number (reverse bs) in
    let size : 8 + 8 * length bs ≡ 8 * suc (length bs) = omega arith in
    register-steps (steps 8 (bit_xor r b)) bs (λ i. h (suc i))
    ∙ ap (λ (x : ℕ). steps (8 * length bs) (bit_xor (steps 8 (bit_xor r b)) x)) (sym (steps_high 8 rest))
    ∙ ap (steps (8 * length bs)) (sym (steps-xor 8 (bit_xor r b) (rest * 256)))
    ∙ sym (steps-add 8 (8 * length bs) (bit_xor (bit_xor r b) (rest * 256)))
    ∙ ap₂ steps size (xor_assoc r b (rest * 256)
    ∙ ap (bit_xor r) (xor_comm b (rest * 256) ∙ xor_shifted rest 8 b (h 0) ∙ sym (number-reverse b bs)))

-- four bytes, as one number
pub register-four : (r at : ℕ) (bs : List ℕ) → Octets bs → at + 4 ≤ length bs
    → register r (part at 4 bs) ≡ steps 32 (bit_xor r (number (reverse (part at 4 bs))))
register-four r at bs h fits =
    register-steps r (part at 4 bs) (part_bytes at 4 bs h)
    ∙ ap (λ (k : ℕ). steps (8 * k) (bit_xor r (number (reverse (part at 4 bs))))) (length_part at 4 bs fits)

-- four bytes more
pub register-more : (r at n : ℕ) (bs : List ℕ) → Octets bs → at + n + 4 ≤ length bs
    → register r (part at (n + 4) bs) ≡ steps 32 (bit_xor (register r (part at n bs)) (number (reverse (part (at + n) 4 bs))))
register-more r at n bs h fits =
    ap (register r) (part-append at n 4 bs) ∙ register-append r (part at n bs) (part (at + n) 4 bs)
    ∙ register-four (register r (part at n bs)) (at + n) bs h fits
