-- A word looked up byte by byte, the lowest first: what has been added after j bytes are the steps of the number that those bytes are.
-- Assumes nothing.
use mathlib.Core.Path.{◌≡◌, refl, ap, ap₂, ◌∙◌}
use Prim.Native.Nat.{ℕ, ◌+◌, ◌*◌, ◌/◌, ◌%◌, ◌^◌, ◌<◌}
use native.Mathlib.Omega.{arith}
use lib.Bits.{bit_xor}
use Rattle.number_crc_steps.specs.Steps.{steps}
use Rattle.number_crc_steps.proofs.Xor.{xor_assoc}
use Rattle.number_crc_steps.proofs.Steps.{steps-digit, steps-lt}
use Rattle.number_crc_rows.specs.Rows.{two}

-- ---- a field of the table holds two entries

two-more : (more fewer n : ℕ) → n < 256 → two more fewer n / 4294967296 ≡ steps more n
unfolding two
two-more more fewer n h = omega (arith, steps-lt fewer n (omega arith))

two-fewer : (more fewer n : ℕ) → n < 256 → two more fewer n % 4294967296 ≡ steps fewer n
unfolding two
two-fewer more fewer n h = omega (arith, steps-lt fewer n (omega arith))

-- ---- byte by byte

-- what is left of a word after j bytes
pub record Rest (n j rest : ℕ) : Type 0 where
  pub none : j ≡ 0 → rest ≡ n
  pub one : j ≡ 1 → rest ≡ n / 256
  pub two : j ≡ 2 → rest ≡ n / 65536
  pub three : j ≡ 3 → rest ≡ n / 16777216

pub rest-first : (n : ℕ) → Rest n 0 n
rest-first n = record {
  none = λ e. refl;
  one = λ e. absurd (omega arith);
  two = λ e. absurd (omega arith);
  three = λ e. absurd (omega arith);
}

pub rest-next : {n j rest : ℕ} → Rest n j rest → Rest n (j + 1) (rest / 256)
rest-next {n} {j} {rest} l = record {
  none = λ e. absurd (omega arith);
  one = λ e. let here : rest ≡ n = l.none (omega arith) in omega arith;
  two = λ e. let here : rest ≡ n / 256 = l.one (omega arith) in omega arith;
  three = λ e. let here : rest ≡ n / 65536 = l.two (omega arith) in omega arith;
}

-- the sums after j bytes, where a word goes t bits and is added to `start`
pub record BytesAdded (t start n j one two three four : ℕ) : Type 0 where
  pub byte : j ≡ 1 → one ≡ bit_xor start (steps t (n % 256))
  pub pair : j ≡ 2 → two ≡ bit_xor start (steps t (n % 65536))
  pub triple : j ≡ 3 → three ≡ bit_xor start (steps t (n % 16777216))
  pub word : j ≡ 4 → four ≡ bit_xor start (steps t n)

pub no_byte : (t start n : ℕ) {one two three four : ℕ} → BytesAdded t start n 0 one two three four
no_byte t start n = record {
  byte = λ e. absurd (omega arith);
  pair = λ e. absurd (omega arith);
  triple = λ e. absurd (omega arith);
  word = λ e. absurd (omega arith);
}

-- a sum with one digit more, k steps behind those before it
one_more : (start k m t x y z : ℕ) {sum entry : ℕ} → k + m ≡ t → x < 2 ^ k → y * 2 ^ k + x ≡ z → sum ≡ bit_xor start (steps t x) → entry ≡ steps m y
    → bit_xor sum entry ≡ bit_xor start (steps t z)
one_more start k m t x y z e h whole s d =
    ap₂ bit_xor s d ∙ xor_assoc start (steps t x) (steps m y)
    ∙ ap (bit_xor start) (steps-digit k m t x y e h ∙ ap (steps t) whole)

module _ (m start : ℕ) {n j rest one two' three four : ℕ} (small : n < 2 ^ 32) (l : Rest n j rest)
    (s : BytesAdded (24 + m) start n j one two' three four) where
  -- the entries of the byte, and the sums with them
  module _ {high low : ℕ} (eh : high ≡ two (24 + m) (16 + m) (rest % 256)) (el : low ≡ two (8 + m) m (rest % 256)) where
    byte : j ≡ 0 → bit_xor start (high / 4294967296) ≡ bit_xor start (steps (24 + m) (n % 256))
    byte e =
        let here : rest ≡ n = l.none e in
        ap (bit_xor start) (ap (λ (x : ℕ). x / 4294967296) eh ∙ two-more (24 + m) (16 + m) (rest % 256) (omega arith)
        ∙ ap (λ (x : ℕ). steps (24 + m) (x % 256)) here)

    pair : j ≡ 1 → bit_xor one (high % 4294967296) ≡ bit_xor start (steps (24 + m) (n % 65536))
    pair e =
        let here : rest % 256 ≡ n / 256 % 256 = ap (λ (x : ℕ). x % 256) (l.one e) in
        one_more start 8 (16 + m) (24 + m) (n % 256) (n / 256 % 256) (n % 65536) (omega arith) (omega arith) (omega arith) (s.byte e)
        (ap (λ (x : ℕ). x % 4294967296) eh ∙ two-fewer (24 + m) (16 + m) (rest % 256) (omega arith) ∙ ap (steps (16 + m)) here)

    triple : j ≡ 2 → bit_xor two' (low / 4294967296) ≡ bit_xor start (steps (24 + m) (n % 16777216))
    triple e =
        let here : rest % 256 ≡ n / 65536 % 256 = ap (λ (x : ℕ). x % 256) (l.two e) in
        one_more start 16 (8 + m) (24 + m) (n % 65536) (n / 65536 % 256) (n % 16777216) (omega arith) (omega arith) (omega arith) (s.pair e)
        (ap (λ (x : ℕ). x / 4294967296) el ∙ two-more (8 + m) m (rest % 256) (omega arith) ∙ ap (steps (8 + m)) here)

    word : j ≡ 3 → bit_xor three (low % 4294967296) ≡ bit_xor start (steps (24 + m) n)
    word e =
        let here : rest % 256 ≡ n / 16777216 = ap (λ (x : ℕ). x % 256) (l.three e) ∙ omega arith in
        one_more start 24 m (24 + m) (n % 16777216) (n / 16777216) n (omega arith) (omega arith) (omega arith) (s.triple e)
        (ap (λ (x : ℕ). x % 4294967296) el ∙ two-fewer (8 + m) m (rest % 256) (omega arith) ∙ ap (steps m) here)

    pub byte-added : {one₁ two₁ three₁ four₁ : ℕ}
        → (one₁ ≡ bit_xor start (high / 4294967296)) × (two₁ ≡ bit_xor one (high % 4294967296))
        × (three₁ ≡ bit_xor two' (low / 4294967296)) × (four₁ ≡ bit_xor three (low % 4294967296))
        → BytesAdded (24 + m) start n (j + 1) one₁ two₁ three₁ four₁
    byte-added r = record {
      byte = λ e. r.0 ∙ byte (omega arith);
      pair = λ e. r.1 ∙ pair (omega arith);
      triple = λ e. r.2 ∙ triple (omega arith);
      word = λ e. r.3 ∙ word (omega arith);
    }
