-- Words that are stepped together: each word more moves those before it on by 32 bits. Assumes nothing.
use mathlib.Core.Path.{◌≡◌, sym, ap, ap₂, ◌∙◌}
use mathlib.Core.List.{List, [], ◌∷◌, reverse}
use Prim.Native.Nat.{ℕ, ◌+◌, ◌≤◌}
use native.Mathlib.Omega.{arith}
use lib.Bits.{bit_xor, xor_comm, xor_zero_r}
use lib.ListN.{length, get_or}
use Rattle.number_octets.specs.Octets.{Octets, number, part}
use Rattle.number_crc_steps.specs.Steps.{steps}
use Rattle.number_crc_steps.proofs.Xor.{xor_assoc}
use Rattle.number_crc_steps.proofs.Steps.{steps-add, steps-xor, steps-zero}
use Rattle.number_crc32c.specs.Crc.{register}
use Rattle.number_crc32c.specs.Words.{joined}
use Rattle.number_crc32c.proofs.Laws.{register-four, register-more}

joined-one : (d : ℕ) → joined 0 0 0 d ≡ steps 32 d
unfolding joined
joined-one d =
    let none : (k x : ℕ) → bit_xor x (steps k 0) ≡ x = λ k x. ap (bit_xor x) (steps-zero k) ∙ xor_zero_r x in
    none 128 (bit_xor (bit_xor (steps 32 d) (steps 64 0)) (steps 96 0)) ∙ none 96 (bit_xor (steps 32 d) (steps 64 0)) ∙ none 64 (steps 32 d)

joined-more : (a b c w : ℕ) → steps 32 (bit_xor (joined 0 a b c) w) ≡ joined a b c w
unfolding joined
joined-more a b c w =
    let x = steps 64 c in
    let y = steps 96 b in
    let z = steps 128 a in
    let three = bit_xor (bit_xor (steps 32 c) (steps 64 b)) (steps 96 a) in
    let without : bit_xor three (steps 128 0) ≡ three = ap (bit_xor three) (steps-zero 128) ∙ xor_zero_r three in
    let on : (k n : ℕ) → steps 32 (steps k n) ≡ steps (k + 32) n = λ k n. sym (steps-add k 32 n) in
    let moved : steps 32 three ≡ bit_xor (bit_xor x y) z =
    steps-xor 32 (bit_xor (steps 32 c) (steps 64 b)) (steps 96 a)
    ∙ ap₂ bit_xor (steps-xor 32 (steps 32 c) (steps 64 b) ∙ ap₂ bit_xor (on 32 c) (on 64 b)) (on 96 a) in
    ap (λ (n : ℕ). steps 32 (bit_xor n w)) without ∙ steps-xor 32 three w ∙ ap (λ (n : ℕ). bit_xor n (steps 32 w)) moved
    ∙ xor_comm (bit_xor (bit_xor x y) z) (steps 32 w)
    ∙ sym (xor_assoc (steps 32 w) (bit_xor x y) z) ∙ ap (λ (n : ℕ). bit_xor n z) (sym (xor_assoc (steps 32 w) x y))

-- the word at a place
abbrev pub little : ℕ → List ℕ → ℕ
little at bs = number (reverse (part at 4 bs))

module _ (r at : ℕ) (bs : List ℕ) (h : Octets bs) where
  pub one_word : at + 4 ≤ length bs → joined 0 0 0 (bit_xor r (little at bs)) ≡ register r (part at 4 bs)
  one_word fits = joined-one (bit_xor r (little at bs)) ∙ sym (register-four r at bs h fits)

  next : (n : ℕ) (a b c : ℕ) → at + n + 4 ≤ length bs → joined 0 a b c ≡ register r (part at n bs)
      → joined a b c (little (at + n) bs) ≡ register r (part at (n + 4) bs)
  next n a b c fits e =
      sym (joined-more a b c (little (at + n) bs)) ∙ ap (λ (x : ℕ). steps 32 (bit_xor x (little (at + n) bs))) e ∙ sym (register-more r at n bs h fits)

  pub two-words : at + 8 ≤ length bs → joined 0 0 (bit_xor r (little at bs)) (little (at + 4) bs) ≡ register r (part at 8 bs)
  two-words fits = next 4 0 0 (bit_xor r (little at bs)) (omega arith) (one_word (omega arith))

  pub three-words : at + 12 ≤ length bs
      → joined 0 (bit_xor r (little at bs)) (little (at + 4) bs) (little (at + 8) bs) ≡ register r (part at 12 bs)
  three-words fits = next 8 0 (bit_xor r (little at bs)) (little (at + 4) bs) (omega arith) (two-words (omega arith))

  pub four-words : at + 16 ≤ length bs
      → joined (bit_xor r (little at bs)) (little (at + 4) bs) (little (at + 8) bs) (little (at + 12) bs) ≡ register r (part at 16 bs)
  four-words fits = next 12 (bit_xor r (little at bs)) (little (at + 4) bs) (little (at + 8) bs) (omega arith) (three-words (omega arith))

-- ---- four words in four turns, the last one first

-- the sums after i words
pub record WordsAdded (a b c d i one two three four : ℕ) : Type 0 where
  pub once : i ≡ 1 → one ≡ steps 32 d
  pub twice : i ≡ 2 → two ≡ bit_xor (steps 32 d) (steps 64 c)
  pub thrice : i ≡ 3 → three ≡ bit_xor (bit_xor (steps 32 d) (steps 64 c)) (steps 96 b)
  pub all : i ≡ 4 → four ≡ joined a b c d

pub no_word : (a b c d : ℕ) {one two three four : ℕ} → WordsAdded a b c d 0 one two three four
no_word a b c d = record {
  once = λ e. absurd (omega arith);
  twice = λ e. absurd (omega arith);
  thrice = λ e. absurd (omega arith);
  all = λ e. absurd (omega arith);
}

pub word-added : {a b c d i word one two three four one₁ two₁ three₁ four₁ : ℕ} → word ≡ get_or (d ∷ c ∷ b ∷ a ∷ []) i 0 → WordsAdded a b c d i one two three four
    → (one₁ ≡ steps 32 word) × (two₁ ≡ bit_xor one (steps 64 word)) × (three₁ ≡ bit_xor two (steps 96 word)) × (four₁ ≡ bit_xor three (steps 128 word))
    → WordsAdded a b c d (i + 1) one₁ two₁ three₁ four₁
unfolding joined
word-added {a} {b} {c} {d} {i} {word} at t m =
    let here : (k : ℕ) → i ≡ k → word ≡ get_or (d ∷ c ∷ b ∷ a ∷ []) k 0 = λ k e. at ∙ ap (λ (n : ℕ). get_or (d ∷ c ∷ b ∷ a ∷ []) n 0) e in
    record {
      once = λ e. m.0 ∙ ap (steps 32) (here 0 (omega arith));
      twice = λ e. m.1 ∙ ap₂ bit_xor (t.once (omega arith)) (ap (steps 64) (here 1 (omega arith)));
      thrice = λ e. m.2 ∙ ap₂ bit_xor (t.twice (omega arith)) (ap (steps 96) (here 2 (omega arith)));
      all = λ e. m.3 ∙ ap₂ bit_xor (t.thrice (omega arith)) (ap (steps 128) (here 3 (omega arith)));
    }
