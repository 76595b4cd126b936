-- The sum over a pseudo-header and what stands behind it is the sum of its parts, and of an address as one number.
-- Assumes nothing.
use mathlib.Core.Path.{◌≡◌, ap, ◌∙◌}
use mathlib.Core.Bool.{Bool, false}
use mathlib.Core.List.{List, ◌∷◌, ◌++◌, append_assoc}
use Prim.Native.Nat.{ℕ, ◌+◌, ◌%◌, ◌≤◌}
use native.Mathlib.Omega.{arith}
use lib.ListN.{length}
use Rattle.number_octets.specs.Octets.{number, octets, part}
use Rattle.number_octets.proofs.Laws.{number-two, number-four}
use Rattle.number_checksum.specs.Checksum.{word_sum, folded}
use Rattle.number_checksum.proofs.Folding.{folded-high}
use Rattle.number_checksum.proofs.Laws.{word_sum-append, parity-even, word_sum-two, word_sum-none, word_sum-word}
use Rattle.wire_datagram.specs.Reading.{pseudo_header}

-- a part of even length leaves parity as it was
even-append : (a b : List ℕ) → length a % 2 ≡ 0 → word_sum false (a ++ b) ≡ word_sum false a + word_sum false b
even-append a b e = word_sum-append false a b ∙ ap (λ (p : Bool). word_sum false a + word_sum p b) (parity-even false (length a) e)

protocol : (l : List ℕ) → word_sum false (0 ∷ 17 ∷ l) ≡ 17 + word_sum false l
unfolding word_sum
protocol l = omega arith

pseudo-sum : (source destination : List ℕ) (size : ℕ) (t : List ℕ) → length source % 2 ≡ 0 → length destination % 2 ≡ 0 → size ≤ 65535
    → word_sum false (pseudo_header source destination size ++ t) ≡ word_sum false source + word_sum false destination + 17 + size + word_sum false t
unfolding pseudo_header
pseudo-sum source destination size t s d h =
    let laid : (source ++ destination ++ (0 ∷ 17 ∷ octets 2 size)) ++ t ≡ source ++ (destination ++ (0 ∷ 17 ∷ (octets 2 size ++ t))) = simp append_assoc in
    ap (word_sum false) laid
    ∙ omega (
      arith,
      even-append source (destination ++ (0 ∷ 17 ∷ (octets 2 size ++ t))) s,
      even-append destination (0 ∷ 17 ∷ (octets 2 size ++ t)) d,
      protocol (octets 2 size ++ t),
      word_sum-word size t h,
    )

-- an address, read as one number, folds as its two words
address-folds : (m : ℕ) (l : List ℕ) → length l ≡ 4 → folded (m + number (part 0 4 l)) ≡ folded (m + word_sum false l)
address-folds m l size =
    let high = number-two 0 l (omega arith) in
    let low = number-two 2 l (omega arith) in
    let both = number-four 0 l (omega arith) in
    let first = word_sum-two l 0 (omega arith) in
    let second = word_sum-two l 2 (omega arith) in
    let none = word_sum-none false l 4 (omega arith) in
    ap folded (omega arith) ∙ folded-high (m + number (part 2 2 l)) (number (part 0 2 l)) ∙ ap folded (omega arith)

pub pseudo-folds : (source destination : List ℕ) (size : ℕ) (t : List ℕ) → length source ≡ 4 → length destination ≡ 4 → size ≤ 65535
    → folded (number (part 0 4 source) + number (part 0 4 destination) + 17 + size + word_sum false t)
    ≡ folded (word_sum false (pseudo_header source destination size ++ t))
pseudo-folds source destination size t s d h =
    let rest : ℕ = 17 + size + word_sum false t in
    let even : (l : List ℕ) → length l ≡ 4 → length l % 2 ≡ 0 = λ l e. ap (λ (n : ℕ). n % 2) e in
    ap folded (omega arith) ∙ address-folds (rest + number (part 0 4 source)) destination d
    ∙ ap folded (omega arith) ∙ address-folds (rest + word_sum false destination) source s
    ∙ ap folded (omega (arith, pseudo-sum source destination size t (even source s) (even destination d) h))
