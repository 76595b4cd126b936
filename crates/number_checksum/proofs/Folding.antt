-- What may change in a sum that is to be folded: its words may be wider, or each have its bytes swapped. Why: 65,536 folds to 1.
-- Assumes nothing.
use Rattle.std.proofs.Common.{◌≡◌, ℕ, zero, suc, ◌+◌, ◌*◌, ◌<◌, Bool, true, false, not, List, [], ◌∷◌, length, get_or, drop, sym, refl, ap, ◌∙◌, suc-mul, arith}
use Rattle.number_checksum.specs.Checksum.{word_sum, folded}
use Rattle.number_checksum.proofs.Laws.{folded-pos, folded-add, folded-add-right, word_sum-two}

-- what folds to the same may stand in its place, in a sum and in a product
pub folded-plus : (m a b : ℕ) → folded a ≡ folded b → folded (m + a) ≡ folded (m + b)
folded-plus m a b e = sym (folded-add-right m a) ∙ ap (λ (x : ℕ). folded (m + x)) e ∙ folded-add-right m b

pub folded-times : (k a b : ℕ) → folded a ≡ folded b → folded (k * a) ≡ folded (k * b)
folded-times zero a b e = ap folded (omega arith)
folded-times (suc k) a b e =
    ap folded (suc-mul k a) ∙ folded-plus (k * a) a b e ∙ sym (folded-add (k * a) b)
    ∙ ap (λ (x : ℕ). folded (x + b)) (folded-times k a b e) ∙ folded-add (k * b) b ∙ ap folded (sym (suc-mul k b))

-- what stands above the low 16 bits is added to them
pub folded-high : (m h : ℕ) → folded (m + 65536 * h) ≡ folded (m + h)
folded-high m zero = refl
folded-high m (suc h) =
    folded-pos (m + 65536 * suc h) (omega arith) ∙ omega arith ∙ sym (folded-pos (m + suc h) (omega arith))

-- 256 times a sum is the sum with the bytes of each word swapped
pub folded-swapped : (odd : Bool) (m : ℕ) (l : List ℕ) → folded (m + 256 * word_sum odd l) ≡ folded (m + word_sum (not odd) l)
unfolding word_sum
folded-swapped odd m [] = ap folded (omega arith)
folded-swapped true m (b ∷ l) =
    ap folded (omega arith) ∙ folded-swapped false (m + b * 256) l ∙ ap folded (omega arith)
folded-swapped false m (b ∷ l) =
    ap folded (omega arith) ∙ folded-swapped true (m + 65536 * b) l ∙ ap folded (omega arith)
    ∙ folded-high (m + word_sum false l) b ∙ ap folded (omega arith)

-- a little-endian number of 32 bits at the front of what is left
pub folded-word : (l : List ℕ) (i : ℕ) → i + 3 < length l
    → folded (get_or l i 0 + get_or l (i + 1) 0 * 256 + get_or l (i + 2) 0 * 65536 + get_or l (i + 3) 0 * 16777216 + word_sum true (drop (i + 4) l))
    ≡ folded (word_sum true (drop i l))
folded-word l i h =
    let third : i + 2 + 1 ≡ i + 3 = omega arith in
    let fourth : i + 2 + 2 ≡ i + 4 = omega arith in
    let last : get_or l (i + 2 + 1) 0 ≡ get_or l (i + 3) 0 = ap (λ (j : ℕ). get_or l j 0) third in
    let behind : word_sum true (drop (i + 2 + 2) l) ≡ word_sum true (drop (i + 4) l) = ap (λ (j : ℕ). word_sum true (drop j l)) fourth in
    let first = word_sum-two l i (omega arith) in
    let second = word_sum-two l (i + 2) (omega arith) in
    ap folded (omega arith)
    ∙ folded-high (get_or l i 0 + get_or l (i + 1) 0 * 256 + word_sum true (drop (i + 4) l)) (get_or l (i + 2) 0 + get_or l (i + 3) 0 * 256)
    ∙ ap folded (omega arith)
