-- Laws of the folded sum: folding early changes nothing, parts laid end to end add up, and a checksum field makes the whole FFFF.
-- Assumes nothing.
use Rattle.std.proofs.Common.{◌≡◌, ℕ, zero, suc, ◌+◌, ◌-◌, ◌*◌, ◌/◌, ◌%◌, ◌<◌, ◌≤◌, Bool, true, false, cond, not, eqb, List, [], ◌∷◌, ◌++◌, length, get_or, take, drop, sym, refl, ap, ◌∙◌, add_comm, suc-add, arith, length-append, min, take-append-drop, drop_of_length-le, length-take-le, drop-cons, eqb-true}
use native.Mathlib.Nat.{mod-add-mod}
use native.Mathlib.Numerals.{towards_suc}
use borrow.Author.Tests.{eqb-false}
use Rattle.number_octets.specs.Octets.{octets}
use Rattle.number_octets.proofs.Laws.{octets-two}
use Rattle.number_checksum.specs.Checksum.{all_ones, word_sum, folded, parity_after, sent}

-- ---- folding

pub folded-le : (n : ℕ) → folded n ≤ all_ones
unfolding folded
folded-le zero = omega arith
folded-le (suc n) = omega arith

-- a folded sum is 0 only where the sum is
pub folded-zero : (n : ℕ) → folded n ≡ 0 → n ≡ 0
unfolding folded
folded-zero zero e = refl
folded-zero (suc n) e = absurd (omega arith)

-- what is folded already stays
pub folded-small : (n : ℕ) → n ≤ all_ones → folded n ≡ n
unfolding folded
folded-small zero h = refl
folded-small (suc n) h = omega arith

pub folded-pos : (n : ℕ) → 0 < n → folded n ≡ (n - 1) % all_ones + 1
unfolding folded
folded-pos zero h = absurd (omega arith)
folded-pos (suc n) h = omega arith

-- folding early changes nothing
pub folded-add : (a b : ℕ) → folded (folded a + b) ≡ folded (a + b)
unfolding folded
folded-add zero b = refl
folded-add (suc a) b =
    let early : a % all_ones + 1 + b ≡ suc (a % all_ones + b) = omega arith in
    ap folded early ∙ ap (λ (n : ℕ). n + 1) (mod-add-mod a all_ones b) ∙ ap folded (sym (suc-add a b))

pub folded-add-right : (a b : ℕ) → folded (a + folded b) ≡ folded (a + b)
folded-add-right a b = ap folded (add_comm a (folded b)) ∙ folded-add b a ∙ ap folded (add_comm b a)

-- addition with an end-around carry, as RFC 1071 has it
pub folded-carry : (a b : ℕ) → a ≤ all_ones → b ≤ all_ones → all_ones < a + b → folded (a + b) ≡ a + b - all_ones
folded-carry a b ha hb h = omega (arith, folded-pos (a + b) (omega arith))

-- ---- parts laid end to end

pub word_sum-append : (odd : Bool) (a b : List ℕ) → word_sum odd (a ++ b) ≡ word_sum odd a + word_sum (parity_after odd (length a)) b
unfolding word_sum parity_after
word_sum-append odd [] b = omega arith
word_sum-append false (x ∷ a) b = omega (arith, word_sum-append true a b)
word_sum-append true (x ∷ a) b = omega (arith, word_sum-append false a b)

two-more : (odd : Bool) (n : ℕ) → parity_after odd (suc (suc n)) ≡ parity_after odd n
unfolding parity_after
two-more false n = refl
two-more true n = refl

-- parity after an even and after an odd number of bytes
pub parity-even : (odd : Bool) (n : ℕ) → n % 2 ≡ 0 → parity_after odd n ≡ odd
unfolding parity_after
parity-even odd zero e = refl
parity-even odd (suc zero) e = absurd (omega arith)
parity-even odd (suc (suc n)) e = two-more odd n ∙ parity-even odd n (omega arith)

pub parity-odd : (odd : Bool) (n : ℕ) → n % 2 ≡ 1 → parity_after odd n ≡ not odd
unfolding parity_after
parity-odd odd zero e = absurd (omega arith)
parity-odd odd (suc zero) e = refl
parity-odd odd (suc (suc n)) e = two-more odd n ∙ parity-odd odd n (omega arith)

-- a list cut after an even number of bytes
pub word_sum-cut : (odd : Bool) (n : ℕ) (l : List ℕ) → n % 2 ≡ 0 → n ≤ length l → word_sum odd l ≡ word_sum odd (take n l) + word_sum odd (drop n l)
word_sum-cut odd n l even h =
    ap (word_sum odd) (sym (take-append-drop n l)) ∙ word_sum-append odd (take n l) (drop n l)
    ∙ ap (λ (p : Bool). word_sum odd (take n l) + word_sum p (drop n l))
    (ap (parity_after odd) (length-take-le n l h) ∙ parity-even odd n even)

-- a block at the front added to a folded sum: its length is even, or nothing stands behind it
pub folded-block : (odd : Bool) (sum r n : ℕ) (whole block rest : List ℕ) → n % 2 ≡ 0 → whole ≡ block ++ rest → length block ≡ min n (length whole)
    → r ≡ folded (sum + word_sum odd block) → folded (r + word_sum odd rest) ≡ folded (sum + word_sum odd whole)
unfolding word_sum
folded-block odd sum r n whole block rest even e short f =
    let cut : word_sum odd whole ≡ word_sum odd block + word_sum (parity_after odd (length block)) rest =
    ap (word_sum odd) e ∙ word_sum-append odd block rest in
    let size : length whole ≡ length block + length rest = ap length e ∙ length-append block rest in
    let behind : word_sum (parity_after odd (length block)) rest ≡ word_sum odd rest = go rest (λ some. parity-even odd (length block) (omega arith)) in
    ap (λ (x : ℕ). folded (x + word_sum odd rest)) f ∙ folded-add (sum + word_sum odd block) (word_sum odd rest) ∙ ap folded (omega arith)
  where
    go : (l : List ℕ) → (0 < length l → parity_after odd (length block) ≡ odd) → word_sum (parity_after odd (length block)) l ≡ word_sum odd l
    go [] same = refl
    go (b ∷ l) same = ap (λ (p : Bool). word_sum p (b ∷ l)) (same (omega arith))

pub word_sum-empty : (odd : Bool) (l : List ℕ) → length l ≡ 0 → word_sum odd l ≡ 0
unfolding word_sum
word_sum-empty odd [] h = refl
word_sum-empty odd (b ∷ l) h = absurd (omega arith)

-- two bytes at the front of what is left, the last byte, and none
pub word_sum-two : (l : List ℕ) (i : ℕ) → i + 1 < length l
    → (word_sum false (drop i l) ≡ get_or l i 0 * 256 + get_or l (i + 1) 0 + word_sum false (drop (i + 2) l))
    × (word_sum true (drop i l) ≡ get_or l i 0 + get_or l (i + 1) 0 * 256 + word_sum true (drop (i + 2) l))
unfolding word_sum
word_sum-two l i h =
    let front : drop i l ≡ get_or l i 0 ∷ get_or l (i + 1) 0 ∷ drop (i + 2) l = simp towards_suc
    (drop-cons l i 0 (omega arith) ∙ ap (λ (t : List ℕ). get_or l i 0 ∷ t) (drop-cons l (suc i) 0 (omega arith))) in
    (ap (word_sum false) front ∙ omega arith, ap (word_sum true) front ∙ omega arith)

pub word_sum-one : (l : List ℕ) (i : ℕ) → i + 1 ≡ length l → word_sum true (drop i l) ≡ get_or l i 0
unfolding word_sum
word_sum-one l i h =
    let front : drop i l ≡ get_or l i 0 ∷ [] = drop-cons l i 0 (omega arith)
    ∙ ap (λ (t : List ℕ). get_or l i 0 ∷ t) (drop_of_length-le l {i = suc i} (omega arith)) in
    ap (word_sum true) front ∙ omega arith

pub word_sum-none : (odd : Bool) (l : List ℕ) (i : ℕ) → length l ≤ i → word_sum odd (drop i l) ≡ 0
unfolding word_sum
word_sum-none odd l i h = ap (word_sum odd) (drop_of_length-le l h)

-- ---- words

-- the two bytes of a 16-bit word add that word
pub word_sum-word : (w : ℕ) (l : List ℕ) → w ≤ all_ones → word_sum false (octets 2 w ++ l) ≡ w + word_sum false l
unfolding word_sum
word_sum-word w l h =
    let digits : octets 2 w ≡ w / 256 ∷ w % 256 ∷ [] = octets-two w (omega arith) in
    ap (λ (t : List ℕ). word_sum false (t ++ l)) digits ∙ omega arith

-- ---- checksum fields

pub sent-pos : (s : ℕ) → s ≤ all_ones → 0 < sent s
unfolding sent
sent-pos s h = go (eqb s all_ones) refl
  where
    go : (t : Bool) → eqb s all_ones ≡ t → 0 < cond t all_ones (all_ones - s)
    go true e = omega arith
    go false e = omega (arith, eqb-false s all_ones e)

pub sent-le : (s : ℕ) → sent s ≤ all_ones
unfolding sent
sent-le s = go (eqb s all_ones)
  where
    go : (t : Bool) → cond t all_ones (all_ones - s) ≤ all_ones
    go true = omega arith
    go false = omega arith

-- what is sent makes the whole FFFF
pub sent-sum : (n : ℕ) → folded (n + sent (folded n)) ≡ all_ones
unfolding sent
sent-sum n = sym (folded-add n (sent (folded n))) ∙ go (eqb (folded n) all_ones) refl
  where
    go : (t : Bool) → eqb (folded n) all_ones ≡ t → folded (folded n + cond t all_ones (all_ones - folded n)) ≡ all_ones
    go true e =
        let full : folded n ≡ all_ones = eqb-true (folded n) all_ones e in
        ap (λ (m : ℕ). folded (m + all_ones)) full ∙ folded-carry all_ones all_ones (omega arith) (omega arith) (omega arith)
    go false e =
        let whole : folded n + (all_ones - folded n) ≡ all_ones = omega (arith, folded-le n) in
        ap folded whole ∙ folded-small all_ones (omega arith)

two-zeros : (l : List ℕ) → word_sum false (0 ∷ 0 ∷ l) ≡ word_sum false l
unfolding word_sum
two-zeros l = omega arith

-- a checksum field at an even offset, worked out with zeros in its place, makes the sum of the whole FFFF
pub field-law : (odd : Bool) (extra : ℕ) (before behind : List ℕ) → parity_after odd (length before) ≡ false
    → folded (extra + word_sum odd (before ++ (octets 2 (sent (folded (extra + word_sum odd (before ++ (0 ∷ 0 ∷ behind))))) ++ behind))) ≡ all_ones
field-law odd extra before behind even =
    let n : ℕ = extra + word_sum odd (before ++ (0 ∷ 0 ∷ behind)) in
    let w : ℕ = sent (folded n) in
    let split : (l : List ℕ) → word_sum odd (before ++ l) ≡ word_sum odd before + word_sum false l =
    λ l. word_sum-append odd before l ∙ ap (λ (p : Bool). word_sum odd before + word_sum p l) even in
    let zeros : word_sum false (0 ∷ 0 ∷ behind) ≡ word_sum false behind = two-zeros behind in
    let with : word_sum false (octets 2 w ++ behind) ≡ w + word_sum false behind = word_sum-word w behind (sent-le (folded n)) in
    let total : extra + word_sum odd (before ++ (octets 2 w ++ behind)) ≡ n + w =
    omega (arith, split (octets 2 w ++ behind), split (0 ∷ 0 ∷ behind)) in
    ap folded total ∙ sent-sum n
