-- Laws of numbers in network byte order, proved once over the width, and of a list laid over another.
-- Assumes nothing.
use mathlib.Core.Path.{◌≡◌, refl, sym, ap, ap₂, ◌∙◌, subst}
use mathlib.Core.List.{List, [], ◌∷◌, ◌++◌, reverse, append_assoc}
use Prim.Native.Nat.{ℕ, zero, suc, ◌+◌, ◌-◌, ◌*◌, ◌/◌, ◌%◌, ◌^◌, ◌<◌, ◌≤◌}
use native.Mathlib.Nat.{
  zero-add,
  suc-add,
  mul_comm,
  mul_assoc,
  add-mul,
  pow-suc,
  mod-lt,
  mod-one,
  mod-mod,
  mod-eq_of_lt,
  div-div-eq-div-mul,
  mul-add-mod_self_right,
}
use native.Mathlib.Numerals.{add-one}
use native.Mathlib.Omega.{arith}
use lib.Arith.{digits_lt, digits_div, digits_mod, mod-mul}
use lib.Dec.{lit<}
use lib.ListN.{length, take, drop, get_or, set, length-append, length-take, length-drop, take-append-drop}
use lib.Pow.{pow-add}
use lib.Seq.{
  drop-cons,
  take-add,
  take_all,
  drop-drop,
  take-append_seam,
  drop-append_seam,
  take-append-le,
  drop-append-le,
  get_or-drop,
  take_at,
  drop_at,
  length-take-le,
  sets,
  sets-eq,
}
use Rattle.number_octets.specs.Octets.{Octets, number, octets, part, overlay}

-- 256 ^ k is positive
pub radix-pos : (k : ℕ) → 0 < 256 ^ k
radix-pos zero = lit< tt
radix-pos (suc k) = let h : 0 < 256 ^ k = radix-pos k in rw pow-suc (omega arith)

radix-suc : (k : ℕ) → 256 ^ suc k ≡ 256 * 256 ^ k
radix-suc k = pow-suc 256 k ∙ mul_comm (256 ^ k) 256

-- ---- the number of a list

-- the number of two lists laid end to end
pub number_append : (a b : List ℕ) → number (a ++ b) ≡ number a * 256 ^ length b + number b
unfolding number
number_append [] b = omega arith
number_append (x ∷ a) b =
    let ih : number (a ++ b) ≡ number a * 256 ^ length b + number b = number_append a b in
    let w : x * 256 ^ length (a ++ b) ≡ x * 256 ^ length a * 256 ^ length b =
    ap (λ (n : ℕ). x * 256 ^ n) (length-append a b) ∙ ap (λ (n : ℕ). x * n) (pow-add 256 (length a) (length b))
    ∙ sym (mul_assoc x (256 ^ length a) (256 ^ length b)) in
    let d : (x * 256 ^ length a + number a) * 256 ^ length b ≡ x * 256 ^ length a * 256 ^ length b + number a * 256 ^ length b =
    add-mul (x * 256 ^ length a) (number a) (256 ^ length b) in
    omega arith

-- a list of bytes stands for a number below 256 to the power of its length
pub number_lt : (bs : List ℕ) → Octets bs → number bs < 256 ^ length bs
unfolding number
number_lt [] h = lit< tt
number_lt (b ∷ bs) h = rw radix-suc (digits_lt (h 0) (number_lt bs (λ i. h (suc i))))

-- ---- the bytes of a number

pub length-octets : (w n : ℕ) → length (octets w n) ≡ w
unfolding octets
length-octets zero n = refl
length-octets (suc w) n = ap suc (length-octets w n)

pub octets-bytes : (w n : ℕ) → Octets (octets w n)
unfolding octets
octets-bytes zero n i = lit< tt
octets-bytes (suc w) n zero = mod-lt (n / 256 ^ w) (lit< tt)
octets-bytes (suc w) n (suc i) = octets-bytes w n i

-- reading back what was written
pub number-octets-mod : (w n : ℕ) → number (octets w n) ≡ n % 256 ^ w
unfolding number octets
number-octets-mod zero n = sym (mod-one n)
number-octets-mod (suc w) n =
    ap₂ (λ (k m : ℕ). n / 256 ^ w % 256 * 256 ^ k + m) (length-octets w n) (number-octets-mod w n)
    ∙ sym (mod-mul n {m = 256} (lit< tt) (radix-pos w)) ∙ ap (λ (k : ℕ). n % k) (sym (radix-suc w))

pub number-octets : (w n : ℕ) → n < 256 ^ w → number (octets w n) ≡ n
number-octets w n h = number-octets-mod w n ∙ mod-eq_of_lt h

-- two numbers that agree in their lowest w bytes
pub octets-mod : (w n m : ℕ) → n % 256 ^ w ≡ m % 256 ^ w → octets w n ≡ octets w m
unfolding octets
octets-mod zero n m e = refl
octets-mod (suc w) n m e = ap₂ ◌∷◌ (sym (top n) ∙ ap (λ (x : ℕ). x / 256 ^ w) e ∙ top m)
    (octets-mod w n m (sym (rest n) ∙ ap (λ (x : ℕ). x % 256 ^ w) e ∙ rest m))
  where
    cut : (x : ℕ) → x % 256 ^ suc w ≡ x / 256 ^ w % 256 * 256 ^ w + x % 256 ^ w
    cut x = ap (λ (k : ℕ). x % k) (radix-suc w) ∙ mod-mul x {m = 256} (lit< tt) (radix-pos w)

    top : (x : ℕ) → x % 256 ^ suc w / 256 ^ w ≡ x / 256 ^ w % 256
    top x = ap (λ (k : ℕ). k / 256 ^ w) (cut x) ∙ digits_div (x / 256 ^ w % 256) (mod-lt x (radix-pos w))

    rest : (x : ℕ) → x % 256 ^ suc w % 256 ^ w ≡ x % 256 ^ w
    rest x = ap (λ (k : ℕ). k % 256 ^ w) (cut x) ∙ digits_mod (x / 256 ^ w % 256) (mod-lt x (radix-pos w))

-- writing back what was read
pub octets-number : (bs : List ℕ) → Octets bs → octets (length bs) (number bs) ≡ bs
unfolding number octets
octets-number [] h = refl
octets-number (b ∷ bs) h =
    let small : number bs < 256 ^ length bs = number_lt bs (λ i. h (suc i)) in
    ap₂ ◌∷◌
    (ap (λ (x : ℕ). x % 256) (digits_div b small) ∙ mod-eq_of_lt (h 0))
    (octets-mod (length bs) (b * 256 ^ length bs + number bs) (number bs) (mul-add-mod_self_right b (256 ^ length bs) (number bs))
    ∙ octets-number bs (λ i. h (suc i)))

-- the bytes of a number, high part and low part
pub octets-append : (v w n : ℕ) → octets (v + w) n ≡ octets v (n / 256 ^ w) ++ octets w n
unfolding octets
octets-append zero w n = ap (λ (k : ℕ). octets k n) (zero-add w)
octets-append (suc v) w n =
    ap (λ (k : ℕ). octets k n) (suc-add v w)
    ∙ ap₂ ◌∷◌
    (ap (λ (k : ℕ). k % 256) (ap (λ (k : ℕ). n / k) (pow-add 256 v w ∙ mul_comm (256 ^ v) (256 ^ w)) ∙ sym (div-div-eq-div-mul n (256 ^ w) (256 ^ v))))
    (octets-append v w n)

-- ---- a part of a list

pub part-append : (at m n : ℕ) (l : List ℕ) → part at (m + n) l ≡ part at m l ++ part (at + m) n l
part-append at m n l = take-add m n (drop at l) ∙ ap (λ (t : List ℕ). take m (drop at l) ++ take n t) (drop-drop m at l)

pub part-one : (at : ℕ) (l : List ℕ) → at < length l → part at 1 l ≡ get_or l at 0 ∷ []
part-one at l h = ap (take 1) (drop-cons l at 0 h)

-- two bytes, as they stand and as a number
pub part-two : (at : ℕ) (l : List ℕ) → at + 2 ≤ length l → part at 2 l ≡ get_or l at 0 ∷ get_or l (at + 1) 0 ∷ []
part-two at l h =
    let first : at < length l = omega arith in
    let second : at + 1 < length l = omega arith in
    part-append at 1 1 l ∙ ap₂ ◌++◌ (part-one at l first) (part-one (at + 1) l second)

pub number-two : (at : ℕ) (l : List ℕ) → at + 2 ≤ length l → number (part at 2 l) ≡ get_or l at 0 * 256 + get_or l (at + 1) 0
unfolding number
number-two at l h = ap number (part-two at l h) ∙ omega arith

pub number-four : (at : ℕ) (l : List ℕ) → at + 4 ≤ length l → number (part at 4 l) ≡ number (part at 2 l) * 65536 + number (part (at + 2) 2 l)
number-four at l h =
    let size : length (part (at + 2) 2 l) ≡ 2 = simp (length-take, length-drop) (omega arith) in
    ap number (part-append at 2 2 l) ∙ number_append (part at 2 l) (part (at + 2) 2 l)
    ∙ ap (λ (k : ℕ). number (part at 2 l) * 256 ^ k + number (part (at + 2) 2 l)) size

pub part-four : (at : ℕ) (l : List ℕ) → at + 4 ≤ length l
    → part at 4 l ≡ get_or l at 0 ∷ get_or l (at + 1) 0 ∷ get_or l (at + 2) 0 ∷ get_or l (at + 3) 0 ∷ []
part-four at l h =
    let third : at + 2 + 1 ≡ at + 3 = omega arith in
    part-append at 2 2 l ∙ ap₂ ◌++◌ (part-two at l (omega arith)) (part-two (at + 2) l (omega arith))
    ∙ ap (λ (i : ℕ). get_or l at 0 ∷ get_or l (at + 1) 0 ∷ get_or l (at + 2) 0 ∷ get_or l i 0 ∷ []) third

-- the number of four bytes, the least significant first
pub little-four : (at : ℕ) (l : List ℕ) → at + 4 ≤ length l
    → number (reverse (part at 4 l)) ≡ get_or l at 0 + get_or l (at + 1) 0 * 256 + get_or l (at + 2) 0 * 65536 + get_or l (at + 3) 0 * 16777216
unfolding number
little-four at l h = ap (λ (bs : List ℕ). number (reverse bs)) (part-four at l h) ∙ omega arith

pub length_part : (at n : ℕ) (l : List ℕ) → at + n ≤ length l → length (part at n l) ≡ n
length_part at n l h = simp (length-take, length-drop) (omega arith)

-- the part from a position to the end
pub part-rest : (at : ℕ) (l : List ℕ) → part at (length l - at) l ≡ drop at l
part-rest at l = take_all (length l - at) (drop at l) (simp length-drop (omega arith))

-- a part of the front is that part of the whole
pub part-take : (at n m : ℕ) (l : List ℕ) → at + n ≤ m → m ≤ length l → part at n (take m l) ≡ part at n l
part-take at n m l inner fits =
    let size : length (take m l) ≡ m = length-take-le m l fits in
    let left : length (drop at (take m l)) ≡ m - at = length-drop at (take m l) ∙ ap (λ (k : ℕ). k - at) size in
    sym (ap (λ (t : List ℕ). part at n t) (sym (take-append-drop m l))
    ∙ ap (take n) (drop-append-le at (take m l) (drop m l) (omega arith))
    ∙ take-append-le n (drop at (take m l)) (drop m l) (omega arith))

pub part_bytes : (at n : ℕ) (l : List ℕ) → Octets l → Octets (take n (drop at l))
part_bytes at n l h i = go n (drop at l) (λ j. subst (λ (x : ℕ). x < 256) (sym (get_or-drop at l j 0)) (h (at + j))) i
  where
    go : (n : ℕ) (l : List ℕ) → Octets l → Octets (take n l)
    go zero l h i = lit< tt
    go (suc n) [] h i = lit< tt
    go (suc n) (x ∷ l) h zero = h 0
    go (suc n) (x ∷ l) h (suc i) = go n l (λ j. h (suc j)) i

-- ---- a list laid over another

module _ (t : List ℕ) (at : ℕ) (bs : List ℕ) (fits : at + length bs ≤ length t) where
  front_length : length (take at t) ≡ at
  front_length = length-take-le at t (omega arith)

  pub length-overlay : length (overlay t at bs) ≡ length t
  length-overlay = simp (length-append, length-take, length-drop) (omega arith)

  -- what was laid there is what stands there
  pub part-overlay : part at (length bs) (overlay t at bs) ≡ bs
  part-overlay =
      ap (take (length bs)) (drop_at (take at t) (bs ++ drop (at + length bs) t) at front_length) ∙ take-append_seam bs (drop (at + length bs) t)

  pub take-overlay : take at (overlay t at bs) ≡ take at t
  take-overlay = take_at (take at t) (bs ++ drop (at + length bs) t) at front_length

  pub drop-overlay : drop (at + length bs) (overlay t at bs) ≡ drop (at + length bs) t
  drop-overlay =
      sym (drop-drop (length bs) at (overlay t at bs))
      ∙ ap (drop (length bs)) (drop_at (take at t) (bs ++ drop (at + length bs) t) at front_length) ∙ drop-append_seam bs (drop (at + length bs) t)

-- one list laid right behind another
pub overlay-append : (t : List ℕ) (at : ℕ) (a b : List ℕ) → at + length (a ++ b) ≤ length t
    → overlay (overlay t at a) (at + length a) b ≡ overlay t at (a ++ b)
overlay-append t at a b fits =
    let n : length (a ++ b) ≡ length a + length b = length-append a b in
    let first : take (at + length a) (overlay t at a) ≡ take at t ++ a =
    ap (take (at + length a)) (sym (append_assoc (take at t) a (drop (at + length a) t)))
    ∙ take_at (take at t ++ a) (drop (at + length a) t) (at + length a) (simp (length-append, length-take) (omega arith)) in
    let end : at + length a + length b ≡ at + length (a ++ b) = omega arith in
    let last : drop (at + length a + length b) (overlay t at a) ≡ drop (at + length (a ++ b)) t =
    sym (drop-drop (length b) (at + length a) (overlay t at a)) ∙ ap (drop (length b)) (drop-overlay t at a (omega arith))
    ∙ drop-drop (length b) (at + length a) t ∙ ap (λ (k : ℕ). drop k t) end in
    ap₂ (λ (x y : List ℕ). x ++ (b ++ y)) first last ∙ simp append_assoc

-- bytes stored one after the other
pub overlay-sets : (t : List ℕ) (at : ℕ) (bs : List ℕ) → at + length bs ≤ length t → sets t at bs ≡ overlay t at bs
overlay-sets t at bs fits = sets-eq bs t at fits ∙ append_assoc (take at t) bs (drop (at + length bs) t)

pub octets-two : (v : ℕ) → v < 65536 → octets 2 v ≡ v / 256 ∷ v % 256 ∷ []
unfolding octets
octets-two v h =
    let high : v / 256 % 256 ≡ v / 256 = omega arith in
    let low : v / 1 % 256 ≡ v % 256 = omega arith in
    ap₂ (λ (x y : ℕ). x ∷ y ∷ []) high low

pub overlay-two : (t : List ℕ) (at v : ℕ) → v < 65536 → at + 2 ≤ length t
    → set (set t at (v / 256)) (at + 1) (v % 256) ≡ overlay t at (octets 2 v)
overlay-two t at v small fits =
    ap (λ (k : ℕ). set (set t at (v / 256)) k (v % 256)) (add-one at) ∙ overlay-sets t at (v / 256 ∷ v % 256 ∷ []) fits
    ∙ ap (overlay t at) (sym (octets-two v small))

pub overlay-four : (t : List ℕ) (at v : ℕ) → at + 4 ≤ length t
    → overlay (overlay t at (octets 2 (v / 65536))) (at + 2) (octets 2 (v % 65536)) ≡ overlay t at (octets 4 v)
overlay-four t at v fits =
    let high : List ℕ = octets 2 (v / 65536) in
    let low : List ℕ = octets 2 (v % 65536) in
    let size : length (high ++ low) ≡ 4 = length-append high low ∙ ap₂ ◌+◌ (length-octets 2 (v / 65536)) (length-octets 2 (v % 65536)) in
    let room : at + length (high ++ low) ≤ length t = omega arith in
    ap (λ (k : ℕ). overlay (overlay t at high) (at + k) low) (sym (length-octets 2 (v / 65536)))
    ∙ overlay-append t at high low room
    ∙ ap (overlay t at) (ap (λ (r : List ℕ). high ++ r) (octets-mod 2 (v % 65536) v (mod-mod v 65536)) ∙ sym (octets-append 2 2 v))
