-- Decimal digits written from the last place forward: what is left of the number fills the places in front of those that are written.
-- Assumes nothing.
use mathlib.Core.Path.{◌≡◌, sym, ap, ap₂, ◌∙◌}
use mathlib.Core.List.{List, [], ◌∷◌, ◌++◌, append_assoc, append-nil}
use Prim.Native.Nat.{ℕ, zero, suc, ◌+◌, ◌-◌, ◌*◌, ◌/◌, ◌%◌, ◌^◌, ◌≤◌, ◌<◌}
use native.Mathlib.Nat.{pow-suc}
use native.Mathlib.Omega.{arith}
use borrow.Author.Tests.{lt-ltb, le-ltb}
use lib.ListN.{length, drop, set, length-set, drop_of_length-le}
use lib.Seq.{drop-cons, get_or-set_same, drop-set-lt, lt-length-set}
use Rattle.program_text.specs.Digits.{digit, digits_in, longest, decimal_of}

-- the places up to `i` are for the digits of `rest`, and those behind it hold the other digits of `n`
pub record Writing (n i rest : ℕ) (digits : List ℕ) : Type 0 where
  pub within : i < longest
  pub small : rest < 10 ^ suc i
  pub as_long : length digits ≡ longest
  pub whole : digits_in (suc i) rest ++ drop (suc i) digits ≡ decimal_of n

drop-set : (l : List ℕ) (i a : ℕ) → i < length l → drop i (set l i a) ≡ a ∷ drop (suc i) l
drop-set l i a h =
    drop-cons (set l i a) i 0 (lt-length-set l i a h) ∙ ap₂ ◌∷◌ (get_or-set_same l i a 0 h) (drop-set-lt (suc i) l i a (omega arith))

pub writing-first : (n : ℕ) (l : List ℕ) → n < 2 ^ 64 → length l ≡ longest → Writing n 19 n l
unfolding decimal_of
writing-first n l h e =
    let all : length l ≤ 20 = omega arith in
    record {
      within = omega arith;
      small = omega arith;
      as_long = e;
      whole = ap (λ (t : List ℕ). digits_in 20 n ++ t) (drop_of_length-le l all) ∙ append-nil (digits_in 20 n);
    }

-- a digit more
pub writing_more : {n rest : ℕ} {l : List ℕ} (i : ℕ) → Writing n i rest l → 10 ≤ rest
    → (0 < i) × Writing n (i - 1) (rest / 10) (set l i (48 + rest % 10))
unfolding digits_in
writing_more zero w h = absurd (omega (arith, w.small))
writing_more {n} {rest} {l} (suc j) w h =
    let d : ℕ = digit (rest % 10) in
    let down : suc j - 1 ≡ j = omega arith in
    let tens : 10 ^ suc (suc j) ≡ 10 ^ suc j * 10 = pow-suc 10 (suc j) in
    let split : digits_in (suc (suc j)) rest ≡ digits_in (suc j) (rest / 10) ++ (d ∷ []) = simp (le-ltb rest 10 h) in
    let there : suc j < length l = omega (arith, w.within, w.as_long) in
    let next : Writing n j (rest / 10) (set l (suc j) d) = record {
      within = omega (arith, w.within);
      small = omega (arith, w.small);
      as_long = length-set l (suc j) d ∙ w.as_long;
      whole =
          ap (λ (t : List ℕ). digits_in (suc j) (rest / 10) ++ t) (drop-set l (suc j) d there)
          ∙ sym (append_assoc (digits_in (suc j) (rest / 10)) (d ∷ []) (drop (suc (suc j)) l))
          ∙ ap (λ (t : List ℕ). t ++ drop (suc (suc j)) l) (sym split) ∙ w.whole;
    } in
    (omega arith, rw down next)

-- the first digit
pub writing-last : {n rest : ℕ} {l : List ℕ} (i : ℕ) → Writing n i rest l → rest < 10 → drop i (set l i (48 + rest)) ≡ decimal_of n
unfolding digits_in
writing-last {n} {rest} {l} i w h =
    let one : digits_in (suc i) rest ≡ digit rest ∷ [] = simp (lt-ltb rest 10 h) in
    drop-set l i (digit rest) (omega (arith, w.within, w.as_long)) ∙ ap (λ (t : List ℕ). t ++ drop (suc i) l) (sym one) ∙ w.whole
