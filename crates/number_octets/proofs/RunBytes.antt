-- Laws of bytes of one value in a row: one byte more, or four as one number.
-- Assumes nothing.
use mathlib.Core.Path.{◌≡◌, sym, ap, ◌∙◌}
use mathlib.Core.Bool.{cond}
use mathlib.Core.List.{List, reverse}
use Prim.Native.Nat.{ℕ, ◌+◌, ◌*◌, ◌≤◌, ◌<◌}
use native.Mathlib.Numerals.{add-one}
use native.Mathlib.Omega.{arith}
use borrow.Author.Tests.{eq-eqb, ne_eqb}
use lib.Dec.{eqb}
use lib.ListN.{length, drop, get_or, drop_of_length-le}
use lib.Seq.{drop-cons}
use Rattle.number_octets.specs.Octets.{number, part}
use Rattle.number_octets.specs.Runs.{run_of}
use Rattle.number_octets.proofs.Laws.{little-four}

module _ (byte : ℕ) (l : List ℕ) where
  run-front : (i : ℕ) → i < length l → run_of byte (drop i l) ≡ cond (eqb (get_or l i 0) byte) (1 + run_of byte (drop (i + 1) l)) 0
  unfolding run_of
  run-front i h =
      ap (run_of byte) (drop-cons l i 0 h)
      ∙ ap (λ (k : ℕ). cond (eqb (get_or l i 0) byte) (1 + run_of byte (drop k l)) 0) (sym (add-one i))

  pub run-one : (i : ℕ) → i < length l → get_or l i 0 ≡ byte → run_of byte (drop i l) ≡ 1 + run_of byte (drop (i + 1) l)
  run-one i h e = run-front i h ∙ simp (eq-eqb (get_or l i 0) byte e)

  pub run-other : (i : ℕ) → i < length l → (get_or l i 0 ≡ byte → ⊥) → run_of byte (drop i l) ≡ 0
  run-other i h d = run-front i h ∙ simp (ne_eqb (get_or l i 0) byte d)

  pub run-none : (i : ℕ) → length l ≤ i → run_of byte (drop i l) ≡ 0
  unfolding run_of
  run-none i h = ap (run_of byte) (drop_of_length-le l h)

-- the lowest digits of two equal numbers, and what is above them
digit : (a b x y : ℕ) → a < 256 → b < 256 → a + x * 256 ≡ b + y * 256 → (a ≡ b) × (x ≡ y)
digit a b x y h k e = let rest : x ≡ y = omega arith in (omega arith, rest)

-- four bytes that are four of the value as one number: digit by digit
pub run-four : (byte : ℕ) (l : List ℕ) (i : ℕ) → byte < 256 → i + 4 ≤ length l → ((k : ℕ) → get_or l k 0 < 256)
    → number (reverse (part i 4 l)) ≡ byte * 16843009 → run_of byte (drop i l) ≡ 4 + run_of byte (drop (i + 4) l)
run-four byte l i top h small e =
    let a : ℕ = get_or l i 0 in
    let b : ℕ = get_or l (i + 1) 0 in
    let c : ℕ = get_or l (i + 2) 0 in
    let d : ℕ = get_or l (i + 3) 0 in
    let word : a + b * 256 + c * 65536 + d * 16777216 ≡ byte * 16843009 = sym (little-four i l h) ∙ e in
    let one = digit a byte (b + (c + d * 256) * 256) (byte + (byte + byte * 256) * 256) (small i) top (omega arith) in
    let two = digit b byte (c + d * 256) (byte + byte * 256) (small (i + 1)) top one.1 in
    let three = digit c byte d byte (small (i + 2)) top two.1 in
    let at1 : i + 1 + 1 ≡ i + 2 = omega arith in
    let at2 : i + 2 + 1 ≡ i + 3 = omega arith in
    let at3 : i + 3 + 1 ≡ i + 4 = omega arith in
    let n0 : run_of byte (drop i l) ≡ 1 + run_of byte (drop (i + 1) l) = run-one byte l i (omega arith) one.0 in
    let n1 : run_of byte (drop (i + 1) l) ≡ 1 + run_of byte (drop (i + 2) l) =
    run-one byte l (i + 1) (omega arith) two.0 ∙ ap (λ (k : ℕ). 1 + run_of byte (drop k l)) at1 in
    let n2 : run_of byte (drop (i + 2) l) ≡ 1 + run_of byte (drop (i + 3) l) =
    run-one byte l (i + 2) (omega arith) three.0 ∙ ap (λ (k : ℕ). 1 + run_of byte (drop k l)) at2 in
    let n3 : run_of byte (drop (i + 3) l) ≡ 1 + run_of byte (drop (i + 4) l) =
    run-one byte l (i + 3) (omega arith) three.1 ∙ ap (λ (k : ℕ). 1 + run_of byte (drop k l)) at3 in
    omega arith
