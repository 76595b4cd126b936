-- `client_record_test::slot_word` meets its contract: a number of which no bit is set is 0 (`or-zero`), and so is one that is moved up and stays within the word.
use Prim.Native.Nat.{ℕ, zero, suc, ◌+◌, ◌*◌, ◌%◌, ◌^◌, ◌<◌, ◌≤◌}
use mathlib.Core.Bool.{Bool, true, false, ◌&&◌, and_assoc}
use mathlib.Core.Path.{◌≡◌, refl, ap, ap₂, ◌∙◌}
use native.Mathlib.Nat.{zero-mul, suc-mul}
use native.Mathlib.Omega.{arith}
use borrow.Author.Tests.{eqb-true, eqb-false, eq-eqb, ne_eqb}
use lib.Bits.{bit_or}
use lib.Dec.{eqb}
use lib.Pow.{shl_exact, pow_pos}
use Rattle.number_octets.proofs.ZeroBytes.{or-zero}
use Rattle.client_record.specs.Record.{is_fresh_fragment}
use Rattle.client_record_test.proofs.slot_word.Goals as goal

-- two numbers, each 0 where the other is
same-zero : (x y : ℕ) → (x ≡ 0 → y ≡ 0) → (y ≡ 0 → x ≡ 0) → eqb y 0 ≡ eqb x 0
same-zero x y f g = go (eqb x 0) refl
  where
    go : (t : Bool) → eqb x 0 ≡ t → eqb y 0 ≡ t
    go true e = eq-eqb y 0 (f (eqb-true x 0 e))
    go false e = ne_eqb y 0 (λ q. eqb-false x 0 e (g q))

-- a number of 16 bits that is moved up and stays within the word
moved_up : (x k : ℕ) → x < 2 ^ 16 → 16 + k ≤ 64 → eqb ((x * 2 ^ k) % 2 ^ 64) 0 ≡ eqb x 0
moved_up x k h l =
    ap (λ (n : ℕ). eqb n 0) (shl_exact 16 k 64 h l)
    ∙ same-zero x (x * 2 ^ k) (λ e. ap (λ (n : ℕ). n * 2 ^ k) e ∙ zero-mul (2 ^ k)) (some x)
  where
    some : (y : ℕ) → y * 2 ^ k ≡ 0 → y ≡ 0
    some zero e = refl
    some (suc y) e = absurd (omega (arith, suc-mul y (2 ^ k), pow_pos k))

four-zero : (a b c d : ℕ) → eqb (bit_or (bit_or (bit_or a b) c) d) 0 ≡ eqb a 0 && (eqb b 0 && (eqb c 0 && eqb d 0))
four-zero a b c d =
    or-zero (bit_or (bit_or a b) c) d
    ∙ ap (λ (x : Bool). x && eqb d 0) (or-zero (bit_or a b) c ∙ ap (λ (x : Bool). x && eqb c 0) (or-zero a b))
    ∙ and_assoc (eqb a 0 && eqb b 0) (eqb c 0) (eqb d 0) ∙ and_assoc (eqb a 0) (eqb b 0) (eqb c 0 && eqb d 0)

pub returns : goal.returns
unfolding is_fresh_fragment
returns c = let f = c.args.f in
    four-zero f.offset ((f.length * 2 ^ 16) % 2 ^ 64) ((f.option_start * 2 ^ 32) % 2 ^ 64) ((f.last * 2 ^ 48) % 2 ^ 64)
    ∙ ap (λ (x : Bool). eqb f.offset 0 && x)
    (ap₂ ◌&&◌ (moved_up f.length 16 (omega arith) (omega arith))
    (ap₂ ◌&&◌ (moved_up f.option_start 32 (omega arith) (omega arith))
    (moved_up f.last 48 (omega arith) (omega arith))))
