-- Putting one text and then another is putting both: what fits of both is what fits of the first, and then what still fits of the second.
-- Assumes nothing.
use mathlib.Core.Path.{◌≡◌, refl, sym, ap, ap₂, ◌∙◌, subst}
use mathlib.Core.List.{List, [], ◌∷◌, ◌++◌}
use Prim.Native.Nat.{ℕ, zero, suc, ◌+◌, ◌-◌, ◌≤◌}
use native.Mathlib.Nat.{add-zero}
use native.Mathlib.Omega.{arith}
use lib.ListN.{length, take, drop, length-append, length-take, take-append-drop}
use lib.Seq.{take_all, take-nil, length-take-le}
use Rattle.number_octets.specs.Octets.{overlay}
use Rattle.number_octets.proofs.Laws.{length-overlay, overlay-append}
use Rattle.program_text.specs.Put.{fitting, Put}

-- what of two texts is within k characters
take-both : (k : ℕ) (a b : List ℕ) → take k a ++ take (k - length (take k a)) b ≡ take k (a ++ b)
take-both zero a b = refl
take-both (suc k) [] b = let n : suc k - 0 ≡ suc k = omega arith in ap (λ (m : ℕ). take m b) n
take-both (suc k) (x ∷ a) b =
    let n : suc k - suc (length (take k a)) ≡ k - length (take k a) = omega arith in
    ap (λ (m : ℕ). x ∷ (take k a ++ take m b)) n ∙ ap (λ (l : List ℕ). x ∷ l) (take-both k a b)

-- what fits stays within the buffer
pub fits-within : (t : List ℕ) (at : ℕ) (s : List ℕ) → at ≤ length t → at + length (fitting t at s) ≤ length t
fits-within t at s h = simp length-take (omega arith)

-- a text that fits whole, and one that is cut
pub put_whole : (t : List ℕ) (at : ℕ) (s : List ℕ) {r : ℕ} {left : List ℕ} → length s ≤ length t - at → r ≡ at + length s → left ≡ overlay t at s
    → Put t at s r left
put_whole t at s h e f =
    let all : take (length t - at) s ≡ s = take_all (length t - at) s h in
    record { ends = e ∙ ap (λ (l : List ℕ). at + length l) (sym all); leaves = f ∙ ap (overlay t at) (sym all) }

pub put-cut : (t : List ℕ) (at : ℕ) (s : List ℕ) {r : ℕ} {left : List ℕ} → length t - at ≤ length s → r ≡ at + (length t - at)
    → left ≡ overlay t at (fitting t at s) → Put t at s r left
put-cut t at s h e f = record { ends = e ∙ ap (λ (n : ℕ). at + n) (sym (length-take-le (length t - at) s h)); leaves = f }

pub put_as : {t s s' : List ℕ} {at r : ℕ} {left : List ℕ} → s ≡ s' → Put t at s r left → Put t at s' r left
put_as {t} {s} {s'} {at} {r} {left} e p = subst (λ (x : List ℕ). Put t at x r left) e p

-- nothing put
pub put-none : (t : List ℕ) (at : ℕ) → Put t at [] at t
put-none t at =
    let none : take (length t - at) [] ≡ [] = take-nil (length t - at) in
    record {
      ends = sym (ap (λ (l : List ℕ). at + length l) none ∙ add-zero at);
      leaves =
          sym (ap (overlay t at) none ∙ ap (λ (k : ℕ). take at t ++ drop k t) (add-zero at) ∙ take-append-drop at t);
    }

module _ {t s : List ℕ} {at m : ℕ} {t₁ : List ℕ} (h : at ≤ length t) (p : Put t at s m t₁) where
  -- the buffer keeps its length, and what is put ends within it
  pub put-length : length t₁ ≡ length t
  put-length = ap length p.leaves ∙ length-overlay t at (fitting t at s) (fits-within t at s h)

  pub put-end : m ≤ length t
  put-end = let e = p.ends in omega (arith, fits-within t at s h)

  pub put-room : m ≤ length t₁
  put-room = let e = put-end in omega (arith, put-length)

  pub put-append : {u : List ℕ} {r : ℕ} {t₂ : List ℕ} → Put t₁ m u r t₂ → Put t at (s ++ u) r t₂
  put-append {u} {r} {t₂} q =
      let k : ℕ = length t - at in
      let a : List ℕ = take k s in
      let left : length t₁ - m ≡ k - length a = ap₂ ◌-◌ put-length p.ends ∙ omega arith in
      let both : a ++ take (length t₁ - m) u ≡ take k (s ++ u) = ap (λ (n : ℕ). a ++ take n u) left ∙ take-both k s u in
      let size : length (a ++ take (length t₁ - m) u) ≡ length a + length (take (length t₁ - m) u) = length-append a (take (length t₁ - m) u) in
      let whole : at + length (a ++ take (length t₁ - m) u) ≤ length t =
      let n : at + length (a ++ take (length t₁ - m) u) ≡ at + length (take k (s ++ u)) = ap (λ (l : List ℕ). at + length l) both in
      omega (arith, fits-within t at (s ++ u) h) in
      record {
        ends = q.ends ∙ ap (λ (n : ℕ). n + length (take (length t₁ - m) u)) p.ends ∙ omega arith ∙ ap (λ (l : List ℕ). at + length l) both;
        leaves =
            q.leaves ∙ ap₂ (λ (l : List ℕ) (n : ℕ). overlay l n (take (length t₁ - m) u)) p.leaves p.ends
            ∙ overlay-append t at a (take (length t₁ - m) u) whole ∙ ap (overlay t at) both;
      }
