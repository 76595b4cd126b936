-- What a record that passes the record test is known to have: its parts, one by one, and sums that are bounded by sums.
-- Assumes nothing.
use mathlib.Core.Path.{◌≡◌, refl, ap, ap₂, ◌∙◌}
use mathlib.Core.Bool.{Bool, true, not, ◌&&◌}
use mathlib.Core.List.{List, [], ◌∷◌, map}
use Prim.Native.Nat.{ℕ, zero, suc, ◌<◌, ◌≤◌}
use native.Mathlib.Nat.{not-suc-le-zero, le_of_suc-le-suc}
use native.Mathlib.Omega.{arith}
use lib.ListN.{length, get_or, drop}
use borrow.Author.Tests.{eqb-true, leb-true}
use Rattle.number_tests.proofs.Tests.{both_true}
use Rattle.client_record.specs.declared.Client.{Client}
use Rattle.client_record.specs.Limits.{offered_limit}
use Rattle.client_record.specs.Lists.{all, pairs, sum}
use Rattle.client_record.specs.Record.{
  live,
  bytes_held,
  sound_assembly,
  keys_differ,
  held_right,
  figure_sum,
  sums_to,
  balanced,
  within_plan,
  sound_record,
}

pub record Sound (c : Client) : Type 0 where
  pub each : all (sound_assembly c.time) c.assemblies ≡ true
  pub keys : keys_differ c.assemblies ≡ true
  pub held : c.held ≡ sum bytes_held c.assemblies
  pub balance : figure_sum c ≡ c.offered
  pub limit : c.offered ≤ offered_limit
  pub planned : all (λ a. not (live a)) (drop c.plan c.assemblies) ≡ true

pub sound-parts : (c : Client) → sound_record c ≡ true → Sound c
unfolding sound_record held_right balanced sums_to within_plan
sound-parts c e =
    let one = both_true _ _ e in
    let two = both_true _ _ one.1 in
    let three = both_true _ _ two.1 in
    let four = both_true _ _ three.1 in
    let five = both_true _ _ four.0 in
    record {
      each = one.0;
      keys = two.0;
      held = eqb-true _ _ three.0;
      balance = eqb-true _ _ five.0;
      limit = leb-true _ _ five.1;
      planned = four.1;
    }

module _ {ℓ} {A : Type ℓ} where
  -- a sum of smaller parts is smaller
  pub sum-le : (f g : A → ℕ) → ((x : A) → f x ≤ g x) → (l : List A) → sum f l ≤ sum g l
  unfolding sum
  sum-le f g h [] = omega arith
  sum-le f g h (x ∷ l) = omega (arith, h x, sum-le f g h l)

  -- one part is at most the sum
  pub part-le : (f : A → ℕ) (l : List A) (i : ℕ) (d : A) → i < length l → f (get_or l i d) ≤ sum f l
  unfolding sum
  part-le f [] i d h = absurd (not-suc-le-zero h)
  part-le f (x ∷ l) zero d h = omega arith
  part-le f (x ∷ l) (suc i) d h = omega (arith, part-le f l i d (le_of_suc-le-suc h))

  -- a test that every element passes: at one of them, and where it implies another test
  pub all-at : (p : A → Bool) (l : List A) (i : ℕ) (d : A) → i < length l → all p l ≡ true → p (get_or l i d) ≡ true
  unfolding all
  all-at p [] i d h e = absurd (not-suc-le-zero h)
  all-at p (x ∷ l) zero d h e = (both_true (p x) (all p l) e).0
  all-at p (x ∷ l) (suc i) d h e = all-at p l i d (le_of_suc-le-suc h) (both_true (p x) (all p l) e).1

  pub all_weaker : (p q : A → Bool) → ((x : A) → p x ≡ true → q x ≡ true) → (l : List A) → all p l ≡ true → all q l ≡ true
  unfolding all
  all_weaker p q h [] e = refl
  all_weaker p q h (x ∷ l) e =
      let t = both_true (p x) (all p l) e in ap (λ (b : Bool). b && all q l) (h x t.0) ∙ all_weaker p q h l t.1

  pub pairs-weaker : (q r : A → A → Bool) → ((x y : A) → q x y ≡ true → r x y ≡ true) → (l : List A) → pairs q l ≡ true → pairs r l ≡ true
  unfolding pairs
  pairs-weaker q r h [] e = refl
  pairs-weaker q r h (x ∷ l) e =
      let t = both_true (all (q x) l) (pairs q l) e in ap₂ ◌&&◌ (all_weaker (q x) (r x) (h x) l t.0) (pairs-weaker q r h l t.1)

  pub all_map : {B : Type ℓ} (p : B → Bool) (f : A → B) (l : List A) → all p (map f l) ≡ all (λ x. p (f x)) l
  unfolding all
  all_map p f [] = refl
  all_map p f (x ∷ l) = ap (λ (b : Bool). p (f x) && b) (all_map p f l)
