-- What sums over the fragments that are marked last say: whether there is one, and where there is no other, what it has.
-- Assumes nothing.
use Prim.Native.Nat.{ℕ, ◌+◌, ◌≤◌}
use mathlib.Core.Path.{◌≡◌, refl, sym, ap, ap₂, ◌∙◌}
use mathlib.Core.Bool.{Bool, true, false, not, ◌&&◌, ◌||◌, cond, and-false}
use mathlib.Core.List.{List, [], ◌∷◌}
use native.Mathlib.Nat.{zero-add}
use native.Mathlib.Omega.{arith}
use lib.Dec.{eqb, ltb}
use borrow.Author.Tests.{ltb-false, eqb-true, lt-ltb, eq-eqb, not-true}
use Rattle.number_tests.proofs.Tests.{true-false, both_true}
use Rattle.client_record.specs.declared.Fragment.{Fragment}
use Rattle.client_record.specs.Lists.{all, any, pairs, sum}
use Rattle.client_record.specs.Record.{is_last, both_last, conflicts, compatible, last_of}
use Rattle.client_record.proofs.Completion.{not_yes, agree, last-passes, last-marked}
use Rattle.client_record.proofs.Lists.{all-not, all_pass, never_both}
use Rattle.client_record.proofs.SoundParts.{all_weaker}
use Rattle.client_held_test.specs.Held.{last_sum, lasts_of}

pub marks-any : (fs : List Fragment) → any is_last fs ≡ ltb 0 (lasts_of fs)
unfolding any sum last_sum
marks-any [] = refl
marks-any (f ∷ fs) = go (is_last f) (marks-any fs)
  where
    go : (b : Bool) → any is_last fs ≡ ltb 0 (sum (λ g. cond (is_last g) 1 0) fs)
        → b || any is_last fs ≡ ltb 0 (cond b 1 0 + sum (λ g. cond (is_last g) 1 0) fs)
    go true e = sym (lt-ltb 0 (1 + sum (λ g. cond (is_last g) 1 0) fs) (omega arith))
    go false e = e ∙ ap (ltb 0) (sym (zero-add (sum (λ g. cond (is_last g) 1 0) fs)))

pub no-marks : (fs : List Fragment) → lasts_of fs ≡ 0 → all (λ g. not (is_last g)) fs ≡ true
no-marks fs e = all-not is_last fs ∙ ap not (marks-any fs ∙ ap (ltb 0) e)

-- none is marked: nothing is summed
none-summed : (g : Fragment → ℕ) (fs : List Fragment) → lasts_of fs ≡ 0 → last_sum g fs ≡ 0
unfolding last_sum sum
none-summed g [] e = refl
none-summed g (f ∷ fs) e = go (is_last f) e (none-summed g fs)
  where
    go : (b : Bool) → cond b 1 0 + sum (λ h. cond (is_last h) 1 0) fs ≡ 0
        → (sum (λ h. cond (is_last h) 1 0) fs ≡ 0 → sum (λ h. cond (is_last h) (g h) 0) fs ≡ 0)
        → cond b (g f) 0 + sum (λ h. cond (is_last h) (g h) 0) fs ≡ 0
    go true e ih = absurd (omega arith)
    go false e ih = omega (arith, ih (omega arith))

-- at most one is marked: not two of them
pub one-mark : (fs : List Fragment) → lasts_of fs ≤ 1 → pairs (λ f g. not (both_last f g)) fs ≡ true
unfolding last_sum sum pairs both_last
one-mark [] e = refl
one-mark (f ∷ fs) e = go (is_last f) refl e (one-mark fs)
  where
    go : (b : Bool) → is_last f ≡ b → cond b 1 0 + sum (λ g. cond (is_last g) 1 0) fs ≤ 1
        → (sum (λ g. cond (is_last g) 1 0) fs ≤ 1 → pairs (λ x y. not (is_last x && is_last y)) fs ≡ true)
        → all (λ g. not (is_last f && is_last g)) fs && pairs (λ x y. not (is_last x && is_last y)) fs ≡ true
    go true k e ih =
        ap₂ ◌&&◌
        (all_weaker (λ g. not (is_last g)) (λ g. not (is_last f && is_last g))
        (λ g q. ap (λ (x : Bool). not (is_last f && x)) (not-true (is_last g) q) ∙ ap not (and-false (is_last f))) fs (no-marks fs (omega arith)))
        (ih (omega arith))
    go false k e ih = ap₂ ◌&&◌ (all_pass (λ g. not (is_last f && is_last g)) (λ g. ap (λ (x : Bool). not (x && is_last g)) k) fs) (ih (omega arith))

-- and what is summed is its own
pub mark-is : (g : Fragment → ℕ) (fs : List Fragment) → lasts_of fs ≤ 1 → all (λ f. not (is_last f) || eqb (g f) (last_sum g fs)) fs ≡ true
unfolding last_sum sum all
mark-is g [] e = refl
mark-is g (f ∷ fs) e = go (is_last f) e (mark-is g fs)
  where
    rest : ℕ
    rest = sum (λ h. cond (is_last h) (g h) 0) fs

    go : (b : Bool) → cond b 1 0 + sum (λ h. cond (is_last h) 1 0) fs ≤ 1
        → (sum (λ h. cond (is_last h) 1 0) fs ≤ 1 → all (λ h. not (is_last h) || eqb (g h) rest) fs ≡ true)
        → (not b || eqb (g f) (cond b (g f) 0 + rest)) && all (λ h. not (is_last h) || eqb (g h) (cond b (g f) 0 + rest)) fs ≡ true
    go true e ih =
        let none : lasts_of fs ≡ 0 = omega arith in
        ap₂ ◌&&◌ (eq-eqb (g f) (g f + rest) (omega (arith, none-summed g fs none)))
        (all_weaker (λ h. not (is_last h)) (λ h. not (is_last h) || eqb (g h) (g f + rest))
        (λ h q. ap (λ (x : Bool). x || eqb (g h) (g f + rest)) q) fs (no-marks fs none))
    go false e ih = ap (λ (m : ℕ). all (λ h. not (is_last h) || eqb (g h) m) fs) (zero-add rest) ∙ ih (omega arith)

-- fragments of which none contradicts another have at most one mark
pub marks-most : (fs : List Fragment) → compatible fs ≡ true → lasts_of fs ≤ 1
unfolding compatible pairs last_sum sum
marks-most [] c = omega arith
marks-most (f ∷ fs) c =
    let b = both_true (all (λ g. not (conflicts f g)) fs) (pairs (λ x y. not (conflicts x y)) fs) c in
    go (is_last f) refl b.0 (marks-most fs b.1)
  where
    go : (b : Bool) → is_last f ≡ b → all (λ g. not (conflicts f g)) fs ≡ true → sum (λ g. cond (is_last g) 1 0) fs ≤ 1
        → cond b 1 0 + sum (λ g. cond (is_last g) 1 0) fs ≤ 1
    go true k row e =
        let none : any is_last fs ≡ false =
        not_yes (any is_last fs) (λ m. never_both is_last (λ g. not (conflicts f g)) (λ g p q. (agree f g q).one_last k p) fs m row) in
        omega (arith, ltb-false 0 (lasts_of fs) (sym (marks-any fs) ∙ none))
    go false k row e = omega arith

-- the one that is marked last has what is summed
pub the_last : (g : Fragment → ℕ) (fs : List Fragment) → lasts_of fs ≤ 1 → any is_last fs ≡ true → g (last_of fs) ≡ last_sum g fs
the_last g fs few some =
    eqb-true (g (last_of fs)) (last_sum g fs)
    (so (is_last (last_of fs)) (last-marked fs ∙ some) (last-passes (λ f. not (is_last f) || eqb (g f) (last_sum g fs)) fs (mark-is g fs few) some))
  where
    so : {y : Bool} (x : Bool) → x ≡ true → not x || y ≡ true → y ≡ true
    so true e m = m
    so false e m = absurd (true-false (sym e))
