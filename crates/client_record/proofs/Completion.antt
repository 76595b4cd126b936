-- The completion test by a sum: fragments of which none contradicts another lie without overlap inside 0 to the end of the last one, so the law of
-- ranges decides whether they cover it.
-- Assumes nothing.
use Prim.Native.Nat.{ℕ, zero, suc, ◌+◌, ◌<◌}
use mathlib.Core.Path.{◌≡◌, refl, sym, ap, ap₂, ◌∙◌}
use mathlib.Core.Bool.{Bool, true, false, not, ◌&&◌, ◌||◌, cond}
use mathlib.Core.List.{List, [], ◌∷◌}
use native.Mathlib.Nat.{not-suc-le-zero, le_of_suc-le-suc}
use native.Mathlib.Omega.{arith}
use lib.Dec.{eqb, leb, ltb}
use lib.ListN.{length, get_or}
use borrow.Author.Tests.{ltb-true, ltb-false, le-leb, eq-eqb, ne_eqb, not-true}
use Rattle.number_tests.proofs.Tests.{true-false, both_true, cond_yes, cond_no}
use Rattle.client_record.specs.declared.Fragment.{Fragment}
use Rattle.client_record.specs.Lists.{all, any, pairs, sum}
use Rattle.client_record.specs.Ranges.{holds, meets, Inside, Covered}
use Rattle.client_record.specs.Record.{fresh_fragment, is_last, end, covers, overlaps, both_last, outruns, conflicts, compatible, covered_to, last_of, whole}
use Rattle.client_record.specs.Completion.{BySum}
use Rattle.client_record.proofs.Ranges
use Rattle.client_record.proofs.Ranges.{Agree, sum-law}
use Rattle.client_record.proofs.SoundParts.{all-at, all_weaker, pairs-weaker}

abbrev starts : Fragment → ℕ
starts f = f.offset

abbrev sizes : Fragment → ℕ
sizes f = f.length

pub not_yes : (a : Bool) → (a ≡ true → ⊥) → a ≡ false
not_yes true h = absurd (h refl)
not_yes false h = refl

-- ---- covered from 0 on is each place covered

covered-each : (n : ℕ) (fs : List Fragment) → covered_to n fs ≡ true → Covered starts sizes n fs
unfolding covered_to covers end holds
covered-each zero fs c i h = absurd (not-suc-le-zero h)
covered-each (suc n) fs c i h = go (ltb i n) refl (λ l. covered-each n fs b.0 i l)
  where
    b : (covered_to n fs ≡ true) × (any (covers n) fs ≡ true)
    b = both_true (covered_to n fs) (any (covers n) fs) c

    go : (x : Bool) → ltb i n ≡ x → (i < n → any (covers i) fs ≡ true) → any (covers i) fs ≡ true
    go true e ih = ih (ltb-true i n e)
    go false e ih =
        let same : i ≡ n = omega (arith, ltb-false i n e) in
        ap (λ (j : ℕ). any (covers j) fs) same ∙ b.1

each-covered : (n : ℕ) (fs : List Fragment) → Covered starts sizes n fs → covered_to n fs ≡ true
unfolding covered_to covers end holds
each-covered zero fs c = refl
each-covered (suc n) fs c = ap₂ ◌&&◌ (each-covered n fs (λ i h. c i (omega arith))) (c n (omega arith))

-- ---- two fragments that do not contradict each other

pub agree : (f g : Fragment) → not (conflicts f g) ≡ true → Agree starts sizes is_last f g
unfolding conflicts overlaps both_last outruns meets end
agree f g h = Ranges.agree starts sizes is_last f g (not-true (conflicts f g) h)

-- ---- the last one of several

-- what all pass, it passes
pub last-passes : (p : Fragment → Bool) (fs : List Fragment) → all p fs ≡ true → any is_last fs ≡ true → p (last_of fs) ≡ true
unfolding all any last_of
last-passes p [] h e = absurd (true-false (sym e))
last-passes p (f ∷ fs) h e = go (is_last f) (last-passes p fs b.1) e
  where
    b : (p f ≡ true) × (all p fs ≡ true)
    b = both_true (p f) (all p fs) h

    go : (x : Bool) → (any is_last fs ≡ true → p (last_of fs) ≡ true) → x || any is_last fs ≡ true → p (cond x f (last_of fs)) ≡ true
    go true ih e = b.0
    go false ih e = ih e

-- it is marked exactly if some fragment is
pub last-marked : (fs : List Fragment) → is_last (last_of fs) ≡ any is_last fs
unfolding any last_of is_last fresh_fragment
last-marked [] = refl
last-marked (f ∷ fs) = go (is_last f) refl (last-marked fs)
  where
    go : (x : Bool) → is_last f ≡ x → is_last (last_of fs) ≡ any is_last fs → is_last (cond x f (last_of fs)) ≡ x || any is_last fs
    go true e ih = e
    go false e ih = ih

-- no other is marked
pub only-last : (fs : List Fragment) (i : ℕ) (d : Fragment) → compatible fs ≡ true → i < length fs → is_last (get_or fs i d) ≡ true → last_of fs ≡ get_or fs i d
unfolding compatible pairs last_of
only-last [] i d h l e = absurd (not-suc-le-zero l)
only-last (f ∷ fs) zero d h l e = cond_yes (is_last f) f (last_of fs) e
only-last (f ∷ fs) (suc i) d h l e =
    let b = both_true (all (λ g. not (conflicts f g)) fs) (pairs (λ x y. not (conflicts x y)) fs) h in
    let other = agree f (get_or fs i d) (all-at (λ g. not (conflicts f g)) fs i d (le_of_suc-le-suc l) b.0) in
    cond_no (is_last f) f (last_of fs) (not_yes (is_last f) (λ p. other.one_last p e)) ∙ only-last fs i d b.1 (le_of_suc-le-suc l) e

-- and none ends past it
pub last-ends : (fs : List Fragment) → compatible fs ≡ true → any is_last fs ≡ true → all (λ f. leb (f.offset + f.length) (end (last_of fs))) fs ≡ true
unfolding compatible pairs all any last_of end
last-ends [] h e = refl
last-ends (f ∷ fs) h e = go (is_last f) refl (last-ends fs b.1) e
  where
    b : (all (λ g. not (conflicts f g)) fs ≡ true) × (pairs (λ x y. not (conflicts x y)) fs ≡ true)
    b = both_true (all (λ g. not (conflicts f g)) fs) (pairs (λ x y. not (conflicts x y)) fs) h

    go : (x : Bool) → is_last f ≡ x → (any is_last fs ≡ true → all (λ g. leb (end g) (end (last_of fs))) fs ≡ true) → x || any is_last fs ≡ true
        → leb (end f) (end (cond x f (last_of fs))) && all (λ g. leb (end g) (end (cond x f (last_of fs)))) fs ≡ true
    go true p ih e =
        ap₂ ◌&&◌ (le-leb (end f) (end f) (omega arith))
        (all_weaker (λ g. not (conflicts f g)) (λ g. leb (end g) (end f)) (λ g q. le-leb (end g) (end f) ((agree f g q).second-ends p)) fs b.0)
    go false p ih e =
        let known = agree f (last_of fs) (last-passes (λ g. not (conflicts f g)) fs b.0 e) in
        ap₂ ◌&&◌ (le-leb (end f) (end (last_of fs)) (known.first_ends (last-marked fs ∙ e))) (ih e)

-- ---- the sum decides

module _ (fs : List Fragment) (h : compatible fs ≡ true) where
  inside : any is_last fs ≡ true → Inside starts sizes (end (last_of fs)) fs
  unfolding compatible
  inside e = record {
    within = last-ends fs h e;
    apart = pairs-weaker (λ f g. not (conflicts f g)) (λ f g. not (meets starts sizes f g)) (λ f g q. ap not (agree f g q).apart) fs h;
  }

  pub by-sum : BySum fs
  unfolding whole
  by-sum = record {
    known_end = λ e. ap (λ (x : Bool). x && covered_to (end (last_of fs)) fs) (last-marked fs ∙ e)
        ∙ decides e (covered_to (end (last_of fs)) fs) refl;
    no_last = λ e. ap (λ (x : Bool). x && covered_to (end (last_of fs)) fs) (last-marked fs ∙ e);
  }
    where
      decides : any is_last fs ≡ true → (x : Bool) → covered_to (end (last_of fs)) fs ≡ x → x ≡ eqb (sum sizes fs) (end (last_of fs))
      decides e true c = sym (eq-eqb _ _ ((sum-law starts sizes _ fs (inside e)).sums (covered-each _ fs c)))
      decides e false c = sym (ne_eqb _ _ (λ s. true-false (sym (each-covered _ fs ((sum-law starts sizes _ fs (inside e)).covers s)) ∙ c)))
