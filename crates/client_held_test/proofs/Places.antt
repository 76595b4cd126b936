-- Why marked places decide whether fragments overlap: two non-empty ones overlap exactly if they have a place in common, the start of the one that
-- starts last.
-- Assumes nothing.
use Prim.Native.Nat.{ℕ, ◌+◌, ◌<◌, ◌≤◌}
use mathlib.Core.Path.{◌≡◌, refl, sym, ap, ap₂, ◌∙◌}
use mathlib.Core.Bool.{Bool, true, false, not, ◌&&◌, ◌||◌}
use mathlib.Core.List.{List, [], ◌∷◌}
use native.Mathlib.Omega.{arith}
use lib.Dec.{eqb, leb, ltb}
use lib.ListN.{length, take, drop, get_or, take-append-drop}
use borrow.Author.Tests.{leb-true, leb-false, ltb-true, eqb-false, le-leb, lt-ltb, not-true}
use Rattle.number_tests.proofs.Tests.{true-false, both_true, both_false}
use Rattle.number_sets.specs.Sets.{has, among, Taken}
use Rattle.client_record.specs.declared.Fragment.{Fragment}
use Rattle.client_record.specs.Lists.{all, any, pairs}
use Rattle.client_record.specs.Ranges.{holds, meets}
use Rattle.client_record.specs.Record.{end, non_empty, covers, overlaps}
use Rattle.client_record.proofs.Completion.{not_yes}
use Rattle.client_record.proofs.Lists.{any_next, pairs_next, never_both, pairs-front}
use Rattle.client_record.proofs.Ranges.{held-meets}
use Rattle.client_held_test.proofs.OnePass.{apart_all}

-- the set has the places that the fragments take
abbrev pub Marks : List ℕ → List Fragment → Type 0
Marks ws fs = (j : ℕ) → has ws j ≡ any (covers j) fs

-- ---- two fragments

-- a place in both makes them overlap
common-overlaps : (j : ℕ) (f g : Fragment) → covers j f ≡ true → covers j g ≡ true → overlaps f g ≡ true
unfolding covers overlaps holds meets end
common-overlaps j f g p q = held-meets (λ x. x.offset) (λ x. x.length) j f g p q

pub full-some : (f : Fragment) → non_empty f ≡ true → f.offset < end f
unfolding non_empty end
full-some f e = let n = eqb-false f.length 0 (not-true (eqb f.length 0) e) in go f.length n
  where
    go : (m : ℕ) → (m ≡ 0 → ⊥) → f.offset < f.offset + m
    go m n = omega arith

-- an overlap of two that are not empty is a place in both
module _ (f g : Fragment) (full-f : non_empty f ≡ true) (full-g : non_empty g ≡ true) (e : overlaps g f ≡ true) where
  pub record Common : Type 0 where
    pub at : ℕ
    pub from : f.offset ≤ at
    pub before : at < end f
    pub there : covers at g ≡ true

  overlap-common : Common
  unfolding overlaps covers
  overlap-common =
      let b = both_true (ltb g.offset (end f)) (ltb f.offset (end g)) e in
      go (ltb-true g.offset (end f) b.0) (ltb-true f.offset (end g) b.1) (leb f.offset g.offset) refl
    where
      go : g.offset < end f → f.offset < end g → (t : Bool) → leb f.offset g.offset ≡ t → Common
      go p q true k = record {
        at = g.offset;
        from = leb-true f.offset g.offset k;
        before = p;
        there = ap₂ ◌&&◌ (le-leb g.offset g.offset (omega arith)) (lt-ltb g.offset (end g) (full-some g full-g));
      }
      go p q false k = record {
        at = f.offset;
        from = omega arith;
        before = full-some f full-f;
        there = ap₂ ◌&&◌ (le-leb g.offset f.offset (omega (arith, leb-false f.offset g.offset k))) (lt-ltb f.offset (end g) q);
      }

-- ---- one more fragment

module _ (f : Fragment) (full : non_empty f ≡ true) where
  -- none of its places was taken: it overlaps none
  clear_apart : (gs : List Fragment) → all non_empty gs ≡ true → ((j : ℕ) → f.offset ≤ j → j < end f → any (covers j) gs ≡ false)
      → all (λ g. not (overlaps g f)) gs ≡ true
  unfolding all any
  clear_apart [] s c = refl
  clear_apart (g ∷ gs) s c =
      let b = both_true (non_empty g) (all non_empty gs) s in
      ap₂ ◌&&◌
      (ap not (not_yes (overlaps g f)
      (λ e. let w = overlap-common f g full b.0 e in
      true-false (sym w.there ∙ (both_false (covers w.at g) (any (covers w.at) gs) (c w.at w.from w.before)).0))))
      (clear_apart gs b.1 (λ j p q. (both_false (covers j g) (any (covers j) gs) (c j p q)).1))

module _ (l : List Fragment) (i : ℕ) (d : Fragment) (h : i < length l) (ws : List ℕ) (marks : Marks ws (take i l)) where
  -- the set with its places
  pub marks-more : (ws' : List ℕ) → ((j : ℕ) → has ws' j ≡ has ws j || among (get_or l i d).offset (end (get_or l i d)) j) → Marks ws' (take (i + 1) l)
  unfolding among covers
  marks-more ws' e j = e j ∙ ap (λ (x : Bool). x || among (get_or l i d).offset (end (get_or l i d)) j) (marks j) ∙ sym (any_next l i d h (covers j))

  pub apart_more : non_empty (get_or l i d) ≡ true → all non_empty (take i l) ≡ true → apart_all (take i l) ≡ true
      → ((j : ℕ) → (get_or l i d).offset ≤ j → j < end (get_or l i d) → has ws j ≡ false) → apart_all (take (i + 1) l) ≡ true
  apart_more full each apart clear =
      pairs_next l i d h (λ f g. not (overlaps f g))
      ∙ ap₂ ◌&&◌ apart (clear_apart (get_or l i d) full (take i l) each (λ j p q. sym (marks j) ∙ clear j p q))

  -- one of its places was taken: it overlaps some fragment
  pub taken-overlaps : Taken ws (get_or l i d).offset (end (get_or l i d)) → apart_all l ≡ false
  unfolding covers
  taken-overlaps t =
      not_yes (apart_all l)
      (λ c.
      let q : Fragment → Fragment → Bool = λ f g. not (overlaps f g) in
      let front : pairs q (take (i + 1) l) ≡ true = pairs-front q (take (i + 1) l) (drop (i + 1) l) (ap (pairs q) (take-append-drop (i + 1) l) ∙ c) in
      let row = (both_true (pairs q (take i l)) (all (λ g. not (overlaps g (get_or l i d))) (take i l)) (sym (pairs_next l i d h q) ∙ front)).1 in
      let here : covers t.at (get_or l i d) ≡ true = ap₂ ◌&&◌ (le-leb (get_or l i d).offset t.at t.from) (lt-ltb t.at (end (get_or l i d)) t.before) in
      never_both (covers t.at) (λ g. not (overlaps g (get_or l i d)))
      (λ g p r. true-false (sym (common-overlaps t.at g (get_or l i d) p here) ∙ not-true (overlaps g (get_or l i d)) r)) (take i l)
      (sym (marks t.at) ∙ t.there) row)
