-- Laws of sets: what a word takes in is a range of its numbers (`word-included`), ranges that meet join (`then`), and words of zeros are the empty set.
-- Assumes nothing.
use mathlib.Core.Path.{◌≡◌, refl, sym, ap, ap₂, ◌∙◌}
use mathlib.Core.Bool.{Bool, true, false, ◌&&◌, ◌||◌, and-true, or-false, or_assoc}
use mathlib.Core.List.{List}
use Prim.Native.Nat.{ℕ, zero, suc, ◌+◌, ◌-◌, ◌*◌, ◌/◌, ◌%◌, ◌^◌, ◌≤◌, ◌<◌}
use native.Mathlib.Omega.{arith}
use borrow.Author.Tests.{eqb-true, eqb-false, leb-true, leb-false, ltb-true, ltb-false, lt-ltb, le-leb, lt-leb}
use lib.Bits.{bit_and, bit_or, and_le_r}
use lib.Dec.{eqb, leb, ltb, leb-zero}
use lib.ListN.{length, get_or, set, replicate, length-set}
use lib.Seq.{get_or-set_same, get_or-set_other}
use Rattle.number_tests.proofs.Tests.{true-false, both_true, both_false}
use Rattle.number_sets.specs.Sets.{bit, has, among, Taken, Included}
use Rattle.number_sets.specs.Words.{Mask, Put}
use Rattle.number_sets.proofs.Bits.{and-bit, or-bit, zero_bit, some-bit, ones_bit, high_bit, and-full, or-full}

-- ---- tests

-- two tests that say the same
leb-same : (a b c d : ℕ) → (c ≤ d → a ≤ b) → (d < c → b < a) → leb a b ≡ leb c d
leb-same a b c d le lt = go (leb c d) refl
  where
    go : (t : Bool) → leb c d ≡ t → leb a b ≡ t
    go true e = le-leb a b (le (leb-true c d e))
    go false e = lt-leb a b (lt (leb-false c d e))

-- ---- ranges

pub outside : (a b i : ℕ) → (a ≤ i → i < b → ⊥) → among a b i ≡ false
unfolding among
outside a b i d = go (leb a i) (ltb i b) refl refl
  where
    go : (s t : Bool) → leb a i ≡ s → ltb i b ≡ t → s && t ≡ false
    go true true p q = absurd (d (leb-true a i p) (ltb-true i b q))
    go true false p q = refl
    go false t p q = refl

pub inside : (a b i : ℕ) → a ≤ i → i < b → among a b i ≡ true
unfolding among
inside a b i h k = ap₂ ◌&&◌ (le-leb a i h) (lt-ltb i b k)

pub within : (a b i : ℕ) → among a b i ≡ true → (a ≤ i) × (i < b)
unfolding among
within a b i e = let t = both_true (leb a i) (ltb i b) e in (leb-true a i t.0, ltb-true i b t.1)

-- a number that is not in the range
apart : (ws : List ℕ) (a b i : ℕ) → (a ≤ i → i < b → ⊥) → has ws i || among a b i ≡ has ws i
apart ws a b i d = ap (λ (t : Bool). has ws i || t) (outside a b i d) ∙ or-false (has ws i)

-- a range and the one behind it
meet : (a b c i : ℕ) → a ≤ b → b ≤ c → among a b i || among b c i ≡ among a c i
meet a b c i h k = go (ltb i b) (among a c i) refl refl
  where
    go : (s t : Bool) → ltb i b ≡ s → among a c i ≡ t → among a b i || among b c i ≡ t
    go true true p q = ap (λ (t : Bool). t || among b c i) (inside a b i (within a c i q).0 (ltb-true i b p))
    go false true p q =
        let behind = ltb-false i b p in
        ap₂ ◌||◌ (outside a b i (λ l u. omega arith)) (inside b c i behind (within a c i q).1)
    go s false p q =
        let never : a ≤ i → i < c → ⊥ = λ l u. true-false (sym (inside a c i l u) ∙ q) in
        ap₂ ◌||◌ (outside a b i (λ l u. never l (omega arith))) (outside b c i (λ l u. never (omega arith) u))

-- ---- masks

-- within a word the range's end at 64 says nothing, nor does its start at 0
to-top : (first j : ℕ) → j < 64 → among first 64 j ≡ leb first j
unfolding among
to-top first j h = ap (λ (t : Bool). leb first j && t) (lt-ltb j 64 h) ∙ and-true (leb first j)

from_zero : (end j : ℕ) → among 0 end j ≡ ltb j end
unfolding among
from_zero end j = ap (λ (t : Bool). t && ltb j end) (leb-zero j)

pub from-mask : (first : ℕ) → Mask (2 ^ 64 - 2 ^ first) first 64
from-mask first = record { bits = λ j h. high_bit 64 first j h ∙ sym (to-top first j h) }

pub to-mask : (end : ℕ) → Mask (2 ^ end - 1) 0 end
to-mask end = record { bits = λ j h. ones_bit end j ∙ sym (from_zero end j) }

pub both-masks : {a b first end : ℕ} → Mask a first 64 → Mask b 0 end → Mask (bit_and a b) first end
unfolding among
both-masks {a} {b} {first} {end} m n =
    record { bits = λ j h. and-bit a b j ∙ ap₂ ◌&&◌ (m.bits j h ∙ to-top first j h) (n.bits j h ∙ from_zero end j) }

-- ---- a word

set_there : (ws : List ℕ) (w v i : ℕ) → w < length ws → i / 64 ≡ w → has (set ws w v) i ≡ bit v (i % 64)
unfolding has
set_there ws w v i h e = ap (λ (n : ℕ). bit (get_or (set ws w v) n 0) (i % 64)) e ∙ ap (λ (x : ℕ). bit x (i % 64)) (get_or-set_same ws w v 0 h)

set-elsewhere : (ws : List ℕ) (w v i : ℕ) → (i / 64 ≡ w → ⊥) → has (set ws w v) i ≡ has ws i
unfolding has
set-elsewhere ws w v i d = ap (λ (x : ℕ). bit x (i % 64)) (get_or-set_other ws w (i / 64) v 0 d)

module _ {ws ws' : List ℕ} {w mask first end a b : ℕ} {free : Bool} (m : Mask mask first end) (p : Put ws w mask free ws')
    (room : w < length ws) (fits : mask < 2 ^ 64) (top : end ≤ 64) (from : a ≡ 64 * w + first) (to : b ≡ 64 * w + end) where
  word : ℕ
  word = get_or ws w 0

  joined : (i : ℕ) → has ws' i ≡ has ws i || among a b i
  unfolding has among word
  joined i = ap (λ (l : List ℕ). has l i) p.words ∙ go (eqb (i / 64) w) refl
    where
      go : (t : Bool) → eqb (i / 64) w ≡ t → has (set ws w (bit_or word mask)) i ≡ has ws i || among a b i
      go true e =
          let here = eqb-true (i / 64) w e in
          let low = leb-same first (i % 64) a i (λ h. omega arith) (λ h. omega arith) in
          let high = leb-same (suc (i % 64)) end (suc i) b (λ h. omega arith) (λ h. omega arith) in
          set_there ws w (bit_or word mask) i room here ∙ or-bit word mask (i % 64)
          ∙ ap₂ ◌||◌ (sym (ap (λ (n : ℕ). bit (get_or ws n 0) (i % 64)) here)) (m.bits (i % 64) (omega arith) ∙ ap₂ ◌&&◌ low high)
      go false e =
          let elsewhere = eqb-false (i / 64) w e in
          set-elsewhere ws w (bit_or word mask) i elsewhere ∙ sym (apart ws a b i (λ h k. elsewhere (omega arith)))

  clear : free ≡ true → (i : ℕ) → a ≤ i → i < b → has ws i ≡ false
  unfolding has word
  clear e i h k =
      let none = eqb-true (bit_and word mask) 0 (sym p.none ∙ e) in
      let here : i / 64 ≡ w = omega arith in
      let j : ℕ = i % 64 in
      let there : bit mask j ≡ true = m.bits j (omega arith) ∙ inside first end j (omega arith) (omega arith) in
      ap (λ (n : ℕ). bit (get_or ws n 0) j) here ∙ sym (and-true (bit word j)) ∙ ap (λ (t : Bool). bit word j && t) (sym there)
      ∙ sym (and-bit word mask j) ∙ ap (λ (n : ℕ). bit n j) none ∙ zero_bit j

  taken : free ≡ false → Taken ws a b
  unfolding has word
  taken e =
      let l = some-bit 64 (bit_and word mask) (omega (arith, and_le_r word mask)) (eqb-false (bit_and word mask) 0 (sym p.none ∙ e)) in
      let j : ℕ = l.at in
      let both = both_true (bit word j) (bit mask j) (sym (and-bit word mask j) ∙ l.lit) in
      let in-mask = within first end j (sym (m.bits j l.below) ∙ both.1) in
      let at : (64 * w + j) / 64 ≡ w = omega arith in
      let rest : (64 * w + j) % 64 ≡ j = omega arith in
      record {
        at = 64 * w + j;
        from = omega arith;
        before = omega arith;
        there = ap₂ (λ (n b : ℕ). bit (get_or ws n 0) b) at rest ∙ both.0;
      }

  pub word-included : Included ws a b free ws'
  word-included = record { size = ap length p.words ∙ simp length-set; joined = joined; clear = clear; taken = taken }

-- a full word
pub full-included : (ws : List ℕ) (w : ℕ) → w < length ws → get_or ws w 0 < 2 ^ 64
    → Included ws (64 * w) (64 * (w + 1)) (eqb (get_or ws w 0) 0) (set ws w (2 ^ 64 - 1))
full-included ws w room fits =
    let word = get_or ws w 0 in
    let full : Put ws w (2 ^ 64 - 1) (eqb word 0) (set ws w (2 ^ 64 - 1)) =
    record { words = ap (set ws w) (sym (or-full 64 word fits)); none = ap (λ (n : ℕ). eqb n 0) (sym (and-full 64 word fits)) } in
    word-included (to-mask 64) full room (omega arith) (omega arith) (omega arith) (omega arith)

-- ---- ranges in a row

pub included-none : (ws : List ℕ) (a : ℕ) → Included ws a a true ws
included-none ws a =
    record {
      size = refl;
      joined = λ i. sym (apart ws a a i (λ h k. omega arith));
      clear = λ e i h k. absurd (omega arith);
      taken = λ e. absurd (true-false e);
    }

module _ {ws ws₁ ws₂ : List ℕ} {a b c : ℕ} {r s : Bool} (h : a ≤ b) (k : b ≤ c) (x : Included ws a b r ws₁) (y : Included ws₁ b c s ws₂) where
  joined-both : (i : ℕ) → has ws₂ i ≡ has ws i || among a c i
  joined-both i =
      y.joined i ∙ ap (λ (t : Bool). t || among b c i) (x.joined i) ∙ or_assoc (has ws i) (among a b i) (among b c i)
      ∙ ap (λ (t : Bool). has ws i || t) (meet a b c i h k)

  clear_both : r && s ≡ true → (i : ℕ) → a ≤ i → i < c → has ws i ≡ false
  clear_both e i l u = go (ltb i b) refl (both_true r s e)
    where
      go : (t : Bool) → ltb i b ≡ t → (r ≡ true) × (s ≡ true) → has ws i ≡ false
      go true q free = x.clear free.0 i l (ltb-true i b q)
      go false q free = (both_false (has ws i) (among a b i) (sym (x.joined i) ∙ y.clear free.1 i (ltb-false i b q) u)).0

  taken-one : r && s ≡ false → Taken ws a c
  taken-one e = go r refl
    where
      go : (t : Bool) → r ≡ t → Taken ws a c
      go false q = let t = x.taken q in record { at = t.at; from = t.from; before = omega arith; there = t.there }
      go true q =
          let t = y.taken (ap (λ (u : Bool). u && s) (sym q) ∙ e) in
          let before = x.joined t.at ∙ apart ws a b t.at (λ l u. omega arith) in
          record {
            at = t.at;
            from = omega arith;
            before = t.before;
            there = sym before ∙ t.there;
          }

  pub then : Included ws a c (r && s) ws₂
  then =
      record {
        size = y.size ∙ x.size;
        joined = joined-both;
        clear = clear_both;
        taken = taken-one;
      }

-- ---- words of zeros

pub blank : (n i : ℕ) → has (replicate n 0) i ≡ false
unfolding has
blank n i = ap (λ (x : ℕ). bit x (i % 64)) (zeros n (i / 64)) ∙ zero_bit (i % 64)
  where
    zeros : (n k : ℕ) → ◌≡◌ {A = ℕ} (get_or (replicate n 0) k 0) 0
    zeros zero k = refl
    zeros (suc n) zero = refl
    zeros (suc n) (suc k) = zeros n k
