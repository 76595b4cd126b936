-- Why a pass over the held fragments decides. Fragments that each start at or behind the end of the one in front of them do not overlap, and none
-- ends behind the one that is listed last. Of a known end the one that is marked says where it lies; and without overlap the sum of the lengths is the
-- known end exactly if the original is whole (R-3).
-- Assumes nothing.
use Prim.Native.Nat.{ℕ, ◌+◌, ◌<◌, ◌≤◌}
use mathlib.Core.Path.{◌≡◌, refl, sym, ap, ap₂, ◌∙◌}
use mathlib.Core.Bool.{Bool, true, false, not, ◌&&◌, ◌||◌, cond, and-true, and-false, and_assoc}
use mathlib.Core.List.{List, [], ◌∷◌, ◌++◌}
use native.Mathlib.Omega.{arith}
use lib.Dec.{eqb, leb, ltb}
use lib.ListN.{length, take, get_or}
use borrow.Author.Tests.{leb-true, leb-false, ltb-false, eqb-true, eqb-false, le-leb, lt-leb, le-ltb, eq-eqb, ne_eqb, not-true}
use Rattle.number_tests.proofs.Tests.{true-false, both_true}
use Rattle.client_record.specs.declared.Fragment.{Fragment}
use Rattle.client_record.specs.Lists.{all, any, pairs, sum}
use Rattle.client_record.specs.Limits.{datagram_limit}
use Rattle.client_record.specs.Record.{is_last, end, non_empty, fits, starts_options_inside, sound_fragment, overlaps, both_last, outruns, conflicts}
use Rattle.client_record.specs.Record.{compatible, last_of, whole}
use Rattle.client_held_test.specs.Held.{rises_from, behind, lasts_of, last_end, last_start, ends_well, most_of}
use Rattle.client_record.specs.Ranges.{meets}
use Rattle.client_record.proofs.Completion.{not_yes, agree, last-ends, last-passes, last-marked, by-sum}
use Rattle.client_record.proofs.Lists.{take_next, all-not, never_both, pairs_of, both-all}
use Rattle.client_record.proofs.SoundParts.{all_weaker, pairs-weaker}
use Rattle.client_held_test.proofs.Marks.{marks-any, one-mark, mark-is, marks-most, the_last}

-- no two overlap
abbrev pub apart_all : List Fragment → Bool
apart_all fs = pairs (λ f g. not (overlaps f g)) fs

-- ---- one more fragment

module _ (f : Fragment) where
  rises-append : (e : ℕ) (fs : List Fragment) → rises_from e (fs ++ (f ∷ [])) ≡ rises_from e fs && leb (behind e fs) f.offset
  unfolding rises_from behind
  rises-append e [] = and-true (leb e f.offset)
  rises-append e (g ∷ fs) =
      ap (λ (x : Bool). leb e g.offset && x) (rises-append (end g) fs) ∙ sym (and_assoc (leb e g.offset) (rises_from (end g) fs) _)

  behind-append : (e : ℕ) (fs : List Fragment) → behind e (fs ++ (f ∷ [])) ≡ end f
  unfolding behind
  behind-append e [] = refl
  behind-append e (g ∷ fs) = behind-append (end g) fs

module _ (l : List Fragment) (i : ℕ) (d : Fragment) (h : i < length l) where
  pub rises_next : rises_from 0 (take (i + 1) l) ≡ rises_from 0 (take i l) && leb (behind 0 (take i l)) (get_or l i d).offset
  rises_next = ap (rises_from 0) (take_next l i d h) ∙ rises-append (get_or l i d) 0 (take i l)

  pub behind-next : behind 0 (take (i + 1) l) ≡ end (get_or l i d)
  behind-next = ap (behind 0) (take_next l i d h) ∙ behind-append (get_or l i d) 0 (take i l)

-- ---- rising fragments

offset-end : (f : Fragment) → f.offset ≤ end f
unfolding end
offset-end f = omega arith

-- each starts where the first may or behind it
starts-behind : (e : ℕ) (fs : List Fragment) → rises_from e fs ≡ true → all (λ f. leb e f.offset) fs ≡ true
unfolding all rises_from
starts-behind e [] r = refl
starts-behind e (f ∷ fs) r =
    let b = both_true (leb e f.offset) (rises_from (end f) fs) r in
    let far : e ≤ end f = omega (arith, leb-true e f.offset b.0, offset-end f) in
    ap₂ ◌&&◌ b.0
    (all_weaker (λ g. leb (end f) g.offset) (λ g. leb e g.offset)
    (λ g q. le-leb e g.offset (omega (arith, leb-true (end f) g.offset q))) fs (starts-behind (end f) fs b.1))

-- so no two overlap
pub rising-apart : (e : ℕ) (fs : List Fragment) → rises_from e fs ≡ true → apart_all fs ≡ true
unfolding pairs overlaps rises_from
rising-apart e [] r = refl
rising-apart e (f ∷ fs) r =
    let b = both_true (leb e f.offset) (rises_from (end f) fs) r in
    ap₂ ◌&&◌
    (all_weaker (λ g. leb (end f) g.offset) (λ g. not (ltb f.offset (end g) && ltb g.offset (end f)))
    (λ g q. ap (λ (x : Bool). not (ltb f.offset (end g) && x)) (le-ltb g.offset (end f) (leb-true (end f) g.offset q))
    ∙ ap not (and-false (ltb f.offset (end g)))) fs (starts-behind (end f) fs b.1))
    (rising-apart (end f) fs b.1)

-- and the one that is listed last says where they end
rising-far : (e : ℕ) (fs : List Fragment) → rises_from e fs ≡ true → e ≤ behind e fs
unfolding rises_from behind
rising-far e [] r = omega arith
rising-far e (f ∷ fs) r =
    let b = both_true (leb e f.offset) (rises_from (end f) fs) r in
    omega (arith, leb-true e f.offset b.0, offset-end f, rising-far (end f) fs b.1)

pub rising-ends : (m e : ℕ) (fs : List Fragment) → rises_from e fs ≡ true → e ≤ m → leb (behind e fs) m ≡ all (λ f. leb (end f) m) fs
unfolding rises_from behind all
rising-ends m e [] r h = le-leb e m h
rising-ends m e (f ∷ fs) r h =
    let b = both_true (leb e f.offset) (rises_from (end f) fs) r in go (leb (end f) m) refl b.1 (rising-ends m (end f) fs b.1)
  where
    go : (t : Bool) → leb (end f) m ≡ t → rises_from (end f) fs ≡ true → (end f ≤ m → leb (behind (end f) fs) m ≡ all (λ g. leb (end g) m) fs)
        → leb (behind (end f) fs) m ≡ t && all (λ g. leb (end g) m) fs
    go true k s ih = ih (leb-true (end f) m k)
    go false k s ih = lt-leb (behind (end f) fs) m (omega (arith, leb-false (end f) m k, rising-far (end f) fs s))

-- ---- what is known where each fragment is sound and at most one is last

-- it ends at or before `high`; if it is the last one, the known end is its own
unfoldable bounded : Bool → ℕ → ℕ → Fragment → Bool
bounded known past high f = leb (end f) high && (not (is_last f) || (known && eqb (end f) past))

record Swept (fs : List Fragment) (known : Bool) (past high total : ℕ) : Type 0 where
  marked : any is_last fs ≡ known
  ending : known ≡ true → end (last_of fs) ≡ past
  single : pairs (λ f g. not (both_last f g)) fs ≡ true
  ends : all (bounded known past high) fs ≡ true
  sums : sum (λ f. f.length) fs ≡ total

module _ {fs : List Fragment} {known : Bool} {past high total : ℕ} (s : Swept fs known past high total) where
  -- where no end passes the known one, none ends past one that is last
  kept : known && ltb past high ≡ false → (x y : Fragment) → bounded known past high x ≡ true → bounded known past high y ≡ true → (t : Bool)
      → is_last y ≡ t → t && ltb (end y) (end x) ≡ false
  unfolding bounded
  kept inside x y p q true e =
      let b = (both_true (leb (end y) high) (not (is_last y) || (known && eqb (end y) past)) q).1 in
      let m = both_true known (eqb (end y) past) (sym (ap (λ (z : Bool). not z || (known && eqb (end y) past)) e) ∙ b) in
      let most = leb-true (end x) high (both_true (leb (end x) high) _ p).0 in
      let least = ltb-false past high (sym (ap (λ (z : Bool). z && ltb past high) m.0) ∙ inside) in
      le-ltb (end y) (end x) (omega (arith, eqb-true (end y) past m.1))
  kept inside x y p q false e = refl

  -- two that do not overlap, and of which not both are last, do not conflict
  fit : known && ltb past high ≡ false → (f g : Fragment) → bounded known past high f ≡ true → bounded known past high g ≡ true
      → not (overlaps f g) ≡ true → not (both_last f g) ≡ true → not (conflicts f g) ≡ true
  unfolding conflicts outruns
  fit inside f g a b o l =
      ap not
      (ap₂ ◌||◌ (not-true (overlaps f g) o)
      (ap₂ ◌||◌ (not-true (both_last f g) l) (ap₂ ◌||◌ (kept inside f g a b (is_last g) refl) (kept inside g f b a (is_last f) refl))))

  -- no known end: not whole; and with one the sum says so
  open-still : known && eqb total past ≡ false → compatible fs ≡ true → (k : Bool) → known ≡ k → whole fs ≡ false
  open-still short c true k =
      (by-sum fs c).known_end (s.marked ∙ k)
      ∙ ne_eqb _ _ (λ q. true-false (sym (eq-eqb total past (sym s.sums ∙ q ∙ s.ending k)) ∙ sym (ap (λ (x : Bool). x && eqb total past) k) ∙ short))
  open-still short c false k = (by-sum fs c).no_last (s.marked ∙ k)

  apart_of : (f g : Fragment) → not (conflicts f g) ≡ true → not (overlaps f g) ≡ true
  unfolding overlaps meets end
  apart_of f g q = ap not (agree f g q).apart

  -- and else whether they overlap decides
  by-overlap : known && ltb past high ≡ false → known && eqb total past ≡ false → compatible fs && not (whole fs) ≡ apart_all fs
  unfolding compatible
  by-overlap inside short = go (apart_all fs) refl
    where
      go : (x : Bool) → apart_all fs ≡ x → compatible fs && not (whole fs) ≡ x
      go true o =
          let c = pairs_of (bounded known past high) (λ f g. not (overlaps f g)) (λ f g. not (both_last f g)) (λ f g. not (conflicts f g)) (fit inside) fs
          s.ends o s.single in
          ap₂ (λ (x y : Bool). x && not y) c (open-still short c known refl)
      go false o =
          ap (λ (x : Bool). x && not (whole fs))
          (not_yes (compatible fs)
          (λ c. true-false
          (sym (pairs-weaker (λ f g. not (conflicts f g)) (λ f g. not (overlaps f g)) apart_of fs c) ∙ o)))

-- ---- what it decides

pub some_end : (f : Fragment) → non_empty f ≡ true → end f ≤ 0 → ⊥
unfolding non_empty end
some_end f e h = eqb-false f.length 0 (not-true (eqb f.length 0) e) (omega arith)

-- one is empty
pub unsound : (fs : List Fragment) → all non_empty fs ≡ false → all sound_fragment fs ≡ false
unfolding sound_fragment
unsound fs e =
    not_yes (all sound_fragment fs) (λ s. true-false (sym (all_weaker sound_fragment non_empty (λ f q. (both_true (non_empty f) _ q).0) fs s) ∙ e))

-- wherever they may end, it is within the limit
pub most-within : (fs : List Fragment) (total : ℕ) → most_of fs total ≤ datagram_limit
unfolding most_of ends_well
most-within fs total = go (any is_last fs) (leb (lasts_of fs) 1) (leb (last_start fs) (last_end fs)) (leb (last_end fs) datagram_limit) refl (not (eqb (last_end fs) total))
  where
    go : (x a b c : Bool) → leb (last_end fs) datagram_limit ≡ c → (d : Bool) → cond x (cond (a && (b && (c && d))) (last_end fs) 0) datagram_limit ≤ datagram_limit
    go true true true true e true = leb-true (last_end fs) datagram_limit e
    go true true true true e false = omega arith
    go true true true false e d = omega arith
    go true true false c e d = omega arith
    go true false b c e d = omega arith
    go false a b c e d = omega arith

last-sound : (f : Fragment) → is_last f ≡ true → sound_fragment f ≡ true → (f.option_start ≤ end f) × (end f ≤ datagram_limit)
unfolding sound_fragment fits starts_options_inside
last-sound f l s =
    let b = both_true (leb (end f) datagram_limit) _ (both_true (non_empty f) _ s).1 in
    (leb-true f.option_start (end f) (sym (ap (λ (x : Bool). not x || leb f.option_start (end f)) l) ∙ b.1), leb-true (end f) datagram_limit b.0)

module _ (fs : List Fragment) (total : ℕ) (full : all non_empty fs ≡ true) (sums : sum (λ f. f.length) fs ≡ total) where
  -- what the record test asks of them
  abbrev asked : Bool
  asked = all sound_fragment fs && (compatible fs && not (whole fs))

  abbrev ends_by : ℕ → Bool
  ends_by m = all (λ f. leb (end f) m) fs

  each-sound : ends_by datagram_limit ≡ true → all starts_options_inside fs ≡ true → all sound_fragment fs ≡ true
  unfolding sound_fragment fits
  each-sound e s = both-all non_empty (λ f. leb (end f) datagram_limit && starts_options_inside f) fs full
      (both-all (λ f. leb (end f) datagram_limit) starts_options_inside fs e s)

  sound-ends : all sound_fragment fs ≡ true → ends_by datagram_limit ≡ true
  unfolding sound_fragment fits
  sound-ends s =
      all_weaker sound_fragment (λ f. leb (end f) datagram_limit)
      (λ f q. (both_true (leb (end f) datagram_limit) (starts_options_inside f) (both_true (non_empty f) _ q).1).0) fs s

  -- none is marked: the limit of an original
  none_last : any is_last fs ≡ false → asked ≡ ends_by datagram_limit && apart_all fs
  unfolding starts_options_inside bounded
  none_last e = go (ends_by datagram_limit) refl
    where
      plain : all (λ f. not (is_last f)) fs ≡ true
      plain = all-not is_last fs ∙ ap not e

      few : lasts_of fs ≤ 1
      few = omega (arith, ltb-false 0 (lasts_of fs) (sym (marks-any fs) ∙ e))

      go : (x : Bool) → ends_by datagram_limit ≡ x → asked ≡ x && apart_all fs
      go true k =
          let each = each-sound k (all_weaker (λ f. not (is_last f)) starts_options_inside
          (λ f q. ap (λ (x : Bool). x || leb f.option_start (end f)) q) fs plain) in
          let s : Swept fs false 0 datagram_limit total = record {
            marked = e;
            ending = λ q. absurd (true-false (sym q));
            single = one-mark fs few;
            ends = both-all (λ f. leb (end f) datagram_limit) (λ f. not (is_last f) || false) fs k
                (all_weaker (λ f. not (is_last f)) (λ f. not (is_last f) || false) (λ f q. ap (λ (x : Bool). x || false) q) fs plain);
            sums = sums;
          } in
          ap₂ ◌&&◌ each (by-overlap s refl refl)
      go false k = ap (λ (x : Bool). x && (compatible fs && not (whole fs))) (not_yes (all sound_fragment fs) (λ q. true-false (sym (sound-ends q) ∙ k)))

  -- one is marked, and its end can be
  one_last : any is_last fs ≡ true → ends_well fs total ≡ true → asked ≡ ends_by (last_end fs) && apart_all fs
  unfolding ends_well starts_options_inside bounded end
  one_last some well = go (ends_by (last_end fs)) refl
    where
      a : (leb (lasts_of fs) 1 ≡ true) × (leb (last_start fs) (last_end fs) && (leb (last_end fs) datagram_limit && not (eqb (last_end fs) total)) ≡ true)
      a = both_true (leb (lasts_of fs) 1) _ well

      b : (leb (last_start fs) (last_end fs) ≡ true) × (leb (last_end fs) datagram_limit && not (eqb (last_end fs) total) ≡ true)
      b = both_true (leb (last_start fs) (last_end fs)) _ a.1

      c : (leb (last_end fs) datagram_limit ≡ true) × (not (eqb (last_end fs) total) ≡ true)
      c = both_true (leb (last_end fs) datagram_limit) (not (eqb (last_end fs) total)) b.1

      few : lasts_of fs ≤ 1
      few = leb-true (lasts_of fs) 1 a.0

      inside : (f : Fragment) (x : Bool) → not x || eqb f.option_start (last_start fs) ≡ true → not x || eqb (end f) (last_end fs) ≡ true
          → not x || leb f.option_start (end f) ≡ true
      inside f true p q =
          le-leb f.option_start (end f)
          (omega (arith, eqb-true f.option_start (last_start fs) p, eqb-true (end f) (last_end fs) q, leb-true (last_start fs) (last_end fs) b.0))
      inside f false p q = refl

      go : (x : Bool) → ends_by (last_end fs) ≡ x → asked ≡ x && apart_all fs
      go true k =
          let short-ends : ends_by datagram_limit ≡ true =
          all_weaker (λ f. leb (end f) (last_end fs)) (λ f. leb (end f) datagram_limit)
          (λ f q. le-leb (end f) datagram_limit (omega (arith, leb-true (end f) (last_end fs) q, leb-true (last_end fs) datagram_limit c.0))) fs k in
          let marks = both-all (λ f. not (is_last f) || eqb f.option_start (last_start fs)) (λ f. not (is_last f) || eqb (end f) (last_end fs)) fs
          (mark-is (λ f. f.option_start) fs few) (mark-is end fs few) in
          let each = each-sound short-ends (all_weaker _ starts_options_inside
          (λ f q. let m = both_true (not (is_last f) || eqb f.option_start (last_start fs)) _ q in inside f (is_last f) m.0 m.1) fs marks) in
          let s : Swept fs true (last_end fs) (last_end fs) total = record {
            marked = some;
            ending = λ q. the_last end fs few some;
            single = one-mark fs few;
            ends = both-all (λ f. leb (end f) (last_end fs)) (λ f. not (is_last f) || eqb (end f) (last_end fs)) fs k (mark-is end fs few);
            sums = sums;
          } in
          ap₂ ◌&&◌ each
          (by-overlap s (le-ltb (last_end fs) (last_end fs) (omega arith))
          (ne_eqb total (last_end fs) (λ q. true-false (sym (eq-eqb (last_end fs) total (sym q)) ∙ not-true (eqb (last_end fs) total) c.1))))
      go false k =
          ap (λ (x : Bool). all sound_fragment fs && (x && not (whole fs)))
          (not_yes (compatible fs)
          (λ q. true-false (sym (ap ends_by (sym (the_last end fs few some)) ∙ last-ends fs q some) ∙ k)))
          ∙ and-false (all sound_fragment fs)

  -- one is marked, and its end can't be: no fragment passes, as none is empty
  never-last : any is_last fs ≡ true → ends_well fs total ≡ false → asked ≡ ends_by 0 && apart_all fs
  unfolding ends_well
  never-last some ill =
      not_yes asked (λ q. true-false (sym (well q) ∙ ill)) ∙ sym (ap (λ (x : Bool). x && apart_all fs) (not_yes (ends_by 0) nowhere))
    where
      nowhere : ends_by 0 ≡ true → ⊥
      nowhere k =
          never_both is_last (λ f. non_empty f && leb (end f) 0)
          (λ f p q. let b = both_true (non_empty f) (leb (end f) 0) q in some_end f b.0 (leb-true (end f) 0 b.1)) fs some
          (both-all non_empty (λ f. leb (end f) 0) fs full k)

      well : asked ≡ true → ends_well fs total ≡ true
      well q =
          let a = both_true (all sound_fragment fs) (compatible fs && not (whole fs)) q in
          let b = both_true (compatible fs) (not (whole fs)) a.1 in
          let few = marks-most fs b.0 in
          let past = the_last end fs few some in
          let last = last-sound (last_of fs) (last-marked fs ∙ some) (last-passes sound_fragment fs a.0 some) in
          ap₂ ◌&&◌ (le-leb (lasts_of fs) 1 few)
          (ap₂ ◌&&◌ (le-leb (last_start fs) (last_end fs) (omega (arith, last.0, past, the_last (λ f. f.option_start) fs few some)))
          (ap₂ ◌&&◌ (le-leb (last_end fs) datagram_limit (omega (arith, last.1, past)))
          (ap not (ne_eqb (last_end fs) total (λ e. true-false
          (sym ((by-sum fs b.0).known_end some ∙ eq-eqb _ _ (sums ∙ sym e ∙ sym past)) ∙ not-true (whole fs) b.1))))))

  -- the three cases
  pub decided : asked ≡ ends_by (most_of fs total) && apart_all fs
  unfolding most_of
  decided = go (any is_last fs) refl (ends_well fs total) refl
    where
      go : (x : Bool) → any is_last fs ≡ x → (y : Bool) → ends_well fs total ≡ y
          → asked ≡ ends_by (cond x (cond y (last_end fs) 0) datagram_limit) && apart_all fs
      go true p true q = one_last p q
      go true p false q = never-last p q
      go false p y q = none_last p
