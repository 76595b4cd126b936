-- Reading and writing go by one group at a time, so a number's bytes are known by induction: `Reads` over what is read, `Encodes` over what
-- is written. Assumes nothing.
use mathlib.Core.Path.{◌≡◌, refl, ap, sym, ◌∙◌}
use mathlib.Core.Logic.{◌⊎◌, inl, inr, ⊎_elim}
use mathlib.Core.List.{List, [], ◌∷◌, ◌++◌}
use Prim.Native.Nat.{ℕ, zero, suc, ◌+◌, ◌*◌, ◌/◌, ◌%◌, ◌^◌, ◌≤◌, ◌<◌}
use native.Mathlib.Nat.{pow-suc}
use native.Mathlib.Decide.{dec_lt}
use native.Mathlib.Omega.{arith}
use lib.ListN.{length, take, get_or}
use borrow.Author.Tests.{lt-ltb, le-ltb, ne_eqb}
use Rattle.number_varint.specs.SevenBit.{Taken, taken, untaken, is_last, is_idle, is_narrow, in_front, front, narrowed, number, groups, encoded}

-- ---- the definitions' cases

pub below_or_not : (a b : ℕ) → (a < b) ⊎ (b ≤ a)
below_or_not a b = elim (dec_lt a b) [ yes h ↦ inl h | no h ↦ inr (omega arith) ]

pub front-last : (b : ℕ) (behind : List ℕ) → b < 128 → front (b ∷ behind) ≡ taken b 1
unfolding front is_last
front-last b behind h = rw (lt-ltb b 128 h)

pub front-more : (b : ℕ) (behind : List ℕ) → 128 ≤ b → front (b ∷ behind) ≡ in_front b (front behind)
unfolding front is_last
front-more b behind h = rw (le-ltb b 128 h)

pub in_front-taken : (b v w : ℕ) → 0 < v → in_front b (taken v w) ≡ taken (b % 128 + 128 * v) (suc w)
unfolding in_front is_idle
in_front-taken b v w h = rw (ne_eqb v 0 (omega arith))

pub narrowed-taken : (v w : ℕ) → v < 2 ^ 64 → narrowed (taken v w) ≡ taken v w
unfolding narrowed is_narrow
narrowed-taken v w h = rw (lt-ltb v (2 ^ 64) h)

pub narrowed-wide : (v w : ℕ) → 2 ^ 64 ≤ v → narrowed (taken v w) ≡ untaken
unfolding narrowed is_narrow
narrowed-wide v w h = rw (le-ltb v (2 ^ 64) h)

-- what is taken at 64 bits is taken at any size
pub narrowed-only : (t : Taken) (n w : ℕ) → narrowed t ≡ taken n w → (t ≡ taken n w) × (n < 2 ^ 64)
unfolding narrowed
narrowed-only untaken n w e = let z : ◌≡◌ {A = ℕ} 0 1 = cc in absurd (omega arith)
narrowed-only (taken v u) n w e =
    ⊎_elim
    (λ h. let f : taken v u ≡ taken n w = sym (narrowed-taken v u h) ∙ e in let g : v ≡ n = cc in (f, omega arith))
    (λ h. let z : ◌≡◌ {A = ℕ} 0 1 = cc (narrowed-wide v u h) in absurd (omega arith))
    (below_or_not v (2 ^ 64))

groups-cases : (P : List ℕ → Type 0) (count n : ℕ) → (n < 128 → P (n ∷ [])) → (128 ≤ n → P ((128 + n % 128) ∷ groups count (n / 128)))
    → P (groups (suc count) n)
unfolding groups is_last
groups-cases P count n f g = ⊎_elim (λ h. rw (lt-ltb n 128 h) (f h)) (λ h. rw (le-ltb n 128 h) (g h)) (below_or_not n 128)

-- ---- what is read

-- the first w bytes of a list are the number n
pub data Reads : List ℕ → ℕ → ℕ → Type 0 where
  last : {b : ℕ} {behind : List ℕ} → b < 128 → Reads (b ∷ behind) b 1
  more : {b v w n : ℕ} {behind : List ℕ} → 128 ≤ b → 0 < v → b % 128 + 128 * v ≡ n → Reads behind v w → Reads (b ∷ behind) n (suc w)

abbrev ReadsAs : List ℕ → Taken → Type 0
ReadsAs s (taken n w) = Reads s n w
ReadsAs s untaken = Unit {0}

longer : (b : ℕ) (behind : List ℕ) (t : Taken) → 128 ≤ b → ReadsAs behind t → ReadsAs (b ∷ behind) (in_front b t)
unfolding in_front is_idle
longer b behind untaken h r = tt
longer b behind (taken zero w) h r = tt
longer b behind (taken (suc v) w) h r = rw (in_front-taken b (suc v) w (omega arith)) (more {v = suc v} h (omega arith) refl r)

reads-front : (s : List ℕ) → ReadsAs s (front s)
unfolding front
reads-front [] = tt
reads-front (b ∷ behind) =
    ⊎_elim
    (λ h. rw (front-last b behind h) (last h))
    (λ h. rw (front-more b behind h) (longer b behind (front behind) h (reads-front behind)))
    (below_or_not b 128)

front_reads : {s : List ℕ} {n w : ℕ} → Reads s n w → front s ≡ taken n w
front_reads (last h) = front-last _ _ h
front_reads (more {b} {v} {w} h p e r) =
    front-more b _ h ∙ ap (in_front b) (front_reads r) ∙ in_front-taken b v w p ∙ ap (λ (m : ℕ). taken m (suc w)) e

pub reads-number : (s : List ℕ) (n w : ℕ) → number s ≡ taken n w → Reads s n w
unfolding number
reads-number s n w e = rw (narrowed-only (front s) n w e).0 at (reads-front s)

pub number-reads : {s : List ℕ} {n w : ℕ} → Reads s n w → n < 2 ^ 64 → number s ≡ taken n w
unfolding number
number-reads {s} {n} {w} r h = ap narrowed (front_reads r) ∙ narrowed-taken n w h

pub reads-width : {s : List ℕ} {n w : ℕ} → Reads s n w → (0 < w) × (w ≤ length s)
reads-width (last l) = omega arith
reads-width (more l p e r) = let h = reads-width r in omega arith

pub reads-alone : {s : List ℕ} {n w : ℕ} → Reads s n w → (t : List ℕ) → Reads (take w s ++ t) n w
reads-alone (last l) t = last l
reads-alone (more l p e r) t = more l p e (reads-alone r t)

-- ---- what is written

-- a list is the encoding of n
pub data Encodes : ℕ → List ℕ → Type 0 where
  one_group : {n : ℕ} → n < 128 → Encodes n (n ∷ [])
  more_groups : {n : ℕ} {l : List ℕ} → 128 ≤ n → Encodes (n / 128) l → Encodes n ((128 + n % 128) ∷ l)

encodes-groups : (count n : ℕ) → n < 128 ^ suc count → Encodes n (groups (suc count) n)
encodes-groups zero n h = groups-cases (Encodes n) zero n one_group (λ l. absurd (omega arith))
encodes-groups (suc count) n h =
    groups-cases (Encodes n) (suc count) n one_group
    (λ l. more_groups l (encodes-groups count (n / 128) (omega (arith, pow-suc 128 (suc count)))))

pub encodes : (n : ℕ) → n < 2 ^ 64 → Encodes n (encoded n)
unfolding encoded
encodes n h = encodes-groups 9 n (omega arith)

pub encodes-last : {n : ℕ} {l : List ℕ} → Encodes n l → n < 128 → l ≡ n ∷ []
encodes-last (one_group h) b = refl
encodes-last (more_groups h e) b = absurd (omega arith)

pub encodes_more : {n : ℕ} {l : List ℕ} → Encodes n l → 128 ≤ n → (r : List ℕ) × Encodes (n / 128) r × (l ≡ (128 + n % 128) ∷ r)
encodes_more (one_group h) b = absurd (omega arith)
encodes_more (more_groups {l = r} h e) b = (r, e, refl)

pub encodes_same : {n : ℕ} {l r : List ℕ} → Encodes n l → Encodes n r → l ≡ r
encodes_same (one_group h) e = sym (encodes-last e h)
encodes_same (more_groups {n} h d) e =
    let m = encodes_more e h in
    ap (λ (l : List ℕ). (128 + n % 128) ∷ l) (encodes_same d m.1) ∙ sym m.2

pub groups-some : (count n : ℕ) → 0 < length (groups (suc count) n)
groups-some count n = groups-cases (λ (l : List ℕ). 0 < length l) count n (λ h. omega arith) (λ h. omega arith)

pub groups-short : (count n : ℕ) → length (groups count n) ≤ count
unfolding groups
groups-short zero n = omega arith
groups-short (suc count) n =
    groups-cases (λ (l : List ℕ). length l ≤ suc count) count n (λ h. omega arith) (λ h. omega (arith, groups-short count (n / 128)))

pub groups-bytes : (count n i : ℕ) → get_or (groups count n) i 0 < 256
unfolding groups
groups-bytes zero n i = omega arith
groups-bytes (suc count) n zero = groups-cases (λ (l : List ℕ). get_or l 0 0 < 256) count n (λ h. omega arith) (λ h. omega arith)
groups-bytes (suc count) n (suc i) =
    groups-cases (λ (l : List ℕ). get_or l (suc i) 0 < 256) count n (λ h. omega arith) (λ h. groups-bytes count (n / 128) i)

-- ---- from the one to the other

pub encodes-read : {n : ℕ} {l : List ℕ} → Encodes n l → (behind : List ℕ) → Reads (l ++ behind) n (length l)
encodes-read (one_group h) behind = last h
encodes-read (more_groups {n} h e) behind =
    let q : (128 + n % 128) % 128 + 128 * (n / 128) ≡ n = omega arith in
    more {b = 128 + n % 128} {v = n / 128} (omega arith) (omega arith) q (encodes-read e behind)

pub reads-encodes : {s : List ℕ} {n w : ℕ} → Reads s n w → ((i : ℕ) → get_or s i 0 < 256) → Encodes n (take w s)
reads-encodes (last l) bytes = one_group l
reads-encodes (more {b} {v} {w} {n} l p e r) bytes =
    let q : v ≡ n / 128 = omega arith in
    let g : b ≡ 128 + n % 128 = omega (arith, bytes 0) in
    rw g (more_groups {n = n} (omega arith) (rw q at (reads-encodes r (λ i. bytes (suc i)))))
