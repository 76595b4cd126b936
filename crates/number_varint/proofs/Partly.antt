-- A number that was read in part is the groups so far, and `weight` times what the bytes behind them give: so each turn moves one group
-- from the right to the left, and the last one decides. Assumes nothing.
use mathlib.Core.Path.{◌≡◌, refl, ap, ap₂, sym, ◌∙◌}
use mathlib.Core.Bool.{cond}
use mathlib.Core.Logic.{⊎_elim}
use mathlib.Core.List.{List, ◌∷◌}
use Prim.Native.Nat.{ℕ, zero, suc, ◌+◌, ◌-◌, ◌*◌, ◌/◌, ◌%◌, ◌^◌, ◌≤◌, ◌<◌}
use native.Mathlib.Nat.{mul-add, mul_assoc, mul-suc, mul-le-mul_left}
use native.Mathlib.Numerals.{add-one, one-add}
use native.Mathlib.Omega.{arith}
use lib.ListN.{length, drop, get_or, drop_of_length-le}
use lib.Seq.{drop-cons}
use borrow.Author.Tests.{ne_eqb}
use Rattle.number_varint.specs.SevenBit.{Taken, taken, untaken, is_idle, in_front, front, narrowed, number}
use Rattle.number_varint.specs.Answer.{found, unfound, unreadable, decoded_as, decoded_at}
use Rattle.number_varint.proofs.Groups.{below_or_not, front-last, front-more, in_front-taken, narrowed-taken, narrowed-wide}
use Rattle.number_varint.proofs.Room.{Room, room_whole, room-some, room_small, room_next}

-- ---- the groups so far, in front of what the bytes behind them give

-- groups worth `value` on `width` bytes, in front of groups that count `weight` each
unfoldable pub behind : ℕ → ℕ → ℕ → Taken → Taken
behind value weight width untaken = untaken
behind value weight width (taken v w) = cond (is_idle v) untaken (taken (value + weight * v) (width + w))

behind-taken : (value weight width v w : ℕ) → 0 < v → behind value weight width (taken v w) ≡ taken (value + weight * v) (width + w)
unfolding behind is_idle
behind-taken value weight width v w h = rw (ne_eqb v 0 (omega arith))

behind-first : (b : ℕ) (t : Taken) → in_front b t ≡ behind (b % 128) 128 1 t
unfolding behind in_front is_idle
behind-first b untaken = refl
behind-first b (taken zero w) = refl
behind-first b (taken (suc v) w) = rw one-add

behind_more : (value weight width b : ℕ) (t : Taken)
    → behind value weight width (in_front b t) ≡ behind (value + weight * (b % 128)) (weight * 128) (width + 1) t
unfolding behind in_front is_idle
behind_more value weight width b untaken = refl
behind_more value weight width b (taken zero w) = refl
behind_more value weight width b (taken (suc v) w) =
    rw (
      in_front-taken b (suc v) w (omega arith),
      behind-taken value weight width (b % 128 + 128 * suc v) (suc w) (omega arith),
      behind-taken (value + weight * (b % 128)) (weight * 128) (width + 1) (suc v) w (omega arith),
    )
    (ap₂ taken (omega (arith, mul-add weight (b % 128) (128 * suc v), mul_assoc weight 128 (suc v))) (omega arith))

-- at 64 bits nothing is taken where the bytes behind give no less than there is room for
too_wide : {weight room : ℕ} → Room weight room → (value width : ℕ) (t : Taken) → ((v w : ℕ) → t ≡ taken v w → room ≤ v)
    → narrowed (behind value weight width t) ≡ untaken
unfolding behind narrowed
too_wide r value width untaken f = refl
too_wide {weight} r value width (taken v w) f =
    let h = f v w refl in
    let o = room-some r in
    rw (behind-taken value weight width v w (omega arith))
    (narrowed-wide (value + weight * v) (width + w) (omega (arith, mul-le-mul_left weight h, room_whole r)))

-- more than one group is worth 128 or more
in_front-least : (b v w : ℕ) (t : Taken) → in_front b t ≡ taken v w → 128 ≤ v
unfolding in_front is_idle
in_front-least b v w untaken e = let z : ◌≡◌ {A = ℕ} 0 1 = cc in absurd (omega arith)
in_front-least b v w (taken zero u) e = let z : ◌≡◌ {A = ℕ} 0 1 = cc in absurd (omega arith)
in_front-least b v w (taken (suc n) u) e =
    let z : b % 128 + 128 * suc n ≡ v = cc (in_front-taken b (suc n) u (omega arith)) in
    omega arith

-- ---- the number at a position, by its first byte

-- the byte g stands at i
pub record Byte (s : List ℕ) (i g : ℕ) : Type 0 where
  pub within : i < length s
  pub here : g ≡ get_or s i 0

module _ {s : List ℕ} {i g : ℕ} (byte : Byte s i g) where
  drop-byte : drop i s ≡ g ∷ drop (i + 1) s
  drop-byte = rw (add-one, byte.here) (drop-cons s i 0 byte.within)

  front-at-last : g < 128 → front (drop i s) ≡ taken g 1
  front-at-last l = ap front drop-byte ∙ front-last g _ l

  front-at-more : 128 ≤ g → front (drop i s) ≡ in_front g (front (drop (i + 1) s))
  front-at-more l = ap front drop-byte ∙ front-more g _ l

-- ---- the answers

module _ (s : List ℕ) (at : ℕ) where
  refused : number (drop at s) ≡ untaken → unfound unreadable at ≡ decoded_at s at
  unfolding decoded_at decoded_as
  refused e = ap (decoded_as at) (sym e)

  answered : (v w : ℕ) → number (drop at s) ≡ taken v w → found v (at + w) ≡ decoded_at s at
  unfolding decoded_at decoded_as
  answered v w e = ap (decoded_as at) (sym e)

  -- nothing stands at `at`
  pub none-there : length s ≤ at → unfound unreadable at ≡ decoded_at s at
  unfolding number front narrowed
  none-there h = refused (ap number (drop_of_length-le s h))

-- one group alone
pub one-there : {s : List ℕ} {at g : ℕ} → Byte s at g → g < 128 → found g (at + 1) ≡ decoded_at s at
unfolding number
one-there {s} {at} {g} byte l = answered s at g 1 (ap narrowed (front-at-last byte l) ∙ narrowed-taken g 1 (omega arith))

-- ---- a number that was read in part

-- the number from `at` is the groups before `i`, worth `value`, and then what the bytes from `i` give
pub record Partly (s : List ℕ) (at value weight room i : ℕ) : Type 0 where
  pub begun : at < i
  pub small : value < weight
  pub ahead : Room weight room
  pub reads : front (drop at s) ≡ behind value weight (i - at) (front (drop i s))

-- after the first group
pub partly-first : {s : List ℕ} {at g : ℕ} → Byte s at g → 128 ≤ g → Partly s at (g % 128) 128 (2 ^ 57) (at + 1)
partly-first {s} {at} {g} byte b =
    let one : 1 ≡ at + 1 - at = omega arith in
    record {
      begun = omega arith;
      small = omega arith;
      ahead = record { more = 8; left = refl; whole = refl };
      reads = front-at-more byte b ∙ behind-first g _ ∙ ap (λ (k : ℕ). behind (g % 128) 128 k (front (drop (at + 1) s))) one;
    }

module _ {s : List ℕ} {at value weight room i : ℕ} (p : Partly s at value weight room i) where
  from-here : (t : Taken) → front (drop i s) ≡ t → number (drop at s) ≡ narrowed (behind value weight (i - at) t)
  unfolding number
  from-here t e = ap narrowed (p.reads ∙ ap (behind value weight (i - at)) e)

  -- the bytes end before the number does
  pub partly-cut : length s ≤ i → unfound unreadable at ≡ decoded_at s at
  unfolding front behind narrowed
  partly-cut h = refused s at (from-here untaken (ap front (drop_of_length-le s h)))

  -- the value with a last group is within 64 bits
  pub partly-fits : {g : ℕ} → g < room → value + weight * g < 2 ^ 64
  partly-fits {g} r = omega (arith, p.small, mul-le-mul_left weight r, mul-suc weight g, room_whole p.ahead)

  module _ {g : ℕ} (byte : Byte s i g) where
    -- one group more
    pub partly_more : 128 ≤ g → g < room → Partly s at (value + weight * (g % 128)) (weight * 128) (room / 128) (i + 1)
    partly_more b r =
        let k : i - at + 1 ≡ i + 1 - at = omega (arith, p.begun) in
        let m : g % 128 ≤ 127 = omega arith in
        record {
          begun = omega (arith, p.begun);
          small = omega (arith, p.small, mul-le-mul_left weight m);
          ahead = room_next p.ahead (omega arith);
          reads =
              p.reads ∙ ap (behind value weight (i - at)) (front-at-more byte b) ∙ behind_more value weight (i - at) g _
              ∙ ap (λ (n : ℕ). behind (value + weight * (g % 128)) (weight * 128) n (front (drop (i + 1) s))) k;
        }

    -- a last group of 0
    pub partly-idle : g ≡ 0 → unfound unreadable at ≡ decoded_at s at
    unfolding behind narrowed is_idle
    partly-idle z = refused s at (from-here (taken 0 1) (front-at-last byte (omega arith) ∙ ap (λ (b : ℕ). taken b 1) z))

    -- past 64 bits
    pub partly-wide : g < 256 → room ≤ g → unfound unreadable at ≡ decoded_at s at
    partly-wide b r = refused s at (from-here _ refl ∙ too_wide p.ahead value (i - at) (front (drop i s)) least)
      where
        least : (v w : ℕ) → front (drop i s) ≡ taken v w → room ≤ v
        least v w e =
            ⊎_elim
            (λ l. let z : g ≡ v = cc (front-at-last byte l) in omega arith)
            (λ l. omega (arith, room_small p.ahead (omega arith), in_front-least g v w _ (sym (front-at-more byte l) ∙ e)))
            (below_or_not g 128)

    -- the last group
    pub partly-last : 0 < g → g < 128 → g < room → found (value + weight * g) (i + 1) ≡ decoded_at s at
    partly-last z l r =
        let k : i + 1 ≡ at + (i - at + 1) = omega (arith, p.begun) in
        ap (found (value + weight * g)) k
        ∙ answered s at _ _
        (from-here _ (front-at-last byte l) ∙ ap narrowed (behind-taken value weight (i - at) g 1 z) ∙ narrowed-taken _ _ (partly-fits r))
