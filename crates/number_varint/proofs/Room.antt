-- The weight of the next group and the room that 64 bits leave it: their product is 2 ^ 64 throughout, since a turn multiplies the one by 128
-- and divides the other, which is a power of 128 times 2. Assumes nothing.
use mathlib.Core.Path.{◌≡◌}
use mathlib.Core.Logic.{⊎_elim}
use Prim.Native.Nat.{ℕ, zero, suc, ◌*◌, ◌/◌, ◌^◌, ◌≤◌, ◌<◌}
use native.Mathlib.Nat.{mul_assoc, mul-le-mul_left, pow-suc, pow-succ', one-le-pow}
use native.Mathlib.Omega.{arith}
use Rattle.number_varint.proofs.Groups.{below_or_not}

pub record Room (weight room : ℕ) : Type 0 where
  pub more : ℕ
  pub left : room ≡ 128 ^ more * 2
  pub whole : weight * 128 ^ more ≡ 2 ^ 63

pub room_whole : {weight room : ℕ} → Room weight room → weight * room ≡ 2 ^ 64
room_whole r = rw (r.left, ← mul_assoc, r.whole)

pub room-some : {weight room : ℕ} → Room weight room → 2 ≤ room
room-some r = omega (arith, one-le-pow r.more 128 (omega arith))

module _ {weight room : ℕ} (r : Room weight room) where
  -- a room below 256 is that of the last of ten groups
  pub room_small : room < 256 → room ≡ 2
  room_small h = go r.more r.left
    where
      go : (m : ℕ) → room ≡ 128 ^ m * 2 → room ≡ 2
      go zero e = e
      go (suc m) e = absurd (omega (arith, pow-suc 128 m, one-le-pow m 128 (omega arith)))

  pub room_next : 128 < room → Room (weight * 128) (room / 128)
  room_next h = go r.more r.left r.whole
    where
      go : (m : ℕ) → room ≡ 128 ^ m * 2 → weight * 128 ^ m ≡ 2 ^ 63 → Room (weight * 128) (room / 128)
      go zero e f = absurd (omega arith)
      go (suc m) e f = record { more = m; left = omega (arith, pow-suc 128 m); whole = rw (mul_assoc, ← pow-succ' 128 m) f }

  -- a group that others follow has a weight that a group of seven bits more still fits
  pub weight-small : 128 < room → weight ≤ 2 ^ 56
  weight-small h =
      ⊎_elim
      (λ l. absurd (omega (arith, room_small l)))
      (λ l. omega (arith, mul-le-mul_left weight l, room_whole r))
      (below_or_not room 256)
