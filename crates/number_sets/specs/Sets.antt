-- A set of numbers as the bits of a list of 64-bit words.
use Rattle.std.specs.Prelude.{ℕ, zero, suc, ◌*◌, ◌/◌, ◌%◌, ◌<◌, ◌≤◌, ◌≡◌, Bool, true, false, ◌&&◌, ◌||◌, List, eqb, leb, ltb, length, get_or}

-- bit b of x, the lowest being 0
unfoldable pub bit : ℕ → ℕ → Bool
bit x zero = eqb (x % 2) 1
bit x (suc b) = bit (x / 2) b

-- i is in the set
unfoldable pub has : List ℕ → ℕ → Bool
has ws i = bit (get_or ws (i / 64) 0) (i % 64)

-- i is one of the numbers start to end
unfoldable pub among : ℕ → ℕ → ℕ → Bool
among start end i = leb start i && ltb i end

-- a range of at least one number, for which there are words
pub record Room (ws : List ℕ) (start end : ℕ) : Type 0 where
  pub some : start < end
  pub room : end ≤ length ws * 64

-- one of the numbers start to end is in the set
pub record Taken (ws : List ℕ) (start end : ℕ) : Type 0 where
  pub at : ℕ
  pub from : start ≤ at
  pub before : at < end
  pub there : has ws at ≡ true

-- the set with the range, and whether none of it was there before
pub record Included (ws : List ℕ) (start end : ℕ) (free : Bool) (ws' : List ℕ) : Type 0 where
  pub size : length ws' ≡ length ws
  pub joined : (i : ℕ) → has ws' i ≡ has ws i || among start end i
  pub clear : free ≡ true → (i : ℕ) → start ≤ i → i < end → has ws i ≡ false
  pub taken : free ≡ false → Taken ws start end
