-- Ranges of places, of whatever has a start and a size, and document 02's law of R-3 about them.
use Rattle.std.specs.Prelude.{ℕ, ◌+◌, ◌<◌, ◌≡◌, Bool, true, not, ◌&&◌, List, leb, ltb}
use Rattle.client_record.specs.Lists.{all, any, pairs, sum}

module _ {A : Type 0} (start size : A → ℕ) where
  -- the place i lies in it
  unfoldable pub holds : ℕ → A → Bool
  holds i x = leb (start x) i && ltb i (start x + size x)

  unfoldable pub meets : A → A → Bool
  meets x y = ltb (start x) (start y + size y) && ltb (start y) (start x + size x)

  -- "pieces inside 0 to T without overlap"
  pub record Inside (n : ℕ) (xs : List A) : Type 0 where
    pub within : all (λ x. leb (start x + size x) n) xs ≡ true
    pub apart : pairs (λ x y. not (meets x y)) xs ≡ true

  -- "every byte is covered"
  abbrev pub Covered : ℕ → List A → Type 0
  Covered n xs = (i : ℕ) → i < n → any (holds i) xs ≡ true

  -- "sum to T exactly when every byte is covered"
  pub record SumLaw (n : ℕ) (xs : List A) : Type 0 where
    pub covers : sum size xs ≡ n → Covered n xs
    pub sums : Covered n xs → sum size xs ≡ n
