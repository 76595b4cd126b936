-- What was read in parts: each part was read, and the next from where it ended.
-- Assumes nothing.
use mathlib.Core.Path.{◌≡◌, refl}
use mathlib.Core.Bool.{Bool, true, false, cond}
use mathlib.Core.List.{List}
use Prim.Native.Nat.{ℕ, ◌≤◌}
use native.Mathlib.Omega.{arith}
use borrow.Author.Tests.{leb-true}
use lib.Dec.{leb}
use lib.ListN.{length, take, drop}
use Rattle.list_entry.specs.Option.{unreadable, Read, got, failed, and_then, read_as, read_bytes}

module _ {A B : Type 0} where
  -- one part behind another
  pub then-got : (t : Read A) (next : A → List ℕ → Read B) {b : B} {rest : List ℕ} → and_then t next ≡ got b rest
      → (a : A) × (r : List ℕ) × (t ≡ got a r) × (next a r ≡ got b rest)
  then-got (got a r) next e = (a, r, refl, e)
  then-got (failed n) next e = absurd (let z : ◌≡◌ {A = ℕ} 0 1 = cc in omega arith)

  -- a part under another name
  pub as-got : (f : A → B) (t : Read A) {b : B} {rest : List ℕ} → read_as f t ≡ got b rest → (a : A) × (t ≡ got a rest) × (f a ≡ b)
  as-got f (got a r) e = (a, cc, cc)
  as-got f (failed n) e = absurd (let z : ◌≡◌ {A = ℕ} 0 1 = cc in omega arith)

pub bytes-got : (n : ℕ) (l : List ℕ) {body rest : List ℕ} → read_bytes n l ≡ got body rest
    → (n ≤ length l) × (take n l ≡ body) × (drop n l ≡ rest)
bytes-got n l {body} {rest} = go (leb n (length l)) refl
  where
    go : (t : Bool) → leb n (length l) ≡ t → cond t (got (take n l) (drop n l)) (failed unreadable) ≡ got body rest
        → (n ≤ length l) × (take n l ≡ body) × (drop n l ≡ rest)
    go false p e = absurd (let z : ◌≡◌ {A = ℕ} 0 1 = cc in omega arith)
    go true p e = (leb-true n (length l) p, cc, cc)
