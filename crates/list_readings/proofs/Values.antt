-- A value is listed as the walk of its extent where all three tests hold, and as no option where one fails.
-- Assumes nothing.
use mathlib.Core.Path.{◌≡◌, refl, ap}
use mathlib.Core.Bool.{Bool, true, false, cond, ◌&&◌}
use mathlib.Core.List.{List, []}
use Prim.Native.Nat.{ℕ, ◌-◌, ◌≤◌}
use native.Mathlib.Omega.{arith}
use borrow.Author.Tests.{leb-true, le-leb}
use lib.Dec.{leb}
use lib.ListN.{length}
use Rattle.number_octets.specs.Octets.{part}
use Rattle.wire_options.specs.Walk.{Walked, listed, walk_from, option_limit}
use Rattle.wire_reading.specs.Reading.{is_read}
use Rattle.wire_reading.specs.declared.Verdict.{Verdict}
use Rattle.list_readings.specs.Catalogue.{is_listed, walk_of_value}

module _ (verdict : Verdict) (from to size : ℕ) where
  pub by-verdict : from ≤ to → to ≤ size → is_listed verdict from to size ≡ is_read verdict
  by-verdict h k = go (is_read verdict)
    where
      go : (a : Bool) → (a && leb from to && leb to size) ≡ a
      go true = simp (le-leb from to h, le-leb to size k)
      go false = refl

  pub none-listed : is_read verdict ≡ false → is_listed verdict from to size ≡ false
  none-listed e = simp e

  pub extent-inside : is_listed verdict from to size ≡ true → (from ≤ to) × (to ≤ size)
  extent-inside = go (is_read verdict) (leb from to) refl (leb to size) refl
    where
      go : (a b : Bool) → leb from to ≡ b → (c : Bool) → leb to size ≡ c → (a && b && c) ≡ true → (from ≤ to) × (to ≤ size)
      go false b p c q e = absurd (let z : ◌≡◌ {A = ℕ} 0 1 = cc in omega arith)
      go true false p c q e = absurd (let z : ◌≡◌ {A = ℕ} 0 1 = cc in omega arith)
      go true true p false q e = absurd (let z : ◌≡◌ {A = ℕ} 0 1 = cc in omega arith)
      go true true p true q e = (leb-true from to p, leb-true to size q)

module _ (bytes : List ℕ) (verdict : Verdict) (from to : ℕ) where
  by : Bool → Walked
  by t = cond t (walk_from option_limit 0 (part from (to - from) bytes)) (listed [] 0)

  pub value-listed : is_listed verdict from to (length bytes) ≡ true → walk_of_value bytes verdict from to ≡ walk_from option_limit 0 (part from (to - from) bytes)
  unfolding walk_of_value by
  value-listed e = ap by e

  pub value_none : is_listed verdict from to (length bytes) ≡ false → walk_of_value bytes verdict from to ≡ listed [] 0
  unfolding walk_of_value by
  value_none e = ap by e
