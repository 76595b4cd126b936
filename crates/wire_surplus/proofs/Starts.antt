-- Laws of the start of an area: each verdict from the facts that lead to it.
-- Assumes nothing.
use mathlib.Core.Path.{◌≡◌, refl}
use mathlib.Core.Bool.{Bool, true, false, cond, not, ◌&&◌}
use mathlib.Core.List.{List}
use Prim.Native.Nat.{ℕ, ◌+◌, ◌≤◌, ◌<◌}
use native.Mathlib.Omega.{arith}
use borrow.Author.Tests.{eq-eqb, ne_eqb, lt-ltb, le-ltb, ltb-false}
use lib.Dec.{eqb, ltb}
use lib.ListN.{length, get_or}
use Rattle.number_checksum.specs.Checksum.{word_sum, folded, all_ones}
use Rattle.wire_surplus.specs.Surplus.{pad_of, ocs_of, ocs_holds, summed_of, start_of}
use Rattle.std.specs.Prelude.{Ok, Err}
use Rattle.wire_surplus.specs.declared.Unlisted.TheVariants.{Empty, Short, Pad, Unsummed, BadSum}

module _ (unused : Bool) (area : List ℕ) where
  pub start-empty : (odd : Bool) → length area ≡ 0 → start_of odd unused area ≡ Err Empty
  unfolding start_of
  start-empty odd e = simp (eq-eqb (length area) 0 e)

  pub start-short : (odd : Bool) → (length area ≡ 0 → ⊥) → length area < pad_of odd + 2 → start_of odd unused area ≡ Err Short
  unfolding start_of
  start-short odd some h = simp (ne_eqb (length area) 0 some, lt-ltb (length area) (pad_of odd + 2) h)

  pub start-pad : 3 ≤ length area → (get_or area 0 0 ≡ 0 → ⊥) → start_of true unused area ≡ Err Pad
  unfolding start_of
  start-pad h d = simp (ne_eqb (length area) 0 (λ e. omega arith), le-ltb (length area) 3 h, ne_eqb (get_or area 0 0) 0 d)

  pub start-odd : 3 ≤ length area → get_or area 0 0 ≡ 0 → start_of true unused area ≡ summed_of true unused area
  unfolding start_of
  start-odd h z = simp (ne_eqb (length area) 0 (λ e. omega arith), le-ltb (length area) 3 h, eq-eqb (get_or area 0 0) 0 z)

  pub start-even : 2 ≤ length area → start_of false unused area ≡ summed_of false unused area
  unfolding start_of
  start-even h = simp (ne_eqb (length area) 0 (λ e. omega arith), le-ltb (length area) 2 h)

module _ (odd : Bool) (area : List ℕ) where
  pub summed-right : (unused : Bool) → (ocs_of odd area ≡ 0 → ⊥) → folded (length area + word_sum odd area) ≡ all_ones
      → summed_of odd unused area ≡ Ok (pad_of odd + 2)
  summed-right unused d e = simp (ne_eqb (ocs_of odd area) 0 d, eq-eqb (folded (length area + word_sum odd area)) all_ones e)

-- a list that starts does so within the area
pub start-list : (odd unused : Bool) (area : List ℕ) (at : ℕ) → start_of odd unused area ≡ Ok at → at ≤ length area
unfolding start_of
start-list odd unused area at =
    go (eqb (length area) 0) (ltb (length area) (pad_of odd + 2)) (odd && not (eqb (get_or area 0 0) 0)) (eqb (ocs_of odd area) 0 && not unused)
    (not (eqb (ocs_of odd area) 0) && not (ocs_holds odd area)) refl
  where
    go : (a b c d e : Bool) → ltb (length area) (pad_of odd + 2) ≡ b
        → cond a (Err Empty) (cond b (Err Short) (cond c (Err Pad) (cond d (Err Unsummed) (cond e (Err BadSum) (Ok (pad_of odd + 2)))))) ≡ Ok at → at ≤ length area
    go true b c d e h q = cc
    go false true c d e h q = cc
    go false false true d e h q = cc
    go false false false true e h q = cc
    go false false false false true h q = cc
    go false false false false false h q =
        let same : pad_of odd + 2 ≡ at = cc in
        let room : pad_of odd + 2 ≤ length area = ltb-false (length area) (pad_of odd + 2) h in
        omega arith
