-- `client_held_test::sweep` meets its contract: the loop's invariant says what the pass has found in the first `i` fragments (`Sofar`).
use Prim.Native.Nat.{ℕ, ◌+◌, ◌<◌}
use mathlib.Core.Bool.{Bool, true, false, not, ◌&&◌, ◌||◌}
use mathlib.Core.Path.{◌≡◌, refl, sym, ap, ap₂, ◌∙◌}
use mathlib.Core.List.{List, []}
use native.Mathlib.Omega.{arith}
use borrow.Author.Rules.{rules}
use borrow.Author.Tests.{leb-true, leb-false, le-ltb, lt-ltb}
use lib.Bits.{bit_or}
use lib.Dec.{eqb, leb, ltb}
use lib.ListN.{length, take, get_or}
use Rattle.number_octets.proofs.ZeroBytes.{or-zero}
use Rattle.client_record.specs.declared.Fragment.{Fragment}
use Rattle.client_record.specs.Lists.{all, any, sum}
use Rattle.client_record.specs.Record.{is_last, end, non_empty, held_fragments}
use Rattle.client_record.proofs.Held.{none, held_at}
use Rattle.client_record.proofs.Lists.{all-next, any_next, sum-next}
use Rattle.client_held_test.specs.Held.{rises_from, behind}
use Rattle.client_held_test.proofs.OnePass.{rises_next, behind-next}
use Rattle.client_held_test.proofs.sweep.Goals as goal
use Rattle.client_held_test.proofs.sweep.Invariants.{Sofar}

not-both : (a b : Bool) → not a || not b ≡ not (a && b)
not-both true b = refl
not-both false b = refl

neither : (a b : Bool) → not a && not b ≡ not (a || b)
neither true b = refl
neither false b = refl

not-not : (a : Bool) → not (not a) ≡ a
not-not true = refl
not-not false = refl

lt_not : (a b : ℕ) → ltb a b ≡ not (leb b a)
lt_not a b = go (leb b a) refl
  where
    go : (t : Bool) → leb b a ≡ t → ltb a b ≡ not t
    go true e = le-ltb a b (leb-true b a e)
    go false e = lt-ltb a b (leb-false b a e)

-- ---- what is known of the first fragments

module _ (l : List Fragment) (i : ℕ) (h : i < length l) {empty falls : Bool} {marks far total : ℕ}
    (s : Sofar (take i l) empty falls marks far total) where
  sofar-next : Sofar (take (i + 1) l) (empty || eqb (get_or l i none).length 0) (falls || ltb (get_or l i none).offset far)
      (bit_or marks (get_or l i none).last) (end (get_or l i none)) (total + (get_or l i none).length)
  unfolding non_empty is_last
  sofar-next = record {
    empty_is = ap₂ ◌||◌ s.empty_is (sym (not-not (eqb (get_or l i none).length 0)))
        ∙ not-both (all non_empty (take i l)) (non_empty (get_or l i none)) ∙ ap not (sym (all-next l i none h non_empty));
    falls_is = ap₂ ◌||◌ s.falls_is (lt_not (get_or l i none).offset far ∙ ap (λ (b : ℕ). not (leb b (get_or l i none).offset)) s.far_is)
        ∙ not-both (rises_from 0 (take i l)) (leb (behind 0 (take i l)) (get_or l i none).offset) ∙ ap not (sym (rises_next l i none h));
    marks_is = or-zero marks (get_or l i none).last
        ∙ ap₂ ◌&&◌ s.marks_is (sym (not-not (eqb (get_or l i none).last 0)))
        ∙ neither (any is_last (take i l)) (is_last (get_or l i none)) ∙ ap not (sym (any_next l i none h is_last));
    far_is = sym (behind-next l i none h);
    total_is = ap (λ (x : ℕ). x + (get_or l i none).length) s.total_is ∙ sym (sum-next l i none h (λ f. f.length));
  }

sofar-none : Sofar [] false false 0 0 0
unfolding all any rises_from sum behind
sofar-none = record { empty_is = refl; falls_is = refl; marks_is = refl; far_is = refl; total_is = refl }

pub loop-i-init : goal.loop-i-init
loop-i-init c = (sofar-none, search rules)

pub loop-i-preserved : goal.loop-i-preserved
loop-i-preserved c = let a = c.args.a in
    let h : c.loop-i.i < length (held_fragments a) = omega (arith, c.requires.count) in
    let same = held_at a c.loop-i.i none h in (
      rw (c.past_of-behind.ensures.value, same) (sofar-next (held_fragments a) c.loop-i.i h c.loop-i.invariant.0),
      search rules,
    )
