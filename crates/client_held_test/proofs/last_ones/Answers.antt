-- `client_held_test::last_ones` meets its contract: the loop's invariant says that each number is the sum over the first `i` fragments (`sum-next`).
use Prim.Native.Nat.{ℕ, ◌+◌, ◌^◌, ◌<◌}
use mathlib.Core.Bool.{Bool, cond}
use mathlib.Core.Path.{◌≡◌, refl, sym, ap, subst, ◌∙◌}
use mathlib.Core.List.{List}
use native.Mathlib.Omega.{arith}
use borrow.Author.Rules.{rules}
use lib.ListN.{length, take, get_or}
use Rattle.number_tests.proofs.Tests.{cond_either}
use Rattle.client_record.specs.declared.Fragment.{Fragment}
use Rattle.client_record.specs.Lists.{sum}
use Rattle.client_record.specs.Record.{is_last, end, held_fragments}
use Rattle.client_record.proofs.Held.{none, held_at}
use Rattle.client_record.proofs.Lists.{sum-next}
use Rattle.client_held_test.specs.Held.{last_sum}
use Rattle.client_held_test.proofs.last_ones.Goals as goal

-- one more fragment
module _ (l : List Fragment) (i : ℕ) (h : i < length l) (g : Fragment → ℕ) where
  sum_more : {s : ℕ} → s ≡ last_sum g (take i l) → s + cond (is_last (get_or l i none)) (g (get_or l i none)) 0 ≡ last_sum g (take (i + 1) l)
  unfolding last_sum
  sum_more e = ap (λ (x : ℕ). x + cond (is_last (get_or l i none)) (g (get_or l i none)) 0) e ∙ sym (sum-next l i none h (λ f. cond (is_last f) (g f) 0))

-- a number that is chosen or left out is under what both are under
under : {r x m : ℕ} (b : Bool) → r ≡ cond b x 0 → x < m → r < m
under {r} {x} {m} b e h = subst (λ (y : ℕ). y < m) (sym e) (cond_either (λ (y : ℕ). y < m) b x 0 h (omega arith))

pub loop-i-init : goal.loop-i-init
unfolding last_sum sum
loop-i-init c = (refl, refl, refl, search rules, search rules, search rules)

pub loop-i-preserved : goal.loop-i-preserved
loop-i-preserved c = let a = c.args.a in
    let h : c.loop-i.i < length (held_fragments a) = omega (arith, c.requires.count) in
    let same = held_at a c.loop-i.i none h in
    let mark = c.is_last-last.ensures ∙ ap is_last same in
    let past = c.past_of.ensures.value ∙ ap end same in
    let few = under {m = 2} c.is_last-last.result c.chosen-count.ensures (omega arith) in
    let near = under {m = 2 ^ 17} c.is_last-last.result c.chosen-past.ensures c.past_of.ensures.small in
    let small = under {m = 2 ^ 16} c.is_last-last.result c.chosen-options.ensures (omega arith) in (
      rw (c.chosen-count.ensures, mark) (sum_more (held_fragments a) c.loop-i.i h (λ f. 1) c.loop-i.invariant.0),
      rw (c.chosen-past.ensures, mark, past) (sum_more (held_fragments a) c.loop-i.i h end c.loop-i.invariant.1),
      rw (c.chosen-options.ensures, mark, same) (sum_more (held_fragments a) c.loop-i.i h (λ f. f.option_start) c.loop-i.invariant.2),
      omega arith,
      omega arith,
      omega arith,
    )
