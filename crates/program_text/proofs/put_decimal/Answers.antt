-- `program_text::put_decimal` meets its contract. The loop's invariant: what is left of the number fills the places in front (`Writing`).
use mathlib.Core.Path.{◌≡◌, refl, ◌∙◌}
use mathlib.Core.List.{List}
use Prim.Native.Nat.{ℕ, ◌+◌, ◌-◌}
use native.Mathlib.Omega.{arith}
use lib.ListN.{take, drop, set, length-set, length-drop}
use lib.Seq.{take_all}
use Rattle.program_text.proofs.Puts.{put_as}
use Rattle.program_text.proofs.Decimals.{writing-first, writing_more, writing-last}
use Rattle.program_text.proofs.put_decimal.Goals as goal

pub loop-rest-init : goal.loop-rest-init
loop-rest-init c = writing-first c.args.n _ (omega arith) refl

pub bounds-digits-i : goal.bounds-digits-i
bounds-digits-i c = omega (arith, c.loop-rest.invariant.within)

pub overflow_sub-i : goal.overflow_sub-i
overflow_sub-i c = omega (arith, (writing_more c.loop-rest.i c.loop-rest.invariant c.loop-rest-test.true).0)

pub loop-rest-preserved : goal.loop-rest-preserved
loop-rest-preserved c = (writing_more c.loop-rest.i c.loop-rest.invariant c.loop-rest-test.true).1

pub bounds-digits-i-2 : goal.bounds-digits-i-2
bounds-digits-i-2 c = omega (arith, c.loop-rest.invariant.within)

pub slice_bounds-put-count : goal.slice_bounds-put-count
slice_bounds-put-count c = omega (arith, c.loop-rest.invariant.within)

pub returns : goal.returns
returns c = let w = c.loop-rest.invariant in
    let d : List ℕ = set c.loop-rest.digits c.loop-rest.i (48 + c.loop-rest.rest) in
    let all : take (20 - c.loop-rest.i) (drop c.loop-rest.i d) ≡ drop c.loop-rest.i d =
    take_all (20 - c.loop-rest.i) (drop c.loop-rest.i d) (simp (length-drop, length-set) (omega (arith, w.as_long))) in
    put_as (all ∙ writing-last c.loop-rest.i w c.loop-rest-test.false) c.put.ensures
