-- `list_encoding::check::check_options` meets its contract. The loop's invariant: what the whole comes to is what the options still to come come to, behind
-- those that were passed. Assumes nothing.
use mathlib.Core.Path.{◌≡◌, sym, ap, ap₂, ◌∙◌}
use Prim.Native.Nat.{ℕ, ◌+◌, ◌-◌}
use native.Mathlib.Omega.{arith}
use lib.ListN.{drop}
use Rattle.std.proofs.Common.{Err}
use Rattle.std.proofs.lemmas.Result.{err_from_is_err_and}
use Rattle.list_encoding.specs.Encoding.{given}
use Rattle.list_encoding.specs.Wire.{checked_answer}
use Rattle.list_encoding.proofs.Checks.{sized-there, refused-there, checked, passed, check-left, check-end, turn_on, turn-refused}
use Rattle.list_encoding.proofs.check.check_options.Goals as goal
use Rattle.list_encoding.proofs.check.check_options.Goals.{Else-at-list, Then-at-list}

-- after the loop no option is left
ended : (c : Then-at-list) → let a = c.args in
    checked a.count (drop a.start a.list.now) ≡ passed c.loop.counter c.loop.size (checked 0 (drop c.loop.at a.list.now))
ended c =
    let a = c.args in
    let none : a.count - c.loop.counter ≡ 0 = omega (arith, c.loop-test.false) in
    c.loop.invariant.1 ∙ ap (λ (n : ℕ). passed c.loop.counter c.loop.size (checked n (drop c.loop.at a.list.now))) none

-- after the loop no option is left
ended-2 : (c : Else-at-list) → let a = c.args in
    checked a.count (drop a.start a.list.now) ≡ passed c.loop.counter c.loop.size (checked 0 (drop c.loop.at a.list.now))
ended-2 c =
    let a = c.args in
    let none : a.count - c.loop.counter ≡ 0 = omega (arith, c.loop-test.false) in
    c.loop.invariant.1 ∙ ap (λ (n : ℕ). passed c.loop.counter c.loop.size (checked n (drop c.loop.at a.list.now))) none

pub returns-in_err-option : goal.returns-in_err-option
returns-in_err-option c =
    let p = err_from_is_err_and c.from_residual.result c.from_residual.ensures.1 in
    ap checked_answer (p.1 ∙ ap Err p.2)
    ∙ sym (turn-refused c.args.list.now c.loop.at c.args.count c.loop.counter c.loop.size _ c.loop.invariant.1 c.loop-test.true
    (refused-there _ _ _ (sym c.in_err-option.ensures)))

pub overflow_add-size : goal.overflow_add-size
overflow_add-size c = let o = sized-there _ _ _ _ (sym c.in_ok-option.ensures) in
    omega (arith, o.small, c.loop.invariant.0, c.loop-test.true, c.requires)

pub loop-preserved : goal.loop-preserved
loop-preserved c = let o = sized-there _ _ _ _ (sym c.in_ok-option.ensures) in (
  omega (arith, o.small, c.loop.invariant.0),
  turn_on _ _ _ _ c.loop.invariant.1 c.loop-test.true o,
)

pub returns-then-at-list : goal.returns-then-at-list
returns-then-at-list c = let a = c.args in
    sym (ended c ∙ ap (passed c.loop.counter c.loop.size) (check-left a.list.now c.loop.at c.if-at-list.true))

pub returns : goal.returns
returns c = let a = c.args in
    let all : c.loop.counter + 0 ≡ a.count = omega (arith, c.loop-test.false, c.loop.auto.counter-end) in
    let size : c.loop.size + 0 ≡ c.loop.size = omega arith in
    sym (ended-2 c ∙ ap (passed c.loop.counter c.loop.size) (check-end a.list.now c.loop.at c.if-at-list.false)
    ∙ ap₂ (λ (n k : ℕ). given (record { count = n; size = k })) all size)
