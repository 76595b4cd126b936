-- `list_wire::apc::has_apc` meets its contract. The loop's invariant: no option that was passed is an APC, so those to come decide.
use mathlib.Core.Path.{◌≡◌, sym, ap, ◌∙◌}
use mathlib.Core.Bool.{Bool, true, cond}
use mathlib.Core.List.{List}
use Prim.Native.Nat.{ℕ, ◌+◌, ◌-◌}
use native.Mathlib.Omega.{arith}
use lib.ListN.{drop}
use Rattle.list_entry.specs.Option.{read_option}
use Rattle.list_wire.specs.Parts.{left_behind, apcs_read}
use Rattle.list_wire.proofs.Listed.{apc-turn, apc-none}
use Rattle.list_wire.proofs.apc.has_apc.Goals as goal

pub returns-then-seen : goal.returns-then-seen
returns-then-seen c = let r : List ℕ = drop c.loop.from c.args.list.now in
    let left : ℕ = c.args.count - c.loop.counter in
    let rest : Bool = apcs_read (left - 1) (left_behind r (read_option r)) in
    let here = c.loop.invariant ∙ apc-turn left r (omega (arith, c.loop-test.true)) in
    sym (here ∙ ap (λ (b : Bool). cond b true rest) (sym c.look-seen.ensures.wanted ∙ c.if-seen.true))

pub loop-preserved : goal.loop-preserved
loop-preserved c = let r : List ℕ = drop c.loop.from c.args.list.now in
    let seen = c.look-seen.ensures in
    let left : ℕ = c.args.count - c.loop.counter in
    let rest : Bool = apcs_read (left - 1) (left_behind r (read_option r)) in
    let here = c.loop.invariant ∙ apc-turn left r (omega (arith, c.loop-test.true)) in
    let less : left - 1 ≡ c.args.count - (c.loop.counter + 1) = omega arith in
    here ∙ ap (λ (b : Bool). cond b true rest) (sym seen.wanted ∙ c.if-seen.false) ∙ ap (apcs_read (left - 1)) (sym seen.left)
    ∙ ap (λ (n : ℕ). apcs_read n (drop c.look-seen.result.next c.args.list.now)) less

pub returns : goal.returns
returns c = sym (c.loop.invariant
    ∙ apc-none (c.args.count - c.loop.counter) (drop c.loop.from c.args.list.now) (omega (arith, c.loop-test.false)))
