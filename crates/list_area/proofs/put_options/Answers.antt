-- `list_area::put_options` meets its contract. The loop's invariant: what was laid, with the options still to come, is the whole.
use mathlib.Core.Path.{◌≡◌, sym, ap, ◌∙◌}
use mathlib.Core.List.{List, ◌++◌, append-nil}
use Prim.Native.Nat.{ℕ, ◌+◌, ◌-◌}
use native.Mathlib.Omega.{arith}
use lib.ListN.{drop}
use Rattle.list_entry.specs.Option.{read_option}
use Rattle.list_wire.specs.Parts.{wire_read, wires_read}
use Rattle.list_wire.proofs.Laying.{laid_as}
use Rattle.list_wire.proofs.Listed.{turn-room, turn-laid, turn-rest, turn-none}
use Rattle.list_area.proofs.put_options.Goals as goal

pub put_entry-passed-requires : goal.put_entry-passed-requires
put_entry-passed-requires c = turn-room c.args.crc (c.args.count - c.loop.counter) (drop c.loop.from c.args.list.now) _ (omega (arith, c.loop-test.true))
    c.loop.invariant.1 c.loop.invariant.2 c.requires

pub loop-preserved : goal.loop-preserved
loop-preserved c = let a = c.args in
    let left : ℕ = a.count - c.loop.counter in
    let r : List ℕ = drop c.loop.from a.list.now in
    let next : List ℕ = drop c.put_entry-passed.result.next a.list.now in
    let w : List ℕ = wire_read a.crc (read_option r) in
    let done : List ℕ = c.loop.invariant.0 in
    let put = c.put_entry-passed.ensures in
    let less : a.count - (c.loop.counter + 1) ≡ left - 1 = omega arith in (
      done ++ w,
      turn-laid a.crc left r _ (omega (arith, c.loop-test.true)) c.loop.invariant.1 c.loop.invariant.2 c.requires put.laid,
      ap (λ (n : ℕ). (done ++ w) ++ wires_read a.crc n next) less
          ∙ ap (λ (x : List ℕ). (done ++ w) ++ wires_read a.crc (left - 1) x) put.left
          ∙ turn-rest a.crc left r _ (omega (arith, c.loop-test.true)) c.loop.invariant.1 c.loop.invariant.2 c.requires,
    )

pub returns : goal.returns
returns c = let done : List ℕ = c.loop.invariant.0 in
    let none = turn-none c.args.crc (c.args.count - c.loop.counter) (drop c.loop.from c.args.list.now) (omega (arith, c.loop-test.false)) in
    laid_as (sym (append-nil done) ∙ ap (λ (x : List ℕ). done ++ x) (sym none) ∙ c.loop.invariant.2) c.loop.invariant.1
