-- `number_sets::fill` meets its contract. The loop's invariant: the numbers of the words so far are in, and `seen` is 0 exactly where none of them was.
use Prim.Native.Nat.{◌*◌}
use native.Mathlib.Omega.{arith}
use lib.ListN.{get_or}
use Rattle.number_octets.proofs.ZeroBytes.{or-zero}
use Rattle.number_sets.proofs.Sets.{included-none, full-included, then}
use Rattle.number_sets.proofs.fill.Goals as goal

pub loop-w-init : goal.loop-w-init
loop-w-init c = included-none c.args.words.now (64 * c.args.from)

pub loop-w-preserved : goal.loop-w-preserved
loop-w-preserved c = let ws = c.loop-w.words in
    let w = c.loop-w.w in
    let known = c.slice_known-1.given w in
    let one = full-included ws w (omega arith) (omega arith) in
    let both = then (omega arith) (omega arith) c.loop-w.invariant one in
    rw (or-zero c.loop-w.seen (get_or ws w 0)) both
