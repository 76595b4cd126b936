-- `client_reassembly::total_lost` meets its contract: the loop's invariant says that `total` is the sum over the first assemblies (`sum-next`).
use mathlib.Core.Path.{refl, sym, ap₂, ◌∙◌}
use Prim.Native.Nat.{◌+◌}
use borrow.Author.Rules.{rules}
use native.Mathlib.Omega.{arith}
use Rattle.client_record.proofs.Lists.{sum-next}
use Rattle.client_record.proofs.Shapes.{places}
use Rattle.client_record.specs.Limits.{assembly_limit}
use Rattle.client_record.specs.Lists.{sum}
use Rattle.client_reassembly.specs.Advance.{lost}
use Rattle.client_reassembly.proofs.total_lost.Goals as goal

pub loop-a-init : goal.loop-a-init
unfolding sum
loop-a-init c = (refl, search rules)

pub loop-a-preserved : goal.loop-a-preserved
unfolding assembly_limit
loop-a-preserved c = let long = places c.args.c _ c.well_formed.0 in (
  ap₂ ◌+◌ c.loop-a.invariant.0 (c.from-total.ensures ∙ c.bytes_lost.ensures)
      ∙ sym (sum-next c.args.c.assemblies c.loop-a.a-index _ (omega (arith, long, c.loop-a-test.true)) (lost c.args.time)),
  omega arith,
)
