-- `wire_options::walk::end_at` meets its contract: the test of the bytes is the definition's.
use mathlib.Core.Path.{sym, ap, ◌∙◌}
use mathlib.Core.Bool.{Bool, cond}
use lib.ListN.{length}
use Rattle.number_octets.specs.Zeros.{zeros_of}
use Rattle.wire_options.specs.declared.walk.Fault.TheVariants.{Tail}
use Rattle.wire_options.specs.declared.walk.Progress.TheVariants.{Ended}
use Rattle.wire_options.specs.Progress.{failed}
use Rattle.std.proofs.Common.{Ok}
use Rattle.wire_options.proofs.walk.end_at.Goals as goal

pub returns-then-all_zero : goal.returns-then-all_zero
returns-then-all_zero c = let a = c.args in
    sym (ap (λ (t : Bool). cond t (Ok (Ended (length a.rest.now))) (failed Tail (zeros_of a.rest.now))) (sym c.all_zero.ensures ∙ c.if-all_zero.true))

pub returns : goal.returns
returns c = let a = c.args in
    ap (failed Tail) c.leading_zeros-zeros.ensures.0
    ∙ sym (ap (λ (t : Bool). cond t (Ok (Ended (length a.rest.now))) (failed Tail (zeros_of a.rest.now))) (sym c.all_zero.ensures ∙ c.if-all_zero.false))
