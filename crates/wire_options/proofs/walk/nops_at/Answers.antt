-- `wire_options::walk::nops_at` meets its contract: the code asks for padding before it counts, as the definition does.
use mathlib.Core.Path.{sym, ap, ◌∙◌}
use mathlib.Core.Bool.{Bool, cond}
use Prim.Native.Nat.{ℕ}
use Rattle.wire_nops.specs.Nops.{nop_limit, nops_of}
use Rattle.wire_options.specs.declared.walk.Fault.TheVariants.{Padded}
use Rattle.wire_options.specs.declared.walk.Progress.TheVariants.{On}
use Rattle.wire_options.specs.Progress.{failed}
use Rattle.std.proofs.Common.{Ok}
use Rattle.wire_options.proofs.walk.nops_at.Goals as goal

pub returns-then-is_padded : goal.returns-then-is_padded
unfolding nop_limit
returns-then-is_padded c = let a = c.args in
    sym (ap (λ (t : Bool). cond t (failed Padded nop_limit) (Ok (On a.room (nops_of a.rest.now)))) (sym c.is_padded.ensures ∙ c.if-is_padded.true))

pub returns : goal.returns
returns c = let a = c.args in
    ap (λ (n : ℕ). Ok (On a.room n)) c.leading_nops-nops.ensures.0
    ∙ sym (ap (λ (t : Bool). cond t (failed Padded nop_limit) (Ok (On a.room (nops_of a.rest.now)))) (sym c.is_padded.ensures ∙ c.if-is_padded.false))
