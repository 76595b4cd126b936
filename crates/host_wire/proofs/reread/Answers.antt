-- `host_wire::reread` meets its contract: the value of the rereading.
use mathlib.Core.Path.{ap, ◌∙◌}
use Rattle.wire_nops.specs.declared.Strictness.{Strictness}
use Rattle.wire_original.specs.Rereading.{rereading}
use Rattle.host_rereadings.specs.Rereading.{host_rereading}
use Rattle.host_wire.proofs.reread.Goals as goal

pub returns : goal.returns
returns c = let a = c.args in
    c.from.ensures
    ∙ ap host_rereading (c.reread.ensures
    ∙ ap (λ (how : Strictness). rereading how a.original.now a.option_start.0) c.strictness_for.ensures)
