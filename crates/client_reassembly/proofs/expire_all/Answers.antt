-- `client_reassembly::expire_all` meets its contract: each assembly is replaced in its place (`mapped_in_place`), and one that is not old is as it was.
use mathlib.Core.Path.{sym, ap, ◌∙◌}
use lib.ListN.{set}
use lib.Seq.{set-get_or}
use Rattle.number_tests.proofs.Tests.{cond_yes, cond_no}
use native.Mathlib.Omega.{arith}
use Rattle.client_record.proofs.Shapes.{places}
use Rattle.client_record.specs.Limits.{assembly_limit}
use Rattle.client_record.specs.Record.{fresh_assembly}
use Rattle.client_reassembly.proofs.Laws.{mapped_in_place}
use Rattle.client_reassembly.specs.Advance.{old, expire}
use Rattle.client_reassembly.proofs.expire_all.Goals as goal
use Rattle.client_reassembly.proofs.expire_all.Goals.{then-old, else-old}

pub loop-i-preserved : goal.loop-i-preserved
unfolding expire assembly_limit
loop-i-preserved c =
    let long = places c.args.c _ c.well_formed.0 in
    let t = c.args.time in
    let i = c.loop-i.i in
    let ys = c.loop-i.kept in
    let more = mapped_in_place (expire t) c.args.c.assemblies ys i _ (omega (arith, long, c.loop-i-test.true)) c.loop-i.invariant in
    elim c.if-old.branch [
      | then-old w ↦
          w.kept-is
          ∙ ap (set ys i) (w.fresh_assembly.ensures ∙ sym (cond_yes (old t _) fresh_assembly _ (sym c.old.ensures ∙ w.if-old.true)))
          ∙ more
      | else-old w ↦
          w.kept-is
          ∙ sym (ap (set ys i) (cond_no (old t _) fresh_assembly _ (sym c.old.ensures ∙ w.if-old.false)) ∙ set-get_or ys i _)
          ∙ more
    ]
