-- `table_admission::admit` meets its contract. The loop's invariant: the plans of the first i records are in range, and their places and those
-- before client k's are counted (`Surveyed`).
use mathlib.Core.Path.{refl, sym, ◌∙◌}
use native.Mathlib.Omega.{arith}
use Rattle.client_record.specs.Limits.{assembly_limit, client_limit}
use Rattle.table_rules.proofs.Facts.{few-clients}
use Rattle.table_admission.proofs.Surveys.{
  lies-before,
  lies-behind,
  surveyed-none,
  surveyed-next,
  surveyed-off,
  surveyed-all,
  laid-places,
  admits-count,
  admits-plan,
  admits-store,
}
use Rattle.table_admission.proofs.admit.Goals as goal
use Rattle.table_admission.proofs.admit.Goals.{then-i-k, else-i-k}

pub returns-then-not-counted : goal.returns-then-not-counted
returns-then-not-counted c = admits-count _ _ (sym c.counted.ensures ∙ c.if-not-counted.true)

pub loop-i-init : goal.loop-i-init
loop-i-init c = surveyed-none _ _

pub returns-then-not-in_range : goal.returns-then-not-in_range
returns-then-not-in_range c = admits-plan _ _ (sym c.counted.ensures ∙ c.if-not-counted.false)
    (surveyed-off _ _ _ _ _ _ c.loop-i.invariant c.loop-i-test.true (sym c.in_range.ensures ∙ c.if-not-in_range.true))

pub overflow_add-before : goal.overflow_add-before
unfolding assembly_limit client_limit
overflow_add-before c =
    let next = surveyed-next _ _ _ _ _ _ c.loop-i.invariant c.loop-i-test.true _ (lies-before _ _ _ _ c.if-i-k.true) (sym c.in_range.ensures ∙ c.if-not-in_range.false) in
    omega (arith, few-clients _ (sym c.counted.ensures ∙ c.if-not-counted.false), next.front, next.few, next.part)

pub overflow_add-places : goal.overflow_add-places
unfolding assembly_limit client_limit
overflow_add-places c =
    let next = surveyed-next _ _ _ _ _ _ c.loop-i.invariant c.loop-i-test.true _ refl (sym c.in_range.ensures ∙ c.if-not-in_range.false) in
    omega (arith, few-clients _ (sym c.counted.ensures ∙ c.if-not-counted.false), next.front, next.few)

pub loop-i-preserved : goal.loop-i-preserved
loop-i-preserved c = surveyed-next _ _ _ _ _ _ c.loop-i.invariant c.loop-i-test.true _
    (elim c.if-i-k.branch [
      | then-i-k w ↦ w.before-is ∙ lies-before _ _ _ _ w.if-i-k.true
      | else-i-k w ↦ w.before-is ∙ lies-behind _ _ _ _ w.if-i-k.false
    ])
    (sym c.in_range.ensures ∙ c.if-not-in_range.false)

pub by_store-requires : goal.by_store-requires
by_store-requires c = laid-places _ _ _ _ _ c.loop-i.invariant
    (omega (arith, c.loop-i.invariant.front, few-clients _ (sym c.counted.ensures ∙ c.if-not-counted.false)))

pub returns : goal.returns
returns c = let laid = surveyed-all _ _ _ _ _ c.loop-i.invariant c.loop-i-test.false in
    admits-store _ _ _ _ _ (sym c.counted.ensures ∙ c.if-not-counted.false) laid.ranged laid.shares laid.start c.by_store.ensures
