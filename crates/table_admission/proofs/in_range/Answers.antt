-- `table_admission::in_range` meets its contract.
use borrow.Author.Tests.{le-leb, lt-leb}
use Rattle.client_record.specs.Limits.{assembly_limit}
use Rattle.table_rules.specs.Table.{in_range}
use Rattle.table_admission.proofs.in_range.Goals as goal

pub returns-then-plan-ge1 : goal.returns-then-plan-ge1
unfolding in_range assembly_limit
returns-then-plan-ge1 c = simp (le-leb _ _ c.if-plan-ge1.true)

pub returns-else-plan-ge1 : goal.returns-else-plan-ge1
unfolding in_range
returns-else-plan-ge1 c = simp (lt-leb _ _ c.if-plan-ge1.false)
