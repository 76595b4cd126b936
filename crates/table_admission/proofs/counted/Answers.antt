-- `table_admission::counted` meets its contract.
use borrow.Author.Tests.{le-leb, lt-leb}
use Rattle.client_record.specs.Limits.{client_limit}
use Rattle.table_rules.specs.Table.{counted}
use Rattle.table_admission.proofs.counted.Goals as goal

pub returns-then-count-ge1 : goal.returns-then-count-ge1
unfolding counted client_limit
returns-then-count-ge1 c = simp (le-leb _ _ c.if-count-ge1.true)

pub returns-else-count-ge1 : goal.returns-else-count-ge1
unfolding counted
returns-else-count-ge1 c = simp (lt-leb _ _ c.if-count-ge1.false)
