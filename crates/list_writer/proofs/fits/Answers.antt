-- `list_writer::fits` meets its contract: the sum of the parts passes the limit where one part does.
use native.Mathlib.Omega.{arith}
use Rattle.list_writer.proofs.Outcomes.{over-limit, within-limit}
use Rattle.list_writer.proofs.fits.Goals as goal

pub returns-then-data-gt-PAYLOAD_LIMIT : goal.returns-then-data-gt-PAYLOAD_LIMIT
returns-then-data-gt-PAYLOAD_LIMIT c = over-limit _ _ (omega arith)

pub returns-then-options-gt-PAYLOAD_LIMIT : goal.returns-then-options-gt-PAYLOAD_LIMIT
returns-then-options-gt-PAYLOAD_LIMIT c = over-limit _ _ (omega arith)

pub returns-then-total-gt-PAYLOAD_LIMIT : goal.returns-then-total-gt-PAYLOAD_LIMIT
returns-then-total-gt-PAYLOAD_LIMIT c = over-limit _ _ (omega arith)

pub returns : goal.returns
returns c = within-limit _ _ (omega arith)
