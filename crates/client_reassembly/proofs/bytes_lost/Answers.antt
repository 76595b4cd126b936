-- `client_reassembly::bytes_lost` meets its contract: the branches are the definition's.
use Rattle.number_tests.proofs.Tests.{cond_yes, cond_no}
use Rattle.client_record.specs.Record.{bytes_held}
use Rattle.client_reassembly.specs.Advance.{old, lost}
use mathlib.Core.Path.{sym, ◌∙◌}
use Rattle.client_reassembly.proofs.bytes_lost.Goals as goal

pub returns-then-old : goal.returns-then-old
unfolding lost
returns-then-old c = let s = c.args in
    c.bytes_held.ensures ∙ sym (cond_yes (old s.time s.a) (bytes_held s.a) 0 (sym c.old.ensures ∙ c.if-old.true))

pub returns-else-old : goal.returns-else-old
unfolding lost
returns-else-old c = let s = c.args in
    sym (cond_no (old s.time s.a) (bytes_held s.a) 0 (sym c.old.ensures ∙ c.if-old.false))
