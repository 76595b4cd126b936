-- `program_printout::print` meets its contract: the input's length decides the text, and the lent text has room for it.
use Rattle.program_printout.specs.Input.{text_limit}
use Rattle.program_report.specs.Report.{number_line}
use Rattle.program_printout.proofs.Inputs.{input-holds, input-short, input-long}
use borrow.Author.Rules.{rules}
use Rattle.program_printout.proofs.print.Goals as goal

pub returns-then-input-lt-ADDRESSES : goal.returns-then-input-lt-ADDRESSES
unfolding number_line text_limit
returns-then-input-lt-ADDRESSES c = let a = c.args in
    input-holds a.input.now (search rules) (input-short a.input.now c.if-input-lt-ADDRESSES.true) c.put_line.ensures

pub returns : goal.returns
unfolding text_limit
returns c = let a = c.args in
    input-holds a.input.now (search rules) (input-long a.input.now c.if-input-lt-ADDRESSES.false) c.report.ensures
