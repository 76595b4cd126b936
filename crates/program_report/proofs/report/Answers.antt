-- `program_report::report` meets its contract: the arm knows the answer of the reading, at which the text computes.
use mathlib.Core.Path.{sym, ap, ◌∙◌}
use Rattle.wire_nops.specs.declared.Strictness.TheVariants.{Plain}
use Rattle.program_report.specs.Words.{refused_word}
use Rattle.program_report.specs.Report.{number_line, answer_text, report_of}
use Rattle.program_text.proofs.Puts.{put_as}
use Rattle.program_report.proofs.Sounds.{reading-sound}
use Rattle.program_report.proofs.report.Goals as goal

pub put_reading-requires : goal.put_reading-requires
put_reading-requires c = let a = c.args in
    reading-sound Plain a.payload.now a.source a.destination _ (sym c.in-Ok.ensures)

pub returns-in-Ok : goal.returns-in-Ok
unfolding report_of
returns-in-Ok c = put_as (ap (answer_text c.args.payload.now) c.in-Ok.ensures) c.put_reading.ensures

pub returns-in-Err : goal.returns-in-Err
unfolding report_of number_line
returns-in-Err c =
    put_as (ap (number_line refused_word) c.from.ensures ∙ ap (answer_text c.args.payload.now) c.in-Err.ensures) c.put_line.ensures
