-- `program_report::put_reading` meets its contract: the two lines are put one behind the other, and the branch knows whether the options follow.
use mathlib.Core.Path.{sym, ◌∙◌}
use Prim.Native.Nat.{◌≤◌}
use native.Mathlib.Omega.{arith}
use lib.ListN.{length}
use Rattle.program_report.specs.Report.{number_line}
use Rattle.program_text.proofs.Puts.{put_as, put-append, put-room}
use Rattle.program_report.proofs.Sounds.{text-read, text-other}
use Rattle.program_report.proofs.put_reading.Goals as goal

pub put_verdict-judged-requires : goal.put_verdict-judged-requires
put_verdict-judged-requires c = put-room (omega arith) c.put_line-counted.ensures

pub put_listing-requires : goal.put_listing-requires
put_listing-requires c = let h : 0 ≤ length c.args.text.now = omega arith in (
  put-room h (put-append h c.put_line-counted.ensures c.put_verdict-judged.ensures),
  c.requires.options (sym c.is_read.ensures ∙ c.if-is_read.true),
)

pub returns-then-is_read : goal.returns-then-is_read
unfolding number_line
returns-then-is_read c = let a = c.args in
    let h : 0 ≤ length a.text.now = omega arith in
    put_as (text-read a.payload.now a.reading (sym c.is_read.ensures ∙ c.if-is_read.true))
    (put-append h (put-append h c.put_line-counted.ensures c.put_verdict-judged.ensures) c.put_listing.ensures)

pub returns : goal.returns
unfolding number_line
returns c = let a = c.args in
    let h : 0 ≤ length a.text.now = omega arith in
    put_as (text-other a.payload.now a.reading (sym c.is_read.ensures ∙ c.if-is_read.false))
    (put-append h c.put_line-counted.ensures c.put_verdict-judged.ensures)
