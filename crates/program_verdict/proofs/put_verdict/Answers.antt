-- `program_verdict::put_verdict` meets its contract: the label, the word and the end of the line are put one behind the other.
use mathlib.Core.Path.{ap}
use Rattle.program_verdict.specs.Words.{end_by, verdict_line}
use Rattle.program_text.proofs.Puts.{put_as, put-append, put-room}
use Rattle.program_verdict.proofs.put_verdict.Goals as goal

pub put-judged-requires : goal.put-judged-requires
put-judged-requires c = put-room c.requires c.put-named.ensures

pub put_end-requires : goal.put_end-requires
put_end-requires c = let h = c.requires in
    put-room h (put-append h c.put-named.ensures (put_as c.word_of.ensures c.put-judged.ensures))

pub returns : goal.returns
unfolding verdict_line
returns c = let h = c.requires in
    put-append h (put-append h c.put-named.ensures (put_as c.word_of.ensures c.put-judged.ensures))
    (put_as (ap end_by c.fault_at.ensures) c.put_end.ensures)
