-- `program_text::put_line` meets its contract: the label, the number and the end of the line are put one behind the other.
use Rattle.program_text.proofs.Puts.{put-append, put-room}
use Rattle.program_text.proofs.put_line.Goals as goal

pub put_decimal-numbered-requires : goal.put_decimal-numbered-requires
put_decimal-numbered-requires c = put-room c.requires c.put-named.ensures

pub put-requires : goal.put-requires
put-requires c = let h = c.requires in
    put-room h (put-append h c.put-named.ensures c.put_decimal-numbered.ensures)

pub returns : goal.returns
returns c = let h = c.requires in
    put-append h (put-append h c.put-named.ensures c.put_decimal-numbered.ensures) c.put.ensures
