-- `program_lines::put_item` meets its contract: label, kind, fields and the offset are put one behind the other.
use Rattle.program_lines.specs.Lines.{option_line}
use Rattle.program_text.proofs.Puts.{put-append, put-room}
use Rattle.program_lines.proofs.put_item.Goals as goal

pub put_decimal-numbered-requires : goal.put_decimal-numbered-requires
put_decimal-numbered-requires c = put-room c.requires.0 c.put-named.ensures

pub put_fields-shown-requires : goal.put_fields-shown-requires
put_fields-shown-requires c = let p = c.requires in
    (put-room p.0 (put-append p.0 c.put-named.ensures c.put_decimal-numbered.ensures), p.1)

pub put_offset-requires : goal.put_offset-requires
put_offset-requires c = let h = c.requires.0 in
    put-room h (put-append h (put-append h c.put-named.ensures c.put_decimal-numbered.ensures) c.put_fields-shown.ensures)

pub returns : goal.returns
unfolding option_line
returns c = let h = c.requires.0 in
    let named = put-append h c.put-named.ensures c.put_decimal-numbered.ensures in
    put-append h (put-append h named c.put_fields-shown.ensures) c.put_offset.ensures
