-- `program_lines::put_number` meets its contract: a blank is put and then the number.
use Rattle.program_text.proofs.Puts.{put-append, put-room}
use Rattle.program_lines.proofs.put_number.Goals as goal

pub put_decimal-requires : goal.put_decimal-requires
put_decimal-requires c = put-room c.requires c.put-end.ensures

pub returns : goal.returns
returns c = put-append c.requires c.put-end.ensures c.put_decimal.ensures
