-- `program_text::put_offset` meets its contract: the line's end is a label and a number.
use Rattle.program_text.specs.Offsets.{at_offset}
use Rattle.program_text.proofs.put_offset.Goals as goal

pub returns : goal.returns
unfolding at_offset
returns c = c.put_line.ensures
