-- `program_lines::put_body` meets its contract: of an empty body nothing is put, else a blank and then the body.
use mathlib.Core.Path.{sym, ◌∙◌}
use Rattle.program_text.proofs.Puts.{put_as, put-none, put-append, put-room}
use Rattle.program_lines.proofs.Fields.{empty-body, some-body}
use Rattle.program_lines.proofs.put_body.Goals as goal

pub returns-then-is_empty : goal.returns-then-is_empty
returns-then-is_empty c = let a = c.args in
    put_as (empty-body a.body.now (sym c.is_empty.ensures ∙ c.if-is_empty.true)) (put-none a.text.now a.at)

pub put_hex-requires : goal.put_hex-requires
put_hex-requires c = put-room c.requires c.put-end.ensures

pub returns : goal.returns
returns c =
    put_as (some-body c.args.body.now (sym c.is_empty.ensures ∙ c.if-is_empty.false)) (put-append c.requires c.put-end.ensures c.put_hex.ensures)
