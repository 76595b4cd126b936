-- `program_verdict::put_end` meets its contract: the arm knows whether there is an offset, at which `end_by` computes.
use mathlib.Core.Path.{sym, ap}
use Rattle.program_verdict.specs.Words.{end_by}
use Rattle.program_text.proofs.Puts.{put_as}
use Rattle.program_verdict.proofs.put_end.Goals as goal

pub returns-in-Some : goal.returns-in-Some
returns-in-Some c = put_as (ap end_by (sym c.in-Some.is)) c.put_offset.ensures

pub returns-in-None : goal.returns-in-None
returns-in-None c = put_as (ap end_by (sym c.in-None.is)) c.put.ensures
