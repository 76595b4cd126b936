-- `list_encoding::check::whole` meets its contract: a body of at most 252 bytes has the short form.
use mathlib.Core.Path.{refl, sym}
use Rattle.list_encoding.proofs.Checks.{length-short, length-extended}
use Rattle.list_encoding.proofs.check.whole.Goals as goal

pub returns-then-body-le-LONGEST_SHORT_BODY : goal.returns-then-body-le-LONGEST_SHORT_BODY
returns-then-body-le-LONGEST_SHORT_BODY c = (sym (length-short _ c.if-body-le-LONGEST_SHORT_BODY.true), refl)

pub returns : goal.returns
returns c = (sym (length-extended _ c.if-body-le-LONGEST_SHORT_BODY.false), refl)
