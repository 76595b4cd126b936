-- `wire_nops::is_padded` meets its contract, at the setting that the arm knows.
use mathlib.Core.Path.{sym, ap, ◌∙◌}
use Rattle.wire_nops.specs.Nops.{nops_of, is_padding}
use Rattle.wire_nops.specs.declared.Strictness.{Strictness}
use Rattle.wire_nops.proofs.is_padded.Goals as goal

pub returns-in-Strict : goal.returns-in-Strict
returns-in-Strict c = let a = c.args in
    c.starts_padded.ensures ∙ sym (ap (λ (s : Strictness). is_padding s (nops_of a.list.now)) c.in-Strict.is)
