-- The first option of a list behind its NOPs, and where it stands (document 02, R-7).
use Rattle.std.specs.Prelude.{Option, Some, None, List, ℕ, drop}
use Rattle.wire_nops.specs.Nops.{nops_of}
use Rattle.wire_step.specs.Step.{step_of}
use Rattle.wire_step.specs.declared.Step.{Step}
use Rattle.wire_step.specs.declared.Step.TheVariants.{End, Eol, Nop, Found as OptionStep, Malformed, Outlawed}
use Rattle.wire_offsets.specs.declared.Found.{Found}

-- by the step that is met `at` bytes into the list
abbrev pub next_by : ℕ → Step → Option Found
next_by at (OptionStep kind header size) = Some (record { at = at; header = header; kind = kind; size = size })
next_by at End = None
next_by at Eol = None
next_by at Nop = None
next_by at Malformed = None
next_by at Outlawed = None

unfoldable pub next_of : List ℕ → Option Found
next_of l = next_by (nops_of l) (step_of (drop (nops_of l) l))
