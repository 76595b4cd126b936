-- The walk in the reading that the host chose (document 02, R-6). The strict walk counts the NOPs in a row, and is "padded" at the eighth; "any other
-- option starts the count again". All else is the plain walk's.
use Rattle.std.specs.Prelude.{cond, List, [], ◌∷◌, ℕ, zero, suc, length}
use Rattle.wire_nops.specs.Nops.{is_padding}
use Rattle.wire_nops.specs.declared.Strictness.{Strictness}
use Rattle.wire_nops.specs.declared.Strictness.TheVariants.{Plain, Strict}
use Rattle.wire_step.specs.Step.{step_of}
use Rattle.wire_step.specs.declared.Step.{Step}
use Rattle.wire_step.specs.declared.Step.TheVariants.{End, Eol, Nop, Found, Malformed as Unsound, Outlawed}
use Rattle.wire_options.specs.Walk.{Walked, listed, faulty, walk_at, walk_from}
use Rattle.wire_options.specs.declared.walk.Fault.TheVariants.{Padded}

-- What follows from the step at the front of `l`, behind `nops` NOPs in a row. `rest nops room skip` is the walk behind its first byte.
abbrev pub strict_at : ℕ → ℕ → List ℕ → Step → (ℕ → ℕ → ℕ → Walked) → Walked
strict_at nops room l Nop rest = cond (is_padding Strict (suc nops)) (faulty Padded (length l)) (rest (suc nops) room 0)
strict_at nops room l (Found kind header size) rest = walk_at room l (Found kind header size) (rest 0)
strict_at nops room l End rest = walk_at room l End (rest 0)
strict_at nops room l Eol rest = walk_at room l Eol (rest 0)
strict_at nops room l Unsound rest = walk_at room l Unsound (rest 0)
strict_at nops room l Outlawed rest = walk_at room l Outlawed (rest 0)

-- the strict walk: `nops` NOPs stand in a row before the list, `room` options may still come, `skip` bytes belong to what was met before
unfoldable pub strict_from : ℕ → ℕ → ℕ → List ℕ → Walked
strict_from nops room skip [] = listed [] 0
strict_from nops room (suc skip) (b ∷ bs) = strict_from nops room skip bs
strict_from nops room zero (b ∷ bs) = strict_at nops room (b ∷ bs) (step_of (b ∷ bs)) (λ n left skip. strict_from n left skip bs)

abbrev pub walk_by : Strictness → ℕ → ℕ → List ℕ → Walked
walk_by Plain room skip l = walk_from room skip l
walk_by Strict room skip l = strict_from 0 room skip l
