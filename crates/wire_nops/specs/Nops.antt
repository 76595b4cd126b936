-- NOPs in a row: how many stand at the front of a list, and when they are padding (document 02, R-6).
use Rattle.std.specs.Prelude.{Bool, false, cond, List, [], ◌∷◌, ℕ, ◌+◌, eqb, ltb}
use Rattle.wire_nops.specs.declared.Strictness.{Strictness}
use Rattle.wire_nops.specs.declared.Strictness.TheVariants.{Plain, Strict}

-- the kind of NOP
abbrev pub nop : ℕ
nop = 1

-- "UDP packets SHOULD NOT use more than seven consecutive NOPs" (section 11.2)
unfoldable pub nop_limit : ℕ
nop_limit = 7

-- how many stand at the front of a list
unfoldable pub nops_of : List ℕ → ℕ
nops_of [] = 0
nops_of (b ∷ bs) = cond (eqb b nop) (1 + nops_of bs) 0

-- whether so many in a row are padding, in the reading that the host chose
abbrev pub is_padding : Strictness → ℕ → Bool
is_padding Plain nops = false
is_padding Strict nops = ltb nop_limit nops
