-- How a host asks to read, as a number of include/wuraketozo.h (document 02, R-6).
use Rattle.std.specs.Prelude.{ℕ, cond, eqb}
use Rattle.wire_nops.specs.declared.Strictness.{Strictness}
use Rattle.wire_nops.specs.declared.Strictness.TheVariants.{Plain, Strict}

-- 0 is plain, any other number strict: no number is refused
abbrev pub strictness_for : ℕ → Strictness
strictness_for number = cond (eqb number 0) Plain Strict
