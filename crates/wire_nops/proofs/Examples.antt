-- What is padding, computed: where reading is strict eight NOPs in a row, whatever stands behind them, and not seven; where it is plain no number
-- of them (document 02, R-6).
-- Assumes nothing.
use mathlib.Core.Path.{◌≡◌, refl}
use mathlib.Core.Bool.{true, false}
use mathlib.Core.List.{List, [], ◌∷◌}
use Prim.Native.Nat.{ℕ, zero, suc}
use native.Mathlib.Omega.{arith}
use borrow.Author.Tests.{ne_eqb, lt-ltb}
use Rattle.wire_nops.specs.Nops.{nop_limit, nops_of, is_padding}
use Rattle.wire_nops.specs.declared.Strictness.TheVariants.{Plain, Strict}

-- so many NOPs before a list
abbrev pub padded : ℕ → List ℕ → List ℕ
padded zero l = l
padded (suc n) l = 0x01 ∷ padded n l

-- seven, at the end of a list and before another byte
seven-alone : is_padding Strict (nops_of (padded 7 [])) ≡ false
unfolding nop_limit nops_of
seven-alone = refl

seven-before : (b : ℕ) (rest : List ℕ) → (b ≡ 0x01 → ⊥) → is_padding Strict (nops_of (padded 7 (b ∷ rest))) ≡ false
unfolding nop_limit nops_of
seven-before b rest other = simp (ne_eqb b 0x01 other)

-- eight, before any bytes
eight-before : (rest : List ℕ) → is_padding Strict (nops_of (padded 8 rest)) ≡ true
unfolding nop_limit nops_of
eight-before rest = lt-ltb nop_limit (nops_of (padded 8 rest)) (omega arith)

any-plain : (nops : ℕ) → is_padding Plain nops ≡ false
any-plain nops = refl
