-- Which lengths an option may have by the class of its kind, and the step by that: what the functions that make a step answer.
use Rattle.std.specs.Prelude.{Bool, true, false, cond, ◌||◌, Option, Some, None, ℕ, eqb}
use Rattle.wire_step.specs.declared.Class.{Class}
use Rattle.wire_step.specs.declared.Class.TheVariants.{EndOfList, NoOperation, Fixed, Varying, Unsafe}
use Rattle.wire_step.specs.declared.Header.{Header}
use Rattle.wire_step.specs.declared.Step.{Step}
use Rattle.wire_step.specs.declared.Step.TheVariants.{Found, Malformed}

-- a kind that has no header has no length
abbrev pub fits : Class → ℕ → Bool
fits EndOfList whole = false
fits NoOperation whole = false
fits (Fixed a b) whole = eqb whole a || eqb whole b
fits Varying whole = true
fits Unsafe whole = false

abbrev pub sized_step : Class → ℕ → Option Header → Step
sized_step class kind (Some header) = cond (fits class header.whole) (Found kind header.size header.whole) Malformed
sized_step class kind None = Malformed
