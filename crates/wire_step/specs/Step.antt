-- One step of the option walk: what stands at the front of the list that remains (document 01, "Walking the list").
use Rattle.std.specs.Prelude.{cond, ◌||◌, Option, Some, None, List, [], ◌∷◌, ℕ, eqb, leb, length, get_or}
use Rattle.number_octets.specs.Octets.{number, part}
use Rattle.wire_step.specs.Kinds.{class_of}
use Rattle.wire_step.specs.declared.Class.{Class}
use Rattle.wire_step.specs.declared.Class.TheVariants.{EndOfList, NoOperation, Fixed, Varying, Unsafe}
use Rattle.wire_step.specs.declared.Header.{Header}
use Rattle.wire_step.specs.declared.Step.{Step}
use Rattle.wire_step.specs.declared.Step.TheVariants.{End, Eol, Nop, Found, Malformed, Outlawed}

-- a header of `size` bytes before an option of `whole` bytes ..
abbrev pub sound : ℕ → ℕ → Option Header
sound size whole = Some (record { size = size; whole = whole })

-- .. which may not run past the end
abbrev pub within : ℕ → ℕ → ℕ → Option Header
within end size whole = cond (leb whole end) (sound size whole) None

-- A length byte of 255 means that the true whole length stands in the next two bytes; under 255 it is malformed there.
abbrev pub extended : List ℕ → Option Header
extended l =
    cond (leb 4 (length l))
    (cond (leb 255 (number (part 2 2 l))) (within (length l) 4 (number (part 2 2 l))) None)
    None

-- The header at the front: its size and the whole length of its option. A length of 0 or 1, or what runs past the end, is malformed.
unfoldable pub header_of : List ℕ → Option Header
header_of l =
    cond (leb 2 (length l))
    (cond (eqb (get_or l 1 0) 255) (extended l) (cond (leb 2 (get_or l 1 0)) (within (length l) 2 (get_or l 1 0)) None))
    None

-- an option whose length byte may say any length
abbrev pub varying_step : ℕ → Option Header → Step
varying_step kind (Some header) = Found kind header.size header.whole
varying_step kind None = Malformed

-- an option with two lengths to choose from, mostly the same
abbrev pub fixed_step : ℕ → ℕ → ℕ → Option Header → Step
fixed_step kind a b (Some header) =
    cond (eqb header.whole a || eqb header.whole b) (Found kind header.size header.whole) Malformed
fixed_step kind a b None = Malformed

abbrev pub step_in : Class → List ℕ → Step
step_in EndOfList l = Eol
step_in NoOperation l = Nop
step_in (Fixed a b) l = fixed_step (get_or l 0 0) a b (header_of l)
step_in Varying l = varying_step (get_or l 0 0) (header_of l)
step_in Unsafe l = Outlawed

-- what the kind byte at the front says, and for an option its header too; an unsafe kind is met at its kind byte
unfoldable pub step_of : List ℕ → Step
step_of [] = End
step_of (kind ∷ rest) = step_in (class_of kind) (kind ∷ rest)
