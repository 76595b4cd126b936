-- `program_text::put_byte` meets its contract: the two digits are those of the byte's halves.
use mathlib.Core.Path.{ap₂}
use mathlib.Core.List.{[], ◌∷◌}
use Prim.Native.Nat.{ℕ}
use Rattle.program_text.specs.Digits.{hex_of}
use Rattle.program_text.proofs.Puts.{put_as}
use Rattle.program_text.proofs.put_byte.Goals as goal

pub returns : goal.returns
unfolding hex_of
returns c = let high = c.hex_digit.ensures in
    let low = c.hex_digit-2.ensures in
    put_as (ap₂ (λ (x y : ℕ). x ∷ y ∷ []) high low) c.put.ensures
