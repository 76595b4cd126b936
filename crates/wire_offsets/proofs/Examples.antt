-- The next option computes: behind NOPs its place is behind them, before EOL and at the end there is none, and an extended one has a header of four bytes.
-- Assumes nothing.
use mathlib.Core.Path.{◌≡◌, refl}
use mathlib.Core.List.{[], ◌∷◌}
use lib.ListN.{replicate}
use Rattle.number_octets.specs.Octets.{number}
use Rattle.wire_nops.specs.Nops.{nops_of}
use Rattle.wire_step.specs.Kinds.{class_of}
use Rattle.wire_step.specs.Step.{header_of, step_of}
use Rattle.wire_offsets.specs.Next.{next_of}
use Rattle.std.specs.Prelude.{Some, None}

-- two NOPs, MDS 8 and another NOP: the place is that of the kind byte
behind-nops : next_of (0x01 ∷ 0x01 ∷ 0x04 ∷ 0x04 ∷ 0x00 ∷ 0x08 ∷ 0x01 ∷ []) ≡ Some (record { at = 2; header = 2; kind = 4; size = 4 })
unfolding number nops_of class_of header_of step_of next_of
behind-nops = refl

-- the same list behind that option
behind-option : next_of (0x01 ∷ []) ≡ None
unfolding nops_of step_of next_of
behind-option = refl

-- a NOP and EOL: what stands behind is none
eol-first : next_of (0x01 ∷ 0x00 ∷ 0x04 ∷ 0x04 ∷ 0x00 ∷ 0x08 ∷ []) ≡ None
unfolding nops_of class_of step_of next_of
eol-first = refl

-- a NOP and an option of kind 9 in the extended form, 300 bytes of which 296 are its body; a NOP in a body is none
extended-one : next_of (0x01 ∷ 0x09 ∷ 0xFF ∷ 0x01 ∷ 0x2C ∷ replicate 296 0x01) ≡ Some (record { at = 1; header = 4; kind = 9; size = 300 })
unfolding number nops_of class_of header_of step_of next_of
extended-one = refl
