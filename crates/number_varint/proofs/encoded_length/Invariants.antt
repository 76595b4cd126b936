use mathlib.Core.Path.{◌≡◌}
use mathlib.Core.List.{List}
use Prim.Native.Nat.{ℕ, suc, ◌+◌}
use lib.ListN.{length}
use Rattle.number_varint.specs.SevenBit.{encoded}
use Rattle.number_varint.proofs.Groups.{Encodes}
use Rattle.number_varint.proofs.encoded_length.Given as goal

-- `l` is the encoding of what is left
abbrev pub invariant-loop-rest : goal.invariant-loop-rest
invariant-loop-rest now = (l : List ℕ) × Encodes now.rest l × (now.count + length l ≡ suc (length (encoded now.value)))

abbrev pub decreases-loop-rest : goal.decreases-loop-rest
decreases-loop-rest l = l.rest
