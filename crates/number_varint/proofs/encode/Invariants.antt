use mathlib.Core.Path.{◌≡◌}
use mathlib.Core.List.{List}
use Prim.Native.Nat.{ℕ, ◌+◌}
use lib.ListN.{length}
use lib.Seq.{sets}
use Rattle.number_varint.specs.SevenBit.{encoded}
use Rattle.number_varint.proofs.Groups.{Encodes}
use Rattle.number_varint.proofs.encode.Given as goal

-- What is left to write: it ends where the whole encoding does, and storing it leaves what storing the whole would.
pub record Unwritten (value : ℕ) (buffer₀ : List ℕ) (at : ℕ) (buffer : List ℕ) (rest i : ℕ) : Type 0 where
  pub bytes : List ℕ
  pub encodes_rest : Encodes rest bytes
  pub ends : i + length bytes ≡ at + length (encoded value)
  pub as_long : length buffer ≡ length buffer₀
  pub leaves : sets buffer i bytes ≡ sets buffer₀ at (encoded value)

abbrev pub invariant-loop-rest : goal.invariant-loop-rest
invariant-loop-rest l = Unwritten l.value l.initial.buffer l.at l.buffer l.rest l.i

abbrev pub decreases-loop-rest : goal.decreases-loop-rest
decreases-loop-rest l = l.rest
