use mathlib.Core.Path.{◌≡◌}
use lib.ListN.{take}
use Rattle.number_crc32c.specs.Crc.{register}
use Rattle.number_crc32c.proofs.state_after.Given as goal

abbrev pub invariant-loop-byte : goal.invariant-loop-byte
invariant-loop-byte l = l.state ≡ register l.initial.state (take l.byte-index l.byte-items)
