-- What is found in a part of bytes ends within them.
-- Assumes nothing.
use Rattle.std.proofs.Common.{Option, Some, None}
use mathlib.Core.Path.{◌≡◌}
use mathlib.Core.List.{List}
use Prim.Native.Nat.{ℕ, ◌-◌, ◌≤◌, ◌<◌}
use native.Mathlib.Omega.{arith}
use lib.ListN.{length}
use Rattle.number_octets.specs.Octets.{part}
use Rattle.number_octets.proofs.Laws.{length_part}
use Rattle.wire_offsets.specs.Next.{next_of}
use Rattle.wire_offsets.specs.declared.Found.{Found}
use Rattle.wire_offsets.proofs.Nexts.{next_fits}
use Rattle.host_options.specs.Options.{Fits}

pub part-fits : (bytes : List ℕ) (from to : ℕ) (next : Option Found) → from ≤ to → to ≤ length bytes → length bytes < 9223372036854775808
    → next_of (part from (to - from) bytes) ≡ next → Fits from next
part-fits bytes from to None h k small e = tt
part-fits bytes from to (Some found) h k small e =
    let f = next_fits (part from (to - from) bytes) found.at found.kind found.header found.size e in
    let long : length (part from (to - from) bytes) ≡ to - from = length_part from (to - from) bytes (omega arith) in
    (f.0, omega (arith, f.1))
