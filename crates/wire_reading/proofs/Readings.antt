-- A reading by what the walk tells: the definition's, whatever the walk came to.
-- Assumes nothing.
use mathlib.Core.Path.{◌≡◌, refl}
use mathlib.Core.List.{List}
use Prim.Native.Nat.{ℕ, ◌-◌}
use lib.ListN.{length}
use Rattle.number_octets.specs.Octets.{part}
use Rattle.number_offsets.specs.Offsets.{udp_header}
use Rattle.wire_options.specs.Walk.{items_in}
use Rattle.wire_area.specs.Area.{AreaWalk, plain, piece, fault, area_answer}
use Rattle.wire_reading.specs.Reading.{extent, walked}
use Rattle.wire_reading.specs.ByWalk.{reading_by}
use Rattle.wire_reading.specs.declared.Verdict.TheVariants.{Read}
use Rattle.wire_reading.proofs.Apcs.{apc-by-answer}

pub reading-by-answer : (payload : List ℕ) (size from : ℕ) (w : AreaWalk) → reading_by payload size from (area_answer w) ≡ walked payload size from w
reading-by-answer payload size from (plain options fill) = λ i. record {
  user = extent udp_header size;
  verdict = Read;
  options = extent from (length payload);
  count = length options;
  fill = fill;
  apc = (apc-by-answer (part udp_header (size - udp_header) payload) (items_in options)) i;
}
reading-by-answer payload size from (piece f) = refl
reading-by-answer payload size from (fault f at) = refl
