-- A reading says "tail" (document 02, R-2) for one cause: its list comes to one, by what `area-tail` says of it.
-- Assumes nothing.
use mathlib.Core.Path.{◌≡◌}
use mathlib.Core.Bool.{true}
use mathlib.Core.List.{List}
use mathlib.Core.Logic.{◌⊎◌}
use Prim.Native.Nat.{ℕ, ◌+◌}
use lib.ListN.{length, drop}
use Rattle.number_offsets.specs.declared.PacketOffset.{PacketOffset}
use Rattle.wire_nops.specs.declared.Strictness.{Strictness}
use Rattle.wire_options.specs.Walk.{option_limit}
use Rattle.wire_options.specs.declared.walk.Fault.TheVariants.{Tail as tailed}
use Rattle.wire_area.proofs.Tails.{TailIn, PieceTail, area-tail}
use Rattle.wire_reading.specs.Reading.{no_data}
use Rattle.wire_datagram.specs.Reading.{udp_length, reads, reading}
use Rattle.wire_reading.specs.Packet.{PacketReading as Reading}
use Rattle.wire_reading.specs.declared.Verdict.TheVariants.{Tail}
use Rattle.wire_datagram.proofs.Faults.{ListStarts, reading-fault}

-- the option list, `at` bytes behind L, has a tail, or a piece's options up to Frag. Start have one, met at `there`
pub record ReadTail (p : List ℕ) (there : PacketOffset) : Type 0 where
  pub at : ℕ
  pub starts : ListStarts p at
  pub cause : (TailIn option_limit (udp_length p + at + length (drop (udp_length p + at) p)) (drop (udp_length p + at) p) there)
      ⊎ ((no_data (udp_length p) ≡ true) × PieceTail (udp_length p + at) (drop (udp_length p + at) p) there)

pub reading-tail : (how : Strictness) (p s d : List ℕ) (r : Reading) (there : PacketOffset) → reading how p s d ≡ reads r → r.verdict ≡ Tail there
    → ReadTail p there
reading-tail how p s d r there e v =
    let f = reading-fault how p tailed there s d r e v in
    let from : ℕ = udp_length p + f.at in
    record { at = f.at; starts = f.starts; cause = area-tail how (no_data (udp_length p)) from (drop from p) there f.faults }
