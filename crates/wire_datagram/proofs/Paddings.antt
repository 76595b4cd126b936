-- A reading says "padded" (document 02, R-6) for one cause: reading is strict, and the walk of its list, or of a piece's options up to Frag. Start, comes
-- to eight NOPs in a row. So plain reading never says it.
-- Assumes nothing.
use mathlib.Core.Path.{◌≡◌}
use mathlib.Core.Bool.{true}
use mathlib.Core.List.{List}
use mathlib.Core.Logic.{◌⊎◌}
use Prim.Native.Nat.{ℕ, ◌+◌}
use lib.ListN.{length, drop}
use Rattle.number_offsets.specs.declared.PacketOffset.{PacketOffset}
use Rattle.wire_nops.specs.declared.Strictness.{Strictness}
use Rattle.wire_nops.specs.declared.Strictness.TheVariants.{Plain, Strict}
use Rattle.wire_options.specs.Walk.{option_limit}
use Rattle.wire_options.specs.declared.walk.Fault.TheVariants.{Padded as padded_list}
use Rattle.wire_area.proofs.Paddings.{PaddingIn, PiecePadding, area-padded}
use Rattle.wire_reading.specs.Reading.{no_data}
use Rattle.wire_datagram.specs.Reading.{udp_length, reads, reading}
use Rattle.wire_reading.specs.Packet.{PacketReading as Reading}
use Rattle.wire_reading.specs.declared.Verdict.TheVariants.{Padded}
use Rattle.wire_datagram.proofs.Faults.{ListStarts, reading-fault}

-- the walk of the option list, `at` bytes behind L, or of a piece's options up to Frag. Start, comes to eight NOPs in a row, the
-- eighth at `there`
pub record ReadPadding (p : List ℕ) (there : PacketOffset) : Type 0 where
  pub at : ℕ
  pub starts : ListStarts p at
  pub cause : (PaddingIn option_limit (udp_length p + at + length (drop (udp_length p + at) p)) (drop (udp_length p + at) p) there)
      ⊎ ((no_data (udp_length p) ≡ true) × PiecePadding (udp_length p + at) (drop (udp_length p + at) p) there)

pub reading-padded : (how : Strictness) (p s d : List ℕ) (r : Reading) (there : PacketOffset) → reading how p s d ≡ reads r → r.verdict ≡ Padded there
    → (how ≡ Strict) × ReadPadding p there
reading-padded how p s d r there e v =
    let f = reading-fault how p padded_list there s d r e v in
    let from : ℕ = udp_length p + f.at in
    let c = area-padded how (no_data (udp_length p)) from (drop from p) there f.faults in
    (c.0, record { at = f.at; starts = f.starts; cause = c.1 })

pub plain-not-padded : (p s d : List ℕ) (r : Reading) (there : PacketOffset) → reading Plain p s d ≡ reads r → r.verdict ≡ Padded there → ⊥
plain-not-padded p s d r there e v = let c : Plain ≡ Strict = (reading-padded Plain p s d r there e v).0 in cc
