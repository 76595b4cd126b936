-- A payload whose verdict is a fault of its list has a list whose walk came to that fault (`started-fault`).
-- Assumes nothing.
use mathlib.Core.Path.{◌≡◌, ap, ◌∙◌}
use mathlib.Core.List.{List}
use Prim.Native.Nat.{ℕ, ◌+◌}
use lib.Dec.{eqb}
use lib.ListN.{drop}
use Rattle.number_offsets.specs.declared.PacketOffset.{PacketOffset}
use Rattle.wire_nops.specs.declared.Strictness.{Strictness}
use Rattle.wire_options.specs.declared.walk.Fault.{Fault}
use Rattle.wire_area.specs.Area.{fault, area_of}
use Rattle.wire_surplus.specs.Surplus.{start_of}
use Rattle.std.specs.Prelude.{Ok}
use Rattle.wire_reading.specs.Reading.{no_data, verdict_of, is_odd}
use Rattle.wire_reading.specs.Packet.{PacketReading as Reading}
use Rattle.wire_reading.proofs.Faults.{fault_in, fault-named, started-fault}
use Rattle.wire_datagram.specs.Reading.{udp_length, udp_checksum, accepted, reads, reading}
use Rattle.wire_datagram.proofs.Claims.{met-none}

-- where the option list of a payload starts: `at` bytes into the area behind L, behind pad and option checksum
abbrev pub ListStarts : List ℕ → ℕ → Type 0
ListStarts p at = start_of (is_odd (udp_length p)) (eqb (udp_checksum p) 0) (drop (udp_length p) p) ≡ Ok at

-- the walk of that list came to a fault, met at `there`
pub record ListFaults (how : Strictness) (p : List ℕ) (x : Fault) (there : PacketOffset) : Type 0 where
  pub at : ℕ
  pub starts : ListStarts p at
  pub faults : area_of how (no_data (udp_length p)) (udp_length p + at) (drop (udp_length p + at) p) ≡ fault x there

pub reading-fault : (how : Strictness) (p : List ℕ) (x : Fault) (there : PacketOffset) (s d : List ℕ) (r : Reading) → reading how p s d ≡ reads r
    → r.verdict ≡ verdict_of x there → ListFaults how p x there
unfolding accepted
reading-fault how p x there s d r e v =
    let f = started-fault how p (udp_length p) x there (start_of (is_odd (udp_length p)) (eqb (udp_checksum p) 0) (drop (udp_length p) p))
    (ap (λ (y : Reading). fault_in y.verdict) (met-none how p s d r e).1 ∙ ap fault_in v ∙ fault-named x there) in
    record { at = f.at; starts = f.starts; faults = f.faults }
