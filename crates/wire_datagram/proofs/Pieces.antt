-- A fragment that a reading names lies in its payload: its bytes run to the payload's end.
-- Assumes nothing.
use mathlib.Core.Path.{◌≡◌, ap, subst, ◌∙◌}
use mathlib.Core.List.{List}
use Prim.Native.Nat.{ℕ, ◌+◌, ◌≤◌}
use native.Mathlib.Omega.{arith}
use lib.ListN.{length, drop, length-drop}
use Rattle.number_offsets.specs.Offsets.{udp_header}
use Rattle.wire_nops.specs.declared.Strictness.{Strictness}
use Rattle.wire_area.specs.Area.{piece}
use Rattle.wire_area.specs.declared.Fragment.{Fragment}
use Rattle.wire_area.proofs.Areas.{area-piece}
use Rattle.wire_reading.specs.Reading.{no_data}
use Rattle.wire_datagram.specs.Reading.{udp_length, reads, reading}
use Rattle.wire_reading.specs.declared.Verdict.TheVariants.{Piece}
use Rattle.wire_reading.specs.Packet.{PacketReading as Reading}
use Rattle.wire_reading.proofs.Cases.{Other}
use Rattle.wire_datagram.proofs.Claims.{met-none, in-range, reading-by}

pub record Within (p : List ℕ) (f : Fragment) : Type 0 where
  pub starts : f.start.0 ≤ length p
  pub ends : f.end.0 ≡ length p

pub piece-within : (how : Strictness) (p s d : List ℕ) (r : Reading) (f : Fragment) → reading how p s d ≡ reads r → r.verdict ≡ Piece f → Within p f
piece-within how p s d r f e =
    reading-by how (λ x. x.verdict ≡ Piece f → Within p f) p s d r e
    (λ end verdict o v. absurd (subst Other v o))
    (λ from options fill h w v. cc)
    (λ from g h a v.
    let same : g ≡ f = cc in
    let b = area-piece how (no_data (udp_length p)) from (drop from p) f (a ∙ ap piece same) in
    let n : from + length (drop from p) ≡ length p = simp length-drop (omega arith) in
    record { starts = subst (λ (m : ℕ). f.start.0 ≤ m) n b.starts; ends = b.ends ∙ n })

-- a payload that is read has a whole header
pub read-header : (how : Strictness) (p s d : List ℕ) (r : Reading) → reading how p s d ≡ reads r → udp_header ≤ length p
read-header how p s d r e =
    let range = in-range p s d (met-none how p s d r e).0 in
    omega (arith, range.0, range.1)
