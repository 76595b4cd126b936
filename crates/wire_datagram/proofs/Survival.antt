-- Demand 2's "user data survives", of every payload that 1 to 3 let pass and whose UDP checksum is zero or right: it is read, with the user data
-- 8 to L, whatever the area holds and however long it is. Only a list whose datagram has no user data can be a piece's.
-- Assumes nothing.
use mathlib.Core.Path.{◌≡◌, subst}
use mathlib.Core.List.{List}
use mathlib.Core.Logic.{◌⊎◌}
use Prim.Native.Nat.{ℕ, ◌<◌}
use native.Mathlib.Omega.{arith}
use lib.ListN.{drop}
use Rattle.number_offsets.specs.Offsets.{udp_header}
use Rattle.number_checksum.specs.Checksum.{all_ones}
use Rattle.wire_nops.specs.declared.Strictness.{Strictness}
use Rattle.wire_area.specs.declared.Fragment.{Fragment}
use Rattle.wire_reading.specs.Reading.{extent}
use Rattle.wire_reading.specs.declared.Verdict.TheVariants.{Piece}
use Rattle.wire_reading.specs.Packet.{PacketReading as Reading}
use Rattle.wire_reading.proofs.Cases.{Other}
use Rattle.wire_reading.proofs.Pieces.{piece-empty}
use Rattle.wire_datagram.specs.Reading.{udp_length, udp_checksum, accepted, reads, reading}
use Rattle.wire_datagram.proofs.Claims.{accepted-user, reading-by}
use Rattle.wire_datagram.proofs.Refusals.{Sized, sum_of, reading-accepted}

-- ---- a piece has no user data

-- a payload that is read as a piece has no user data: its L is 8
pub piece-has-none : (how : Strictness) (p s d : List ℕ) (r : Reading) (f : Fragment) → reading how p s d ≡ reads r → r.verdict ≡ Piece f → udp_length p ≡ udp_header
piece-has-none how p s d r f e =
    reading-by how (λ x. x.verdict ≡ Piece f → udp_length p ≡ udp_header) p s d r e
    (λ end verdict o v. absurd (subst Other v o))
    (λ from options fill h w v. cc)
    (λ from g h a v. piece-empty how (udp_length p) from (drop from p) g a)

-- ---- the claim

-- what a payload is read as: its user data is bytes 8 to L, and it is no piece where there are any
pub record Kept (how : Strictness) (p s d : List ℕ) : Type 0 where
  pub back : Reading
  pub is_read : reading how p s d ≡ reads back
  pub user : back.user ≡ extent udp_header (udp_length p)
  pub no_piece : udp_header < udp_length p → (f : Fragment) → back.verdict ≡ Piece f → ⊥
  pub piece_alone : (f : Fragment) → back.verdict ≡ Piece f → udp_length p ≡ udp_header

-- `Sized`: 1 to 3 let the payload pass; `sum_of` is the sum that 4 looks at.
pub user-data-kept : (how : Strictness) (p s d : List ℕ) → Sized p → (udp_checksum p ≡ 0) ⊎ (sum_of p s d ≡ all_ones) → Kept how p s d
user-data-kept how p s d sized sum =
    let is = reading-accepted how p s d sized sum in
    record {
      back = accepted how p;
      is_read = is;
      user = accepted-user how p;
      no_piece = λ more f v. let none : udp_length p ≡ udp_header = piece-has-none how p s d (accepted how p) f is v in omega arith;
      piece_alone = λ f v. piece-has-none how p s d (accepted how p) f is v;
    }
