-- Only a list whose datagram has no user data can be a piece's, by the walk of such a list. On this "user data survives" rests.
-- Assumes nothing.
use mathlib.Core.Path.{◌≡◌, refl}
use mathlib.Core.Bool.{Bool, true, false}
use mathlib.Core.List.{List}
use Prim.Native.Nat.{ℕ}
use borrow.Author.Tests.{eqb-true}
use Rattle.number_offsets.specs.Offsets.{udp_header}
use Rattle.wire_nops.specs.declared.Strictness.{Strictness}
use Rattle.wire_area.specs.Area.{piece, area_of}
use Rattle.wire_area.specs.declared.Fragment.{Fragment}
use Rattle.wire_area.proofs.Areas.{data-not-piece}
use Rattle.wire_reading.specs.Reading.{no_data}

pub piece-empty : (how : Strictness) (size from : ℕ) (l : List ℕ) (f : Fragment) → area_of how (no_data size) from l ≡ piece f → size ≡ udp_header
piece-empty how size from l f = go (no_data size) refl
  where
    go : (t : Bool) → no_data size ≡ t → area_of how t from l ≡ piece f → size ≡ udp_header
    go true e q = eqb-true size udp_header e
    go false e q = absurd (data-not-piece how from l f q)
