-- The user data of a reading is bytes 8 to L, however the area starts and whatever its walk comes to. On this "user data survives" rests.
-- Assumes nothing.
use mathlib.Core.Path.{◌≡◌, refl}
use mathlib.Core.List.{List}
use Prim.Native.Nat.{ℕ, ◌+◌}
use lib.ListN.{drop}
use Rattle.number_offsets.specs.Offsets.{udp_header}
use Rattle.wire_nops.specs.declared.Strictness.{Strictness}
use Rattle.wire_area.specs.Area.{AreaWalk, plain, piece, fault, area_of}
use Rattle.std.specs.Prelude.{Result, Ok, Err}
use Rattle.wire_surplus.specs.declared.Unlisted.{Unlisted}
use Rattle.wire_surplus.specs.declared.Unlisted.TheVariants.{Empty, Short, Pad, Unsummed, BadSum}
use Rattle.wire_reading.specs.Reading.{no_data, extent, walked, started}

walked-user : (p : List ℕ) (size from : ℕ) (w : AreaWalk) → (walked p size from w).user ≡ extent udp_header size
walked-user p size from (plain options fill) = refl
walked-user p size from (piece f) = refl
walked-user p size from (fault f at) = refl

pub started-user : (how : Strictness) (p : List ℕ) (size : ℕ) (start : Result ℕ Unlisted) → (started how p size start).user ≡ extent udp_header size
started-user how p size (Err Empty) = refl
started-user how p size (Err Short) = refl
started-user how p size (Err Pad) = refl
started-user how p size (Err Unsummed) = refl
started-user how p size (Err BadSum) = refl
started-user how p size (Ok at) = walked-user p size (size + at) (area_of how (no_data size) (size + at) (drop (size + at) p))
