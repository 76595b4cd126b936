-- Demand 2's read-back: what the reader says of the bytes that a call of `write` leaves.
use Rattle.std.specs.Prelude.{◌≡◌, Bool, false, cond, ◌||◌, List, [], ◌∷◌, ℕ, eqb, length, take, drop}
use Rattle.wire_nops.specs.declared.Strictness.{Strictness}
use Rattle.wire_step.specs.Kinds.{apc}
use Rattle.wire_options.specs.Walk.{Item, Walked, listed, walk_from, option_limit}
use Rattle.wire_reading.specs.Extents.{bytes_in}
use Rattle.wire_datagram.specs.Reading.{reads, reading}
use Rattle.wire_reading.specs.declared.Apc.{Apc}
use Rattle.wire_reading.specs.declared.Apc.TheVariants.{Absent, Right}
use Rattle.wire_reading.specs.declared.Verdict.TheVariants.{Read}
use Rattle.wire_reading.specs.Packet.{PacketReading as Reading}
use Rattle.list_encoding.specs.Encoding.{given, decoded_list}
use Rattle.list_options.specs.Listing.{listing}
use Rattle.list_payload.specs.Payload.{standing, worked_all}

-- whether one of the options is an APC
unfoldable pub has_apc : List Item → Bool
has_apc [] = false
has_apc (item ∷ items) = eqb item.kind apc || has_apc items

-- the writer works an APC out, so it is right; none exactly where none is listed
abbrev pub apc_back : List Item → Apc
apc_back items = cond (has_apc items) Right Absent

-- what the walk of the option list gives that a reading names
abbrev pub walk_back : List ℕ → Reading → Walked
walk_back payload back = walk_from option_limit 0 (bytes_in back.options payload)

-- A payload is read, plainly and strictly, as what it was made from: the user data, the options of the encoded list in their order with their bodies, each
-- where it was written, APC, and fill.
-- Listing them gives the encoded list byte for byte.
pub record ReadsBack (source destination user list : List ℕ) (fill : ℕ) (payload : List ℕ) : Type 0 where
  pub items : List Item
  pub decoded : decoded_list list ≡ given items
  pub back : Reading
  pub is_read : (how : Strictness) → reading how payload source destination ≡ reads back
  pub verdict : back.verdict ≡ Read
  pub same_user : bytes_in back.user payload ≡ user
  pub same_options : walk_back payload back ≡ listed (standing (worked_all user items) fill) fill
  pub same_count : back.count ≡ length items
  pub same_fill : back.fill ≡ fill
  pub same_apc : back.apc ≡ apc_back items
  pub same_list : listing (walk_back payload back) ≡ list

-- A call that answers a payload of `n` bytes and leaves `exit` of a buffer `entry`: its first `n` bytes are read back, and the others stay.
pub record LeavesBack (source destination user list : List ℕ) (fill : ℕ) (entry exit : List ℕ) (n : ℕ) : Type 0 where
  pub size : length (take n exit) ≡ n
  pub behind : drop n exit ≡ drop n entry
  pub reads_back : ReadsBack source destination user list fill (take n exit)
