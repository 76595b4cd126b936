-- Demand 2's listing back: what `read` answers of what was written, and what `list_reading` answers and leaves of that.
use Rattle.std.specs.Prelude.{◌≡◌, Result, Ok, List, ◌++◌, ℕ, ◌≤◌, length, drop}
use Rattle.wire_options.specs.Walk.{Walked}
use Rattle.wire_reading.specs.Packet.{PacketReading as Reading}
use Rattle.wire_datagram.specs.declared.reading.Refusal.{Refusal}
use Rattle.list_encoding.specs.Encoding.{given}
use Rattle.list_options.specs.Listing.{listed_answer, ListedInto}
use Rattle.number_varint.specs.declared.Full.{Full}
use Rattle.list_options.specs.declared.Listing.{Listing}
use Rattle.list_readings.specs.Catalogue.{walk_of_value}

-- the encoded list that was written and its fill, in a buffer with room for the list; the bytes behind it stay
pub record GivesList (list : List ℕ) (fill : ℕ) (buffer : List ℕ) (answer : Result Listing Full) (left : List ℕ) : Type 0 where
  pub answered : listed_answer answer ≡ given (record { size = length list; fill = fill })
  pub leaves : left ≡ list ++ drop (length list) buffer

-- what there is to list of a reading of these bytes
abbrev pub walk_of : List ℕ → Reading → Walked
walk_of payload r = walk_of_value payload r.verdict r.options.from.0 r.options.to.0

-- A payload that `read` answers with `outcome` is accepted, and whatever `list_reading` then answers and leaves of a buffer with room for it is the
-- list with its fill.
pub record ListedBack (list : List ℕ) (fill : ℕ) (payload : List ℕ) (outcome : Result Reading Refusal) : Type 0 where
  pub back : Reading
  pub accepted : outcome ≡ Ok back
  pub lists : (buffer : List ℕ) (answer : Result Listing Full) (left : List ℕ) → ListedInto (walk_of payload back) buffer answer left
      → length list ≤ length buffer → GivesList list fill buffer answer left
