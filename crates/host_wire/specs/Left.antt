-- What a call that lists or writes answers and leaves: the value of include/wuraketozo.h for the answer of the papers, and the buffer.
use Rattle.std.specs.Prelude.{ℕ, ◌≡◌, cond, List, ◌++◌, length, drop}
use Rattle.wire_options.specs.Walk.{Walked}
use Rattle.list_encoding.specs.Encoding as Encoding
use Rattle.list_encoding.specs.Encoding.{given, refused}
use Rattle.list_options.specs.Listing as Transcribe
use Rattle.list_options.specs.Listing.{listing, fill_of, room_for, too_small}
use Rattle.list_writer.specs.Answer as Compose
use Rattle.host_values.specs.Lists.{host_listing, host_written}
use Rattle.host_values.specs.declared.Listing.{Listing}
use Rattle.host_values.specs.declared.Written.{Written}

-- "8 if too small", else the size of the list and its fill: what `ListedInto` says of the answer
abbrev pub listed_for : Walked → List ℕ → Encoding.Answer Transcribe.Listing
listed_for walk buffer = cond (room_for walk buffer) (given (record { size = length (listing walk); fill = fill_of walk })) (refused too_small)

-- the list of a walk, at the front of the buffer
pub record Lists (walk : Walked) (buffer : List ℕ) (answer : Listing) (left : List ℕ) : Type 0 where
  pub answers : answer ≡ host_listing (listed_for walk buffer)
  pub buffer_left : left ≡ cond (room_for walk buffer) (listing walk ++ drop (length (listing walk)) buffer) buffer

-- a payload that was written, or not
pub record Writes (o : Compose.Outcome) (answer : Written) (buffer : List ℕ) : Type 0 where
  pub answers : answer ≡ host_written o.answer
  pub buffer_left : buffer ≡ o.buffer
