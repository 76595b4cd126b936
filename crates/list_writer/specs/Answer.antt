-- What `write` answers and what it leaves in the buffer, by document 01: "Refusals leave the buffer alone: 7 docket unreadable, a field too wide or
-- bytes left over; 9 kind 0, 1, 3 or 192 to 255 in a docket; 8 payload over 65,515 or over the buffer", and "Bytes behind the payload stay".
use Rattle.std.specs.Prelude.{◌≡◌, Bool, Result, Ok, Err, cond, ◌&&◌, List, ◌++◌, ℕ, leb, length, drop}
use Rattle.wire_options.specs.Walk.{Item}
use Rattle.wire_reading.specs.Reading.{payload_limit}
use Rattle.list_entry.specs.Option.{forbidden}
use Rattle.list_encoding.specs.Encoding.{Answer, given, refused, unreadable, decoded_list}
use Rattle.list_payload.specs.Payload.{Datagram, payload_of}
use Rattle.list_writer.specs.declared.Refusal.{Refusal}
use Rattle.list_writer.specs.declared.Refusal.TheVariants.{Unreadable, Forbidden, TooLarge}

abbrev pub too_large : ℕ
too_large = 8

-- the paper's number of each refusal
abbrev pub refusal_number : Refusal → ℕ
refusal_number Unreadable = unreadable
refusal_number Forbidden = forbidden
refusal_number TooLarge = too_large

-- the paper's number of the refusal, or the payload's length
abbrev pub written_answer : Result ℕ Refusal → Answer ℕ
written_answer (Ok length) = given length
written_answer (Err refusal) = refused (refusal_number refusal)

-- the answer, and the buffer afterwards
pub record Outcome : Type 0 where
  pub answer : Answer ℕ
  pub buffer : List ℕ

-- neither over 65,515 bytes nor over the buffer
unfoldable pub fits : ℕ → ℕ → Bool
fits size room = leb size payload_limit && leb size room

abbrev pub put : List ℕ → List ℕ → Outcome
put payload buffer = record { answer = given (length payload); buffer = payload ++ drop (length payload) buffer }

abbrev pub untouched : ℕ → List ℕ → Outcome
untouched refusal buffer = record { answer = refused refusal; buffer = buffer }

-- 8 comes last
unfoldable pub put_whole : List ℕ → List ℕ → Outcome
put_whole payload buffer = cond (fits (length payload) (length buffer)) (put payload buffer) (untouched too_large buffer)

abbrev pub outcome_by : (List Item → Datagram) → List ℕ → Answer (List Item) → Outcome
outcome_by datagram buffer (given items) = put_whole (payload_of (datagram items)) buffer
outcome_by datagram buffer (refused refusal) = untouched refusal buffer

-- what writing a datagram with the options of an encoded list comes to
unfoldable pub written : (List Item → Datagram) → (list buffer : List ℕ) → Outcome
written datagram list buffer = outcome_by datagram buffer (decoded_list list)

-- the arguments of `write`, with the options of the list
abbrev pub datagram_for : (source destination : List ℕ) (source_port destination_port : ℕ) (user : List ℕ) (fill : ℕ) → List Item → Datagram
datagram_for source destination source_port destination_port user fill items = record {
  source = source;
  destination = destination;
  source_port = source_port;
  destination_port = destination_port;
  user = user;
  items = items;
  fill = fill;
}

-- a call that answers `r` and leaves `buffer` comes to an outcome
pub record Wrote (outcome : Outcome) (r : Result ℕ Refusal) (buffer : List ℕ) : Type 0 where
  pub answered : written_answer r ≡ outcome.answer
  pub left : buffer ≡ outcome.buffer
