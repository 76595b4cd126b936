-- The program's input and the room for its text. Document 01, "The program": "Reads 8 address bytes and a payload from standard input; missing bytes
-- are refusal 1, and it reads no more than 65,516 payload bytes".
use Rattle.std.specs.Prelude.{◌≡◌, cond, List, ◌++◌, ℕ, ◌+◌, ltb, length, take, drop}
use Rattle.number_octets.specs.Octets.{part}
use Rattle.wire_datagram.specs.Reading.{refusal_number}
use Rattle.wire_reading.specs.Reading.{payload_limit}
use Rattle.wire_datagram.specs.declared.reading.Refusal.TheVariants.{PayloadTooShort}
use Rattle.program_report.specs.Words.{refused_word}
use Rattle.program_report.specs.Report.{number_line, report_of}

-- one address, and both
abbrev pub address_size : ℕ
address_size = 4

abbrev pub addresses : ℕ
addresses = address_size + address_size

-- the addresses, and one byte more than a payload may have
unfoldable pub input_limit : ℕ
input_limit = addresses + (payload_limit + 1)

-- what is printed of an input: source, destination and payload
unfoldable pub text_of : List ℕ → List ℕ
text_of input =
    cond (ltb (length input) addresses)
    (number_line refused_word (refusal_number PayloadTooShort))
    (report_of (drop addresses input) (take address_size input) (part address_size address_size input))

-- no text is longer: two characters for each byte of a payload, and the labels and numbers of its lines
unfoldable pub text_limit : ℕ
text_limit = 140000

-- a text stands whole at the front of a buffer, and the bytes behind it stay
pub record Holds (buffer text : List ℕ) (end : ℕ) (left : List ℕ) : Type 0 where
  pub ends : end ≡ length text
  pub leaves : left ≡ text ++ drop (length text) buffer
