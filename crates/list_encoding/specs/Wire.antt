-- The size of options on the wire: a kind byte, the length and the body. Document 01: "The extended form is used only where the short would pass 254."
use Rattle.std.specs.Prelude.{ℕ, ◌+◌, ◌-◌, Result, Ok, Err, cond, List, [], ◌∷◌, eqb, leb, length, drop}
use Rattle.wire_step.specs.Kinds.{apc}
use Rattle.wire_options.specs.Walk.{Item}
use Rattle.list_entry.specs.Shape.{Shape, fields, raw, barred, shape_of}
use Rattle.list_entry.specs.Option.{Answer, given, refused, Read, got, failed, read_option, total}
use Rattle.list_entry.specs.Answer.{refusal_number}
use Rattle.list_entry.specs.declared.Refusal.{Refusal}
use Rattle.list_encoding.specs.declared.check.Measure.{Measure}
use Rattle.list_encoding.specs.declared.check.Measured.{Measured}

-- the longest whole length that the length byte says by itself
abbrev pub longest_short : ℕ
longest_short = 254

-- a kind and a length byte in front of the body, or with the extended form two bytes more
unfoldable pub whole_length : ℕ → ℕ
whole_length body = cond (leb (body + 2) longest_short) (body + 2) (body + 4)

-- "APC has no field: the writer works it out", four bytes
abbrev pub crc_width : ℕ
crc_width = 4

unfoldable pub body_on_wire : Item → ℕ
body_on_wire item = cond (eqb item.kind apc) crc_width (length item.body)

unfoldable pub option_size : Item → ℕ
option_size item = whole_length (body_on_wire item)

unfoldable pub wire_size : List Item → ℕ
wire_size [] = 0
wire_size (item ∷ items) = option_size item + wire_size items

-- the bytes of the fields that a kind has
abbrev pub widths_of : Shape → List ℕ
widths_of (fields widths) = widths
widths_of raw = []
widths_of barred = []

unfoldable pub fields_on_wire : ℕ → ℕ
fields_on_wire kind = cond (eqb kind apc) crc_width (total (widths_of (shape_of kind)))

-- ---- what `check` answers

-- how many options, and how many bytes on the wire
pub record Totals : Type 0 where
  pub count : ℕ
  pub size : ℕ

abbrev pub totals_of : List Item → Totals
totals_of items = record { count = length items; size = wire_size items }

abbrev pub measured : Answer (List Item) → Answer Totals
measured (given items) = given (totals_of items)
measured (refused refusal) = refused refusal

-- The numbers of document 01 for what `check` answers.
abbrev pub checked_answer : Result Measure Refusal → Answer Totals
checked_answer (Ok measure) = given (record { count = measure.count; size = measure.size })
checked_answer (Err refusal) = refused (refusal_number refusal)

-- ---- what one step of it answers: the size on the wire of the option at a position, and the position behind it

pub record Sized : Type 0 where
  pub size : ℕ
  pub next : ℕ

abbrev pub sized_before : ℕ → Read Item → Answer Sized
sized_before end (got item rest) = given (record { size = option_size item; next = end - length rest })
sized_before end (failed refusal) = refused refusal

unfoldable pub sized_at : List ℕ → ℕ → Answer Sized
sized_at s at = sized_before (length s) (read_option (drop at s))

abbrev pub measured_answer : Result Measured Refusal → Answer Sized
measured_answer (Ok option) = given (record { size = option.size; next = option.next })
measured_answer (Err refusal) = refused (refusal_number refusal)
