-- What the functions answer, by the definitions of `Option`.
use Rattle.std.specs.Prelude.{ℕ, ◌-◌, Option, Some, None, Result, Ok, Err, List, [], ◌∷◌, length, take, drop, get_or}
use Rattle.number_octets.specs.Octets.{number}
use Rattle.number_varint.specs.declared.Decoded.{Decoded}
use Rattle.wire_options.specs.Walk.{Item}
use Rattle.list_entry.specs.Shape.{Shape, fields, raw, barred, shape_of}
use Rattle.list_entry.specs.Option.{Answer, given, refused, unreadable, forbidden, Read, got, failed, and_then, read_as, read_number, read_option}
use Rattle.list_entry.specs.declared.Entry.{Entry}
use Rattle.list_entry.specs.declared.Entry.TheVariants.{Fields, Body}
use Rattle.list_entry.specs.declared.Field.{Field}
use Rattle.list_entry.specs.declared.Refusal.{Refusal}
use Rattle.list_entry.specs.declared.Refusal.TheVariants.{Unreadable, Forbidden}

-- An option as it stands in a list: its kind with its first and second field, or with the start and the size of its raw body; and the position
-- behind it.
pub data Spelled : Type 0 where
  numbers : (kind first second next : ℕ) → Spelled
  body : (kind start size next : ℕ) → Spelled

-- the numbers of bytes laid end to end
unfoldable pub values : List ℕ → List ℕ → List ℕ
values [] bytes = []
values (width ∷ widths) bytes = number (take width bytes) ∷ values widths (drop width bytes)

-- a field that an option does not have is 0
abbrev pub spelled_fields : ℕ → List ℕ → ℕ → Spelled
spelled_fields kind numbers' next = numbers kind (get_or numbers' 0 0) (get_or numbers' 1 0) next

-- an option that was read up to `next`; none is barred
abbrev pub spelled_as : Shape → Item → ℕ → Spelled
spelled_as (fields widths) item next = spelled_fields item.kind (values widths item.body) next
spelled_as raw item next = body item.kind (next - length item.body) (length item.body) next
spelled_as barred item next = spelled_fields item.kind [] next

-- what was read from a list that ends at `end`
abbrev pub spelled_before : ℕ → Read Item → Answer Spelled
spelled_before end (got item rest) = given (spelled_as (shape_of item.kind) item (end - length rest))
spelled_before end (failed refusal) = refused refusal

-- one number below a limit, the same behind a first one, and two
abbrev pub read_one : ℕ → List ℕ → Read (List ℕ)
read_one limit l = read_as (λ value. value ∷ []) (read_number limit l)

abbrev pub read_behind : ℕ → ℕ → List ℕ → Read (List ℕ)
read_behind first limit l = read_as (λ value. first ∷ value ∷ []) (read_number limit l)

abbrev pub read_two : ℕ → ℕ → List ℕ → Read (List ℕ)
read_two limit second l = and_then (read_number limit l) (λ value rest. read_behind value second rest)

abbrev pub fields_before : ℕ → ℕ → Read (List ℕ) → Answer Spelled
fields_before end kind (got values' rest) = given (spelled_fields kind values' (end - length rest))
fields_before end kind (failed refusal) = refused refusal

-- The option at a position.
unfoldable pub entry_at : List ℕ → ℕ → Answer Spelled
entry_at s at = spelled_before (length s) (read_option (drop at s))

-- The paper's number of each refusal.
abbrev pub refusal_number : Refusal → ℕ
refusal_number Unreadable = unreadable
refusal_number Forbidden = forbidden

-- The numbers of document 01 for what `entry_at` answers.
abbrev pub entry_answer : Result Entry Refusal → Answer Spelled
entry_answer (Ok (Fields kind first second next)) = given (numbers kind first second next)
entry_answer (Ok (Body kind start size next)) = given (body kind start size next)
entry_answer (Err refusal) = refused (refusal_number refusal)

-- a number, and the position behind it
pub data Located : Type 0 where
  located : (value next : ℕ) → Located

-- The numbers of document 01 for what `number_at` answers.
abbrev pub field_answer : Option Decoded → Answer Located
field_answer (Some number) = given (located number.value number.next)
field_answer None = refused unreadable

-- The numbers of document 01 for what `field_at` answers.
abbrev pub value_answer : Result Field Refusal → Answer Located
value_answer (Ok field) = given (located field.value field.next)
value_answer (Err refusal) = refused (refusal_number refusal)

-- The number below a limit that stands at a position.
abbrev pub field_before : ℕ → Read ℕ → Answer Located
field_before end (got value rest) = given (located value (end - length rest))
field_before end (failed refusal) = refused refusal

unfoldable pub number_at : ℕ → List ℕ → ℕ → Answer Located
number_at limit s at = field_before (length s) (read_number limit (drop at s))
