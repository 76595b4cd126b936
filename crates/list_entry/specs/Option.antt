-- One option of an encoded option list, document 01's docket: "for each option its kind and fields as numbers. APC has no field: the writer works
-- it out. Kinds 9 to 191 have a body length (0 to 65,531) and the raw body."
-- An option is a kind and a body: its fields' bytes laid end to end, or the raw body; APC's is empty.
use Rattle.std.specs.Prelude.{ℕ, ◌+◌, ◌^◌, ◌≤◌, cond, List, [], ◌∷◌, ◌++◌, ◌≡◌, ltb, leb, length, take, drop}
use Rattle.number_octets.specs.Octets.{Octets, number, octets}
use Rattle.number_varint.specs.SevenBit.{Taken, taken, untaken, number as front_number, encoded}
pub use Rattle.number_varint.specs.Answer.{Answer, given, refused, unreadable}
use Rattle.wire_options.specs.Walk.{Item}
use Rattle.list_entry.specs.Shape.{Shape, fields, raw, barred, shape_of}

-- "9 kind 0, 1, 3 or 192 to 255 in a docket"
abbrev pub forbidden : ℕ
forbidden = 9

-- "a body length (0 to 65,531)"
abbrev pub longest_body : ℕ
longest_body = 65531

-- ---- writing

-- the fields' numbers, one for each width, from bytes laid end to end
unfoldable pub encoded_fields : List ℕ → List ℕ → List ℕ
encoded_fields [] body = []
encoded_fields (width ∷ widths) body = encoded (number (take width body)) ++ encoded_fields widths (drop width body)

unfoldable pub encoded_body : Shape → List ℕ → List ℕ
encoded_body (fields widths) body = encoded_fields widths body
encoded_body raw body = encoded (length body) ++ body
encoded_body barred body = []

unfoldable pub encoded_option : Item → List ℕ
encoded_option item = encoded item.kind ++ encoded_body (shape_of item.kind) item.body

-- ---- reading: what stands at the front of a list and the rest behind it, or the refusal of what can't be taken

pub data Read (A : Type 0) : Type 0 where
  got : A → List ℕ → Read A
  failed : ℕ → Read A

-- "The first number or body, read from the front, that can't be taken decides"
abbrev pub and_then : {A B : Type 0} → Read A → (A → List ℕ → Read B) → Read B
and_then (got a rest) next = next a rest
and_then (failed refusal) next = failed refusal

abbrev pub read_as : {A B : Type 0} → (A → B) → Read A → Read B
read_as f (got a rest) = got (f a) rest
read_as f (failed refusal) = failed refusal

abbrev pub below_limit : ℕ → List ℕ → Taken → Read ℕ
below_limit limit l (taken value width) = cond (ltb value limit) (got value (drop width l)) (failed unreadable)
below_limit limit l untaken = failed unreadable

-- a number below a limit
unfoldable pub read_number : ℕ → List ℕ → Read ℕ
read_number limit l = below_limit limit l (front_number l)

-- a number for each width, each within its bits, as bytes laid end to end
unfoldable pub read_fields : List ℕ → List ℕ → Read (List ℕ)
read_fields [] l = got [] l
read_fields (width ∷ widths) l =
    and_then (read_number (256 ^ width) l) (λ value rest. read_as (λ body. octets width value ++ body) (read_fields widths rest))

-- so many bytes as they stand
abbrev pub read_bytes : ℕ → List ℕ → Read (List ℕ)
read_bytes size l = cond (leb size (length l)) (got (take size l) (drop size l)) (failed unreadable)

unfoldable pub read_body : Shape → List ℕ → Read (List ℕ)
read_body (fields widths) l = read_fields widths l
read_body raw l = and_then (read_number (longest_body + 1) l) read_bytes
read_body barred l = failed forbidden

abbrev pub item_of : ℕ → List ℕ → Item
item_of kind body = record { kind = kind; body = body }

unfoldable pub read_kind : ℕ → List ℕ → Read Item
read_kind kind l = read_as (item_of kind) (read_body (shape_of kind) l)

-- "a kind over 255 is 7"
unfoldable pub read_option : List ℕ → Read Item
read_option l = and_then (read_number 256 l) read_kind

-- ---- the options that have an encoding

unfoldable pub total : List ℕ → ℕ
total [] = 0
total (width ∷ widths) = width + total widths

abbrev pub Shaped : Shape → List ℕ → Type 0
Shaped (fields widths) body = length body ≡ total widths
Shaped raw body = length body ≤ longest_body
Shaped barred body = ⊥

pub record ValidOption (item : Item) : Type 0 where
  pub shaped : Shaped (shape_of item.kind) item.body
  pub bytes : Octets item.body
