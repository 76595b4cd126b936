-- Listing what was read from the wire. Document 01, "Dockets and the writer": "A reading can be listed as a docket into a lent buffer (8 if too small;
-- bytes behind stay), with no option and fill 0 unless the verdict is "read"; fill is the count from EOL to the end, 0 without EOL."
use Rattle.std.specs.Prelude.{ℕ, ◌+◌, ◌≤◌, Bool, Result, Ok, Err, cond, List, [], ◌∷◌, ◌++◌, ◌≡◌, eqb, leb, length, drop}
use Rattle.number_octets.specs.Octets.{part, overlay}
use Rattle.number_varint.specs.SevenBit.{encoded}
pub use Rattle.number_varint.specs.Answer.{too_small}
use Rattle.wire_step.specs.Kinds.{apc}
use Rattle.wire_options.specs.Walk.{Item, Walked, listed, faulty, items_of}
use Rattle.list_entry.specs.Shape.{shape_of}
use Rattle.list_entry.specs.Option.{item_of, encoded_body, longest_body}
use Rattle.list_encoding.specs.Encoding.{Answer, given, refused, encoded_list}
use Rattle.number_varint.specs.declared.Full.{Full}
use Rattle.list_options.specs.declared.Listing as declared
use Rattle.list_options.specs.declared.Content.{Content}
use Rattle.list_options.specs.declared.Content.TheVariants.{Bare, One, Two, Raw}

-- "APC has no field: the writer works it out"
unfoldable pub unworked : Item → Item
unworked item = cond (eqb item.kind apc) (item_of item.kind []) item

unfoldable pub unworked_all : List Item → List Item
unworked_all [] = []
unworked_all (item ∷ items) = unworked item ∷ unworked_all items

-- "with no option and fill 0 unless the verdict is "read""
abbrev pub fill_of : Walked → ℕ
fill_of (listed options fill) = fill
fill_of (faulty fault remains) = 0

-- a walk without a fault
abbrev pub Sound : Walked → Type 0
Sound (listed options fill) = Unit {0}
Sound (faulty fault remains) = ⊥

-- The encoded option list of a walk.
unfoldable pub listing : Walked → List ℕ
listing walk = encoded_list (unworked_all (items_of walk))

unfoldable pub room_for : Walked → List ℕ → Bool
room_for walk buffer = leb (length (listing walk)) (length buffer)

-- how long the listing is, and the fill beside it
pub record Listing : Type 0 where
  pub size : ℕ
  pub fill : ℕ

-- The numbers of document 01 for what `list_options` answers.
abbrev pub listed_answer : Result declared.Listing Full → Answer Listing
listed_answer (Ok listing) = given (record { size = listing.size; fill = listing.fill })
listed_answer (Err full) = refused too_small

-- What `list_options` answers, and the buffer that it leaves: the listing from the front, the bytes behind as they were.
pub record ListedInto (walk : Walked) (buffer : List ℕ) (answer : Result declared.Listing Full) (left : List ℕ) : Type 0 where
  pub answered : listed_answer answer
      ≡ cond (room_for walk buffer) (given (record { size = length (listing walk); fill = fill_of walk })) (refused too_small)
  pub written : left ≡ cond (room_for walk buffer) (listing walk ++ drop (length (listing walk)) buffer) buffer

-- ---- what its parts do

-- what stands behind an option's kind: no number, one, two, or a raw body that stands in `rest`
abbrev pub content_code : List ℕ → Content → List ℕ
content_code rest Bare = []
content_code rest (One first) = encoded first
content_code rest (Two first second) = encoded first ++ encoded second
content_code rest (Raw start size) = encoded size ++ part start size rest

abbrev pub Within : List ℕ → Content → Type 0
Within rest Bare = Unit {0}
Within rest (One first) = Unit {0}
Within rest (Two first second) = Unit {0}
Within rest (Raw start size) = (start + size ≤ length rest) × (size ≤ longest_body)

-- what stands behind the kind of `item` in an encoded option list
pub record ContentOf (rest : List ℕ) (item : Item) (content : Content) : Type 0 where
  pub code : content_code rest content ≡ encoded_body (shape_of item.kind) (unworked item).body
  pub within : Within rest content

-- bytes written from a position, and the position behind them
pub record WrittenAt (code buffer : List ℕ) (at next : ℕ) (left : List ℕ) : Type 0 where
  pub ends : next ≡ at + length code
  pub all : left ≡ overlay buffer at code
