-- The walk over a list of options (document 01, "Walking the list"), and where each option and each fault stands (document 02, R-7).
use Rattle.std.specs.Prelude.{Bool, cond, Result, Ok, Err, List, [], ◌∷◌, ℕ, zero, suc, ◌-◌, eqb, length}
use Rattle.number_octets.specs.Octets.{number, part}
use Rattle.number_octets.specs.Zeros.{all_zero, zeros_of}
use Rattle.number_offsets.specs.declared.PacketOffset.{PacketOffset}
use Rattle.wire_step.specs.Kinds.{apc, frag}
use Rattle.wire_step.specs.Step.{step_of}
use Rattle.wire_step.specs.declared.Step.{Step}
use Rattle.wire_step.specs.declared.Step.TheVariants.{End, Eol, Nop, Found, Malformed as Unsound, Outlawed}
use Rattle.wire_options.specs.declared.walk.Fault.{Fault}
use Rattle.wire_options.specs.declared.walk.Fault.TheVariants.{Malformed, Unsafe, Crowded, Tail}
use Rattle.wire_options.specs.declared.walk.Apcs.{Apcs}
use Rattle.wire_options.specs.declared.walk.Apcs.TheVariants.{Absent, Same, Different}
use Rattle.wire_options.specs.declared.walk.Listed.{Listed}
use Rattle.wire_options.specs.declared.walk.Met.{Met}

-- how many options besides NOP and EOL a list may have
unfoldable pub option_limit : ℕ
option_limit = 32

-- an option as it is reported: its kind, and its fields or body as they stand behind the header
pub record Item : Type 0 where
  pub kind : ℕ
  pub body : List ℕ

-- An option where it stands: so many bytes of the list remain from its kind byte on, and `size` of them are its own. What remains of a list tells
-- the place in it, and is the same whatever the place is counted from.
pub record Located : Type 0 where
  pub remains : ℕ
  pub size : ℕ
  pub item : Item

-- what a walk comes to: the options in order and the fill, or the fault met first and how many bytes remain from where it was met
pub data Walked : Type 0 where
  listed : List Located → ℕ → Walked
  faulty : Fault → ℕ → Walked

-- options as they are reported, wherever they stand
abbrev pub items_in : List Located → List Item
items_in [] = []
items_in (option ∷ options) = option.item ∷ items_in options

-- the options of a walk; none where it met a fault
abbrev pub options_of : Walked → List Located
options_of (listed options fill) = options
options_of (faulty fault remains) = []

abbrev pub items_of : Walked → List Item
items_of walked = items_in (options_of walked)

abbrev pub before : Located → Walked → Walked
before option (listed options fill) = listed (option ∷ options) fill
before option (faulty fault remains) = faulty fault remains

abbrev pub item_of : ℕ → ℕ → ℕ → List ℕ → Item
item_of kind header size l = record { kind = kind; body = part header (size - header) l }

-- an option at the front of `l`
abbrev pub located_of : ℕ → ℕ → ℕ → List ℕ → Located
located_of kind header size l = record { remains = length l; size = size; item = item_of kind header size l }

-- A sound option. FRAG stands here in a wrong place; one option more than there is room for is crowded.
abbrev pub sound : ℕ → Located → (ℕ → Walked) → Walked
sound zero option rest = faulty Crowded option.remains
sound (suc room) option rest = before option (rest room)

-- EOL, at the front of `l`, and all behind it up to the end of the list are the fill. "If a receiver elects to check the bytes following EOL and
-- finds that they are not all set to zero, it MUST silently discard the options area" (section 11.1); EOL is a zero itself.
abbrev pub fill_is_zero : List ℕ → Bool
fill_is_zero l = all_zero l

-- the list ends at EOL; with another byte in the fill it is "tail" (document 02, R-2), met at the first such byte
abbrev pub ends_at : List ℕ → Walked
ends_at l = cond (fill_is_zero l) (listed [] (length l)) (faulty Tail (length l - zeros_of l))

-- What follows from the step at the front of `l`. `rest room skip` is the walk behind its first byte, `skip` bytes further on.
-- The walk ends at the end or at EOL; NOPs are skipped. A faulty option is met at its kind byte.
abbrev pub walk_at : ℕ → List ℕ → Step → (ℕ → ℕ → Walked) → Walked
walk_at room l End rest = listed [] 0
walk_at room l Eol rest = ends_at l
walk_at room l Nop rest = rest room 0
walk_at room l (Found kind header size) rest =
    cond (eqb kind frag) (faulty Malformed (length l)) (sound room (located_of kind header size l) (λ left. rest left (size - 1)))
walk_at room l Unsound rest = faulty Malformed (length l)
walk_at room l Outlawed rest = faulty Unsafe (length l)

-- the walk of a list in which FRAG has no place: `room` options may still come, `skip` bytes belong to what was met before
unfoldable pub walk_from : ℕ → ℕ → List ℕ → Walked
walk_from room skip [] = listed [] 0
walk_from room (suc skip) (b ∷ bs) = walk_from room skip bs
walk_from room zero (b ∷ bs) = walk_at room (b ∷ bs) (step_of (b ∷ bs)) (λ left skip. walk_from left skip bs)

-- ---- what of a walk the answer tells

-- APCs of one list: none, all with one value, or some that differ
abbrev pub joined : Apcs → Apcs → Apcs
joined Absent b = b
joined (Same v) Absent = Same v
joined (Same v) (Same w) = cond (eqb v w) (Same v) Different
joined (Same v) Different = Different
joined Different b = Different

abbrev pub apc_of : Item → Apcs
apc_of item = cond (eqb item.kind apc) (Same (number item.body)) Absent

unfoldable pub apcs_of : List Item → Apcs
apcs_of [] = Absent
apcs_of (item ∷ items) = joined (apc_of item) (apcs_of items)

-- the packet offset from which so many bytes remain of a list that ends at the offset `end`
abbrev pub offset_before : ℕ → ℕ → PacketOffset
offset_before end remains = record { 0 = end - remains }

-- of a list that ends at the packet offset `end`
abbrev pub walk_answer : ℕ → Walked → Result Listed Met
walk_answer end (listed options fill) = Ok (record { count = length options; fill = fill; apcs = apcs_of (items_in options) })
walk_answer end (faulty fault remains) = Err (record { fault = fault; at = offset_before end remains })
