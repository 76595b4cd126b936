-- Where the options of a list stand, and where a fault is met (document 02, R-7). A walk says how many bytes of its list remain there; a place is
-- counted from the start of the list, so that the place of a list's first byte is 0.
use Rattle.std.specs.Prelude.{◌≡◌, Some, None, List, [], ◌∷◌, ◌⊎◌, ℕ, ◌+◌, ◌-◌, ◌≤◌, ◌<◌, length, drop, get_or}
pub use Rattle.wire_step.specs.Kinds.{nop, frag}
use Rattle.wire_step.specs.Step.{step_of}
use Rattle.wire_step.specs.declared.Step.TheVariants.{Found as OptionStep, Malformed as Unsound, Eol, Outlawed}
use Rattle.wire_options.specs.Walk.{Located, item_of}
use Rattle.wire_options.specs.declared.walk.Fault.{Fault}
use Rattle.wire_options.specs.declared.walk.Fault.TheVariants.{Malformed, Unsafe, FragData, Crowded, Tail, Padded}
use Rattle.wire_offsets.specs.Next.{next_of}

-- the place from which so many bytes remain
abbrev pub place_before : List ℕ → ℕ → ℕ
place_before l remains = length l - remains

-- the place of an option's kind byte
abbrev pub place_in : List ℕ → Located → ℕ
place_in l option = place_before l option.remains

-- what holds of each of some options
abbrev pub Each : (Located → Type 0) → List Located → Type 0
Each P [] = Unit {0}
Each P (option ∷ options) = P option × Each P options

-- ---- options

-- an option stands at its place: its bytes lie in the list, and the step there finds it
pub record Stands (l : List ℕ) (option : Located) : Type 0 where
  pub within : place_in l option < length l
  pub some : 0 < option.size
  pub fits : place_in l option + option.size ≤ length l
  pub remaining : option.remains ≡ length (drop (place_in l option) l)
  pub byte : get_or l (place_in l option) 0 ≡ option.item.kind
  pub header : ℕ
  pub found : step_of (drop (place_in l option) l) ≡ OptionStep option.item.kind header option.size
  pub whole : option.item ≡ item_of option.item.kind header option.size (drop (place_in l option) l)
  pub other : option.item.kind ≡ frag → ⊥

-- each option ends before every later one starts: places rise, and no two options share a byte
abbrev pub Apart : List ℕ → List Located → Type 0
Apart l [] = Unit {0}
Apart l (option ∷ options) = Each (λ later. place_in l option + option.size ≤ place_in l later) options × Apart l options

-- ---- options of a list that is the end of longer bytes

-- the place of an option's kind byte, counted from the start of the bytes; the list starts at `from`
abbrev pub place_from : List ℕ → ℕ → Located → ℕ
place_from bytes from option = from + place_in (drop from bytes) option

-- an option stands at that place, in the list and before its fill
pub record StandsFrom (bytes : List ℕ) (from fill : ℕ) (option : Located) : Type 0 where
  pub behind : from ≤ place_from bytes from option
  pub some : 0 < option.size
  pub ends : place_from bytes from option + option.size + fill ≤ length bytes
  pub byte : get_or bytes (place_from bytes from option) 0 ≡ option.item.kind
  pub header : ℕ
  pub found : step_of (drop (place_from bytes from option) bytes) ≡ OptionStep option.item.kind header option.size
  pub whole : option.item ≡ item_of option.item.kind header option.size (drop (place_from bytes from option) bytes)

-- each option ends before every later one starts
abbrev pub ApartFrom : List ℕ → ℕ → List Located → Type 0
ApartFrom bytes from [] = Unit {0}
ApartFrom bytes from (option ∷ options) =
    Each (λ later. place_from bytes from option + option.size ≤ place_from bytes from later) options × ApartFrom bytes from options

pub record OptionsFrom (bytes : List ℕ) (from fill : ℕ) (options : List Located) : Type 0 where
  pub stand : Each (StandsFrom bytes from fill) options
  pub apart : ApartFrom bytes from options

-- ---- options got one by one

-- what `next_option` says of the option at a place of the list
pub record Got (l : List ℕ) (place kind header size : ℕ) (option : Located) : Type 0 where
  pub placed : place_in l option ≡ place
  pub remaining : option.remains ≡ length (drop place l)
  pub sized : option.size ≡ size
  pub whole : option.item ≡ item_of kind header size (drop place l)
  pub some : 0 < size
  pub fits : place + size ≤ length l
  pub other : kind ≡ frag → ⊥

-- These options are got one by one from `at` on: each behind the NOPs that follow the one before, until none comes any more.
pub data Turns (l : List ℕ) : ℕ → List Located → Type 0 where
  done : {at : ℕ} → next_of (drop at l) ≡ None → Turns l at []
  turn : {at : ℕ} {option : Located} {later : List Located} (n kind header size : ℕ) → next_of (drop at l) ≡ Some (record { at = n; header = header; kind = kind; size = size })
      → Got l (at + n) kind header size option → Turns l (at + n + size) later → Turns l at (option ∷ later)

-- ---- faults

-- the first byte behind an EOL that is not zero: from the EOL up to it all are
pub record TailAt (l : List ℕ) (place : ℕ) : Type 0 where
  pub nonzero : get_or l place 0 ≡ 0 → ⊥
  pub end : ℕ
  pub behind : end < place
  pub ends : step_of (drop end l) ≡ Eol
  pub zeros : (i : ℕ) → end ≤ i → i < place → get_or l i 0 ≡ 0

-- a NOP with seven in front of it
pub record PaddedAt (l : List ℕ) (place : ℕ) : Type 0 where
  pub nops : (i : ℕ) → i ≤ 7 → get_or l (place - i) 0 ≡ nop
  pub seven : 7 ≤ place

-- what stands at the place where a fault is met: an option that is none, or FRAG where it has no place; an unsafe kind; one sound option too many
abbrev pub MetAt : List ℕ → ℕ → Fault → Type 0
MetAt l place Malformed = (step_of (drop place l) ≡ Unsound) ⊎ ((header size : ℕ) × (step_of (drop place l) ≡ OptionStep frag header size))
MetAt l place Unsafe = (step_of (drop place l) ≡ Outlawed) × (192 ≤ get_or l place 0)
MetAt l place Crowded = (header size : ℕ) × (step_of (drop place l) ≡ OptionStep (get_or l place 0) header size) × (get_or l place 0 ≡ frag → ⊥)
MetAt l place Tail = TailAt l place
MetAt l place Padded = PaddedAt l place
MetAt l place FragData = ⊥

-- a fault is met at a byte of the list
pub record FaultAt (l : List ℕ) (fault : Fault) (remains : ℕ) : Type 0 where
  pub within : remains ≤ length l
  pub some : 0 < remains
  pub met : MetAt l (place_before l remains) fault

-- what that byte is: a kind that has a header, FRAG too; an unsafe kind; FRAG; a kind that has a header and is not FRAG; no zero; NOP
abbrev pub ByteOf : Fault → ℕ → Type 0
ByteOf Malformed byte = (2 ≤ byte) × (byte ≤ 191)
ByteOf Unsafe byte = 192 ≤ byte
ByteOf FragData byte = byte ≡ frag
ByteOf Crowded byte = (2 ≤ byte) × (byte ≤ 191) × (byte ≡ frag → ⊥)
ByteOf Tail byte = byte ≡ 0 → ⊥
ByteOf Padded byte = byte ≡ nop
