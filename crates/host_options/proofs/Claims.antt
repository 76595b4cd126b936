-- The calls of `next`, each behind the body of the option before, give the options of a reading one after another, each where it stands (document 02,
-- R-7): what remains of the option list reaches to the end of the bytes, and the options that are got from it one by one are those of the walk
-- (`options-by-turns`). The calls of `renext` give those of a rereading likewise.
-- Assumes nothing.
use Rattle.std.proofs.Common.{Option, Some, None}
use mathlib.Core.Path.{◌≡◌, refl, sym, ap, ap₂, subst, ◌∙◌}
use mathlib.Core.Bool.{Bool, false, cond, ◌&&◌}
use mathlib.Core.List.{List, [], ◌∷◌}
use Prim.Native.Nat.{ℕ, ◌+◌, ◌-◌, ◌≤◌}
use native.Mathlib.Omega.{arith}
use lib.Dec.{leb}
use lib.ListN.{length, take, drop, get_or, length-drop}
use lib.Seq.{drop-drop}
use Rattle.number_octets.specs.Octets.{part}
use Rattle.number_octets.proofs.Laws.{part-rest}
use Rattle.number_offsets.specs.Offsets.{offset_of}
use Rattle.wire_nops.specs.declared.Strictness.{Strictness}
use Rattle.wire_options.specs.Walk.{Item, Located, option_limit}
use Rattle.wire_offsets.specs.Next.{next_of}
use Rattle.wire_offsets.specs.Places.{place_from, Each, StandsFrom, OptionsFrom, Got, Turns, done, turn}
use Rattle.wire_offsets.specs.declared.Found.{Found}
use Rattle.wire_offsets.proofs.Nexts.{next_fits}
use Rattle.wire_offsets.proofs.Turns.{options-by-turns}
use Rattle.wire_reading.specs.Reading.{extent, is_read}
use Rattle.wire_reading.specs.Verdict.{verdict_says}
use Rattle.wire_reading.specs.declared.Extent.{Extent}
use Rattle.wire_reading.specs.Packet.{PacketReading as Reading}
use Rattle.wire_reading.specs.declared.Verdict.{Verdict}
use Rattle.wire_reading.specs.declared.Verdict.TheVariants.{Bare, Short, Pad, Unsummed, BadSum, Malformed, Unsafe, FragData, Crowded, Tail, Padded, Read, Piece}
use Rattle.wire_reading.proofs.Lists.{Lists, ListsIn}
use Rattle.wire_datagram.specs.Reading.{reads, reading}
use Rattle.wire_datagram.proofs.Offsets.{option-offsets}
use Rattle.wire_original.specs.Rereading.{places, rereads, rereading}
use Rattle.wire_original.specs.declared.OriginalExtent.{OriginalExtent}
use Rattle.wire_original.specs.Original.{OriginalReading as Rereading}
use Rattle.wire_original.proofs.Lists.{RelistsIn}
use Rattle.wire_original.proofs.Offsets.{reread-option-offsets}
use Rattle.list_readings.specs.Catalogue.{is_listed}
use Rattle.list_readings.proofs.Values.{by-verdict, none-listed}
use Rattle.host_readings.specs.Listable.{verdict_for}
use Rattle.host_options.specs.Options.{no_packet_option, packet_option, next_in, no_original_option, original_option, renext_in}
use Rattle.host_options.specs.declared.PacketOption.{PacketOption}
use Rattle.host_options.specs.declared.OriginalOption.{OriginalOption}

-- ---- what is claimed

-- An option of the list that starts at `start`, by the place of its kind byte and the two ends of its fields or body.
pub record Names (bytes : List ℕ) (start : ℕ) (option : Located) (place from to : ℕ) : Type 0 where
  pub placed : place ≡ place_from bytes start option
  pub byte : get_or bytes place 0 ≡ option.item.kind
  pub ordered : from ≤ to
  pub within : to ≤ length bytes
  pub body : part from (to - from) bytes ≡ option.item.body
  pub ends : to ≡ place + option.size

-- what an answer of `next` says of the option that it is
pub record Tells (payload : List ℕ) (start : ℕ) (option : Located) (answer : PacketOption) : Type 0 where
  pub found : answer.found ≡ 1
  pub kind : answer.kind ≡ option.item.kind
  pub names : Names payload start option answer.offset.0 answer.body.from.0 answer.body.to.0

-- what an answer of `renext` says: its offset is 8 plus the place
pub record OriginalTells (original : List ℕ) (start : ℕ) (option : Located) (answer : OriginalOption) : Type 0 where
  pub found : answer.found ≡ 1
  pub kind : answer.kind ≡ option.item.kind
  pub place : ℕ
  pub offset : answer.offset ≡ offset_of (record { 0 = place })
  pub names : Names original start option place answer.body.from.0 answer.body.to.0

-- These options are got by calls from `from` on: each call looks behind the body of the option before, until none comes any more.
pub data OneByOne {Answer : Type 0} (ask : ℕ → Answer) (none : Answer) (behind : Answer → ℕ) (Says : Located → Answer → Type 0) : ℕ → List Located → Type 0 where
  stop : {from : ℕ} → ask from ≡ none → OneByOne ask none behind Says from []
  call : {from : ℕ} {option : Located} {later : List Located} → Says option (ask from) → OneByOne ask none behind Says (behind (ask from)) later
      → OneByOne ask none behind Says from (option ∷ later)

-- by calls of `next`, in the list from `start` to `to`
abbrev pub Calls : List ℕ → ℕ → ℕ → ℕ → List Located → Type 0
Calls payload start to = OneByOne (λ from. next_in payload Read (extent from to)) no_packet_option (λ answer. answer.body.to.0) (Tells payload start)

-- by calls of `renext`
abbrev pub Recalls : List ℕ → ℕ → ℕ → ℕ → List Located → Type 0
Recalls original start to =
    OneByOne (λ from. renext_in original Read (places from to)) no_original_option (λ answer. answer.body.to.0) (OriginalTells original start)

-- ---- one call

-- a verdict's number in include/wuraketozo.h stands for "read" exactly if the verdict is "read"
number_read : (verdict : Verdict) → is_read (verdict_for (verdict_says verdict).number) ≡ is_read verdict
number_read Bare = refl
number_read Short = refl
number_read Pad = refl
number_read Unsummed = refl
number_read BadSum = refl
number_read (Malformed at) = refl
number_read (Unsafe at) = refl
number_read (FragData at) = refl
number_read (Crowded at) = refl
number_read (Tail at) = refl
number_read (Padded at) = refl
number_read Read = refl
number_read (Piece fragment) = refl

module _ {Answer : Type 0} (say : ℕ → Option Found → Answer) (none : Answer) (bytes : List ℕ) where
  -- as `next_in` and `renext_in` answer
  abbrev answered : Bool → ℕ → ℕ → Answer
  answered test from to = cond test (say from (next_of (part from (to - from) bytes))) none

  -- a list that reaches to the end of the bytes
  answered-read : (from to : ℕ) → from ≤ length bytes → to ≡ length bytes
      → answered (is_listed Read from to (length bytes)) from to ≡ say from (next_of (drop from bytes))
  answered-read from to h ends =
      ap (λ (t : Bool). answered t from to) (by-verdict Read from to (length bytes) (omega arith) (omega arith))
      ∙ ap (λ (l : List ℕ). say from (next_of l)) (ap (λ (n : ℕ). part from (n - from) bytes) ends ∙ part-rest from bytes)

  answered-none : (verdict : Verdict) (from to : ℕ) → is_read verdict ≡ false → answered (is_listed verdict from to (length bytes)) from to ≡ none
  answered-none verdict from to e = ap (λ (t : Bool). answered t from to) (none-listed verdict from to (length bytes) e)

  answered-number : (verdict : Verdict) (from to : ℕ)
      → answered (is_listed (verdict_for (verdict_says verdict).number) from to (length bytes)) from to
      ≡ answered (is_listed verdict from to (length bytes)) from to
  answered-number verdict from to = ap (λ (t : Bool). answered (t && leb from to && leb to (length bytes)) from to) (number_read verdict)

-- ---- one option

module _ (bytes : List ℕ) (start : ℕ) where
  abbrev list : List ℕ
  list = drop start bytes

  -- what is found `n` bytes behind `at` names the option that is got there
  names-got : (fill at n kind header size : ℕ) (option : Located) → next_of (drop at list) ≡ Some (record { at = n; header = header; kind = kind; size = size })
      → Got list (at + n) kind header size option → StandsFrom bytes start fill option
      → Names bytes start option (start + at + n) (start + at + n + header) (start + at + n + size)
  names-got fill at n kind header size option e got stands =
      let here : start + at + n ≡ place_from bytes start option = omega (arith, got.placed) in
      let fits = next_fits (drop at list) n kind header size e in
      let deep : start + (at + n) + header ≡ start + at + n + header = omega arith in
      let wide : size - header ≡ start + at + n + size - (start + at + n + header) = omega (arith, fits.0) in
      let skips : drop header (drop (at + n) list) ≡ drop (start + at + n + header) bytes =
      ap (drop header) (drop-drop (at + n) start bytes) ∙ drop-drop header (start + (at + n)) bytes ∙ ap (λ (i : ℕ). drop i bytes) deep in
      record {
        placed = here;
        byte = ap (λ (i : ℕ). get_or bytes i 0) here ∙ stands.byte;
        ordered = omega (arith, fits.0);
        within = omega (arith, got.some, got.fits, length-drop start bytes);
        body = sym (ap (λ (i : Item). i.body) got.whole ∙ ap₂ take wide skips);
        ends = omega (arith, got.sized);
      }

-- ---- all options

-- Where an answer is made of what is found, none of nothing, and says of an option that is found what it is, all options of the list are got.
module _ {Answer : Type 0} (ask : ℕ → Answer) (none : Answer) (behind : Answer → ℕ) (Says : Located → Answer → Type 0) (bytes : List ℕ) (start : ℕ)
    (say : ℕ → Option Found → Answer)
    (asks : (from : ℕ) → from ≤ length bytes → ask from ≡ say from (next_of (drop from bytes)))
    (stops : (from : ℕ) → say from None ≡ none)
    (says : (from n kind header size : ℕ) (option : Located) → kind ≡ option.item.kind
    → Names bytes start option (from + n) (from + n + header) (from + n + size) → Says option (say from (Some (record { at = n; header = header; kind = kind; size = size }))))
    (goes : (from n kind header size : ℕ) → behind (say from (Some (record { at = n; header = header; kind = kind; size = size }))) ≡ from + n + size) where
  asked : (at : ℕ) (next : Option Found) → start + at ≤ length bytes → next_of (drop at (drop start bytes)) ≡ next → ask (start + at) ≡ say (start + at) next
  asked at next h e = asks (start + at) h ∙ ap (say (start + at)) (ap next_of (sym (drop-drop at start bytes)) ∙ e)

  by-turns : (fill at : ℕ) (options : List Located) → start + at ≤ length bytes → Each (StandsFrom bytes start fill) options
      → Turns (drop start bytes) at options → OneByOne ask none behind Says (start + at) options
  by-turns fill at [] h stand (done e) = stop (asked at None h e ∙ stops (start + at))
  by-turns fill at (option ∷ later) h stand (turn n kind header size e got rest) =
      let answer = asked at (Some (record { at = n; header = header; kind = kind; size = size })) h e in
      let names = names-got bytes start fill at n kind header size option e got stand.0 in
      let kinds : kind ≡ option.item.kind = sym (ap (λ (i : Item). i.kind) got.whole) in
      let on : start + (at + n + size) ≡ behind (ask (start + at)) = omega (arith, ap behind answer, goes (start + at) n kind header size) in
      call (subst (Says option) (sym answer) (says (start + at) n kind header size option kinds names))
      (subst (λ (from : ℕ). OneByOne ask none behind Says from later) on
      (by-turns fill (at + n + size) later (omega (arith, names.within)) stand.1 rest))

  one_by_one : (to count fill : ℕ) (lists : Lists bytes start to count fill) → OptionsFrom bytes start fill lists.found
      → OneByOne ask none behind Says start lists.found
  one_by_one to count fill lists options =
      let front : start + 0 ≡ start = omega arith in
      subst (λ (from : ℕ). OneByOne ask none behind Says from lists.found) front
      (by-turns fill 0 lists.found (omega (arith, lists.ordered, lists.ends)) options.stand
      (options-by-turns (drop start bytes) option_limit lists.found fill lists.walks))

-- ---- the claims of a payload

module _ (payload : List ℕ) where
  next-read : (from to : ℕ) → from ≤ length payload → to ≡ length payload
      → next_in payload Read (extent from to) ≡ packet_option from (next_of (drop from payload))
  unfolding next_in
  next-read from to h ends = answered-read packet_option no_packet_option payload from to h ends

  -- with any verdict but "read" no call gives an option
  pub next-none : (verdict : Verdict) (rest : Extent) → is_read verdict ≡ false → next_in payload verdict rest ≡ no_packet_option
  unfolding next_in
  next-none verdict rest e = answered-none packet_option no_packet_option payload verdict rest.from.0 rest.to.0 e

  -- a call takes the number of a verdict: it answers by the verdict
  pub next-number : (verdict : Verdict) (rest : Extent) → next_in payload (verdict_for (verdict_says verdict).number) rest ≡ next_in payload verdict rest
  unfolding next_in
  next-number verdict rest = answered-number packet_option no_packet_option payload verdict rest.from.0 rest.to.0

-- with "read" the calls from the start of the option list give its options, as many as are counted
pub reading-calls : (how : Strictness) (payload s d : List ℕ) (r : Reading) → reading how payload s d ≡ reads r → r.verdict ≡ Read
    → (lists : ListsIn payload r) × Calls payload r.options.from.0 r.options.to.0 r.options.from.0 lists.found
reading-calls how payload s d r e v =
    let o = option-offsets how payload s d r e v in
    let start : ℕ = r.options.from.0 in
    let to : ℕ = r.options.to.0 in (
      o.0,
      one_by_one (λ from. next_in payload Read (extent from to)) no_packet_option (λ answer. answer.body.to.0) (Tells payload start) payload start
          packet_option (λ from h. next-read payload from to h o.0.ends) (λ from. refl)
          (λ from n kind header size option k names. record { found = refl; kind = k; names = names })
          (λ from n kind header size. refl) to r.count r.fill o.0 o.1,
    )

-- ---- the claims of an original

module _ (original : List ℕ) where
  renext-read : (from to : ℕ) → from ≤ length original → to ≡ length original
      → renext_in original Read (places from to) ≡ original_option from (next_of (drop from original))
  unfolding renext_in
  renext-read from to h ends = answered-read original_option no_original_option original from to h ends

  pub renext-none : (verdict : Verdict) (rest : OriginalExtent) → is_read verdict ≡ false → renext_in original verdict rest ≡ no_original_option
  unfolding renext_in
  renext-none verdict rest e = answered-none original_option no_original_option original verdict rest.from.0 rest.to.0 e

  pub renext-number : (verdict : Verdict) (rest : OriginalExtent)
      → renext_in original (verdict_for (verdict_says verdict).number) rest ≡ renext_in original verdict rest
  unfolding renext_in
  renext-number verdict rest = answered-number original_option no_original_option original verdict rest.from.0 rest.to.0

pub rereading-calls : (how : Strictness) (original : List ℕ) (option_start : ℕ) (r : Rereading) → rereading how original option_start ≡ rereads r → r.verdict ≡ Read
    → (lists : RelistsIn original r) × Recalls original r.options.from.0 r.options.to.0 r.options.from.0 lists.found
rereading-calls how original option_start r e v =
    let o = reread-option-offsets how original option_start r e v in
    let start : ℕ = r.options.from.0 in
    let to : ℕ = r.options.to.0 in (
      o.0,
      one_by_one (λ from. renext_in original Read (places from to)) no_original_option (λ answer. answer.body.to.0) (OriginalTells original start)
          original start original_option (λ from h. renext-read original from to h o.0.ends) (λ from. refl)
          (λ from n kind header size option k names. record { found = refl; kind = k; place = from + n; offset = refl; names = names })
          (λ from n kind header size. refl) to r.count r.fill o.0 o.1,
    )
