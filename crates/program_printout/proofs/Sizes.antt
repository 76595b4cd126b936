-- Every report fits the program's text: a payload has at most 32 options, whose bodies together are no longer than it, each line has at most four
-- numbers of 20 digits, and each byte of a body takes two digits.
-- Assumes nothing.
use mathlib.Core.Path.{◌≡◌, refl}
use mathlib.Core.Bool.{Bool, true, false, cond}
use mathlib.Core.List.{List, [], ◌∷◌, ◌++◌}
use Rattle.std.proofs.Common.{Option, Some, None}
use Prim.Native.Nat.{ℕ, zero, suc, ◌+◌, ◌*◌, ◌/◌, ◌%◌, ◌≤◌}
use native.Mathlib.Omega.{arith}
use borrow.Author.Tests.{ltb-false}
use lib.Dec.{eqb, ltb}
use lib.ListN.{length, take, drop, length-append, length-take, length-drop}
use Rattle.number_tests.proofs.Tests.{first-none}
use Rattle.number_offsets.specs.declared.PacketOffset.{PacketOffset}
use Rattle.number_octets.specs.Octets.{number, part}
use Rattle.wire_nops.specs.declared.Strictness.TheVariants.{Plain}
use Rattle.wire_step.specs.Kinds.{widths_of}
use Rattle.wire_options.specs.Walk.{Item, Located, Walked, listed, faulty, walk_from, option_limit, options_of, offset_before}
use Rattle.wire_options.proofs.Sizes.{body_sizes, walk-bounded}
use Rattle.wire_reading.specs.Extents.{bytes_in, size_of}
use Rattle.wire_datagram.specs.Reading.{Answer, refused, reads, reading}
use Rattle.wire_reading.specs.Reading.{payload_limit, is_read}
use Rattle.wire_reading.specs.Verdict.{fault_at}
use Rattle.wire_reading.specs.declared.Extent.{Extent}
use Rattle.wire_reading.specs.Packet.{PacketReading as Reading}
use Rattle.wire_reading.specs.declared.Verdict.{Verdict}
use Rattle.wire_reading.specs.declared.Verdict.TheVariants.{Bare, Short, Pad, Unsummed, BadSum, Malformed, Unsafe, FragData, Crowded, Tail, Padded, Read, Piece}
use Rattle.wire_datagram.proofs.Claims.{met-none}
use Rattle.program_text.specs.Digits.{digit, digits_in, longest, decimal_of, hex_of}
use Rattle.program_text.specs.Characters.{blank, newline}
use Rattle.program_text.specs.Offsets.{at_offset}
use Rattle.program_lines.specs.Lines.{numbers_of, body_of, fields_by, fields_of, option_line, option_lines}
use Rattle.program_verdict.specs.Words.{word_of, end_by, verdict_line}
use Rattle.program_report.specs.Words.{user_word, fill_word, refused_word}
use Rattle.program_report.specs.Report.{number_line, listing_of, reading_text, answer_text, report_of}
use Rattle.program_printout.specs.Input.{address_size, addresses, text_of, text_limit}

-- ---- numbers and bytes

digits-size : (places n : ℕ) → length (digits_in places n) ≤ places
unfolding digits_in
digits-size zero n = omega arith
digits-size (suc places) n = go (ltb n 10) (digits-size places (n / 10))
  where
    go : (t : Bool) → length (digits_in places (n / 10)) ≤ places
        → length (cond t (digit n ∷ []) (digits_in places (n / 10) ++ (digit (n % 10) ∷ []))) ≤ suc places
    go true ih = omega arith
    go false ih = simp length-append (omega arith)

decimal-size : (n : ℕ) → length (decimal_of n) ≤ longest
unfolding decimal_of
decimal-size n = digits-size longest n

hex-size : (bytes : List ℕ) → length (hex_of bytes) ≡ 2 * length bytes
unfolding hex_of
hex-size [] = refl
hex-size (b ∷ bytes) = omega (arith, hex-size bytes)

-- ---- an option

numbers-size : (widths body : List ℕ) → length (numbers_of widths body) ≤ 21 * length widths
unfolding numbers_of
numbers-size [] body = omega arith
numbers-size (width ∷ widths) body =
    let n : ℕ = number (take width body) in
    omega (arith, length-append (decimal_of n) (numbers_of widths (drop width body)), decimal-size n, numbers-size widths (drop width body))

body-size : (body : List ℕ) → length (body_of body) ≤ 1 + 2 * length body
unfolding body_of
body-size [] = omega arith
body-size (b ∷ bytes) = omega (arith, hex-size (b ∷ bytes))

-- no kind has more than two numbers
widths-few : (kind : ℕ) → length (widths_of kind) ≤ 2
widths-few kind = go (eqb kind 2) (eqb kind 4) (eqb kind 5) (eqb kind 6) (eqb kind 7) (eqb kind 8)
  where
    go : (a b c d e f : Bool)
        → length {A = ℕ} (cond a (4 ∷ []) (cond b (2 ∷ []) (cond c (2 ∷ 1 ∷ []) (cond d (4 ∷ []) (cond e (4 ∷ []) (cond f (4 ∷ 4 ∷ []) [])))))) ≤ 2
    go true b c d e f = omega arith
    go false true c d e f = omega arith
    go false false true d e f = omega arith
    go false false false true e f = omega arith
    go false false false false true f = omega arith
    go false false false false false true = omega arith
    go false false false false false false = omega arith

fields-size : (kind : ℕ) (body : List ℕ) → length (fields_of kind body) ≤ 42 + 2 * length body
fields-size kind body = go (widths_of kind) (widths-few kind)
  where
    go : (widths : List ℕ) → length widths ≤ 2 → length (fields_by widths body) ≤ 42 + 2 * length body
    go [] few = omega (arith, body-size body)
    go (width ∷ widths) few = omega (arith, numbers-size (width ∷ widths) body)

-- how long a line is besides its body
abbrev line_size : ℕ
line_size = 92

offset-size : (offset : PacketOffset) → length (at_offset offset) ≤ 25
unfolding at_offset
offset-size offset = omega (arith, length-append (decimal_of offset.0) (newline ∷ []), decimal-size offset.0)

option-size : (offset : PacketOffset) (item : Item) → length (option_line offset item) ≤ line_size + 2 * length item.body
unfolding option_line
option-size offset item =
    let kind : List ℕ = decimal_of item.kind in
    let fields : List ℕ = fields_of item.kind item.body in
    omega (
      arith,
      length-append (kind ++ fields) (at_offset offset),
      length-append kind fields,
      decimal-size item.kind,
      fields-size item.kind item.body,
      offset-size offset,
    )

options-size : (end : ℕ) (options : List Located) → length (option_lines end options) ≤ line_size * length options + 2 * body_sizes options
unfolding option_lines
options-size end [] = omega arith
options-size end (option ∷ options) =
    let offset : PacketOffset = offset_before end option.remains in
    omega (arith, length-append (option_line offset option.item) (option_lines end options), option-size offset option.item, options-size end options)

-- ---- the other lines

number_size : (word : List ℕ) (n : ℕ) → length (number_line word n) ≤ length word + 22
unfolding number_line
number_size word n = all
  where
    all : length (word ++ (blank ∷ []) ++ decimal_of n ++ (newline ∷ [])) ≤ length word + 22
    all = simp length-append (omega (arith, decimal-size n))

word_size : (verdict : Verdict) → length (word_of verdict) ≤ 9
word_size Bare = omega arith
word_size Short = omega arith
word_size Pad = omega arith
word_size Unsummed = omega arith
word_size BadSum = omega arith
word_size (Malformed at) = omega arith
word_size (Unsafe at) = omega arith
word_size (FragData at) = omega arith
word_size (Crowded at) = omega arith
word_size (Tail at) = omega arith
word_size (Padded at) = omega arith
word_size Read = omega arith
word_size (Piece f) = omega arith

end-size : (fault : Option PacketOffset) → length (end_by fault) ≤ 25
end-size None = omega arith
end-size (Some at) = offset-size at

verdict-size : (verdict : Verdict) → length (verdict_line verdict) ≤ 42
unfolding verdict_line
verdict-size verdict = omega (arith, length-append (word_of verdict) (end_by (fault_at verdict)), word_size verdict, end-size (fault_at verdict))

-- ---- the whole

walk-size : (end : ℕ) (list : List ℕ) → length (option_lines end (options_of (walk_from option_limit 0 list))) ≤ line_size * option_limit + 2 * length list
unfolding option_lines option_limit
walk-size end list = go (walk_from option_limit 0 list) refl
  where
    go : (w : Walked) → walk_from option_limit 0 list ≡ w → length (option_lines end (options_of w)) ≤ line_size * option_limit + 2 * length list
    go (faulty f remains) e = omega arith
    go (listed options fill) e =
        let b = walk-bounded option_limit 0 list options fill (omega arith) e in omega (arith, options-size end options, b.few, b.bodies)

listing-size : (payload : List ℕ) (options : Extent) (fill : ℕ) → length (listing_of payload options fill) ≤ 2970 + 2 * length payload
unfolding listing_of option_limit
listing-size payload options fill =
    let list : List ℕ = bytes_in options payload in
    let part_of : length list ≤ length payload = simp (length-take, length-drop) (omega arith) in
    let lines : List ℕ = option_lines options.to.0 (options_of (walk_from option_limit 0 list)) in
    omega (arith, length-append lines (number_line fill_word fill), walk-size options.to.0 list, number_size fill_word fill)

reading-size : (payload : List ℕ) (r : Reading) → length (reading_text payload r) ≤ 3038 + 2 * length payload
unfolding reading_text
reading-size payload r = go (is_read r.verdict)
  where
    user : List ℕ
    user = number_line user_word (size_of r.user)

    verdict : List ℕ
    verdict = verdict_line r.verdict

    listing : List ℕ
    listing = listing_of payload r.options r.fill

    rest : Bool → List ℕ
    rest t = cond t listing []

    rest-size : (t : Bool) → length (rest t) ≤ 2970 + 2 * length payload
    rest-size true = listing-size payload r.options r.fill
    rest-size false = omega arith

    go : (t : Bool) → length (user ++ verdict ++ rest t) ≤ 3038 + 2 * length payload
    go t =
        omega (
          arith,
          length-append (user ++ verdict) (rest t),
          length-append user verdict,
          number_size user_word (size_of r.user),
          verdict-size r.verdict,
          rest-size t,
        )

-- a payload that is read is within the limit
read-limit : (payload source destination : List ℕ) (r : Reading) → reading Plain payload source destination ≡ reads r → length payload ≤ payload_limit
read-limit payload source destination r e =
    let none = (met-none Plain payload source destination r e).0 in
    ltb-false payload_limit (length payload) (first-none _ _ (first-none _ _ none).1).0

report-size : (payload source destination : List ℕ) → length (report_of payload source destination) ≤ text_limit
unfolding report_of text_limit payload_limit
report-size payload source destination = go (reading Plain payload source destination) refl
  where
    go : (answer : Answer) → reading Plain payload source destination ≡ answer → length (answer_text payload answer) ≤ text_limit
    go (refused n) e = omega (arith, number_size refused_word n)
    go (reads r) e =
        let limit = read-limit payload source destination r e in omega (arith, reading-size payload r)

pub input-fits : (input : List ℕ) → length (text_of input) ≤ text_limit
unfolding text_of text_limit
input-fits input = go (ltb (length input) addresses)
  where
    short : List ℕ
    short = number_line refused_word 1

    long : List ℕ
    long = report_of (drop addresses input) (take address_size input) (part address_size address_size input)

    small : length short ≤ text_limit
    small = omega (arith, number_size refused_word 1)

    go : (t : Bool) → length (cond t short long) ≤ text_limit
    go true = small
    go false = report-size (drop addresses input) (take address_size input) (part address_size address_size input)
