-- The walk of a list that FRAG leads computes: EOL in a piece's options, up to Frag. Start, and NOPs in a row, before FRAG and behind it.
-- The list stands at packet offset 10, behind the option checksum of a datagram without user data; a fault has its own packet offset.
-- Assumes nothing.
use mathlib.Core.Path.{◌≡◌, refl}
use mathlib.Core.Bool.{true, false}
use mathlib.Core.List.{List, [], ◌∷◌}
use Prim.Native.Nat.{ℕ}
use Rattle.number_octets.specs.Octets.{number}
use Rattle.number_octets.specs.Zeros.{all_zero, zeros_of}
use Rattle.number_offsets.specs.Offsets.{udp_header, place_of}
use Rattle.wire_nops.specs.Nops.{nop_limit, nops_of}
use Rattle.wire_nops.specs.declared.Strictness.TheVariants.{Plain, Strict}
use Rattle.wire_nops.proofs.Examples.{padded}
use Rattle.wire_step.specs.Kinds.{class_of}
use Rattle.wire_step.specs.Step.{header_of, step_of}
use Rattle.wire_options.specs.Strict.{strict_from}
use Rattle.wire_options.specs.Walk.{walk_from, option_limit}
use Rattle.wire_options.specs.declared.walk.Fault.TheVariants.{FragData, Tail, Padded}
use Rattle.wire_area.specs.Area.{fields_of, fragment_of, AreaWalk, piece, fault, area_of}

-- FRAG with this Frag. Start, identification 7, place 0, and what stands behind it
abbrev led : ℕ → List ℕ → List ℕ
led start rest = 0x03 ∷ 0x0A ∷ 0x00 ∷ start ∷ 0x00 ∷ 0x00 ∷ 0x00 ∷ 0x07 ∷ 0x00 ∷ 0x08 ∷ rest

-- the bytes of a fragment that starts and ends there
abbrev fragment : ℕ → ℕ → AreaWalk
fragment start end = piece (record {
  identification = 7;
  place = record { 0 = 0 };
  start = record { 0 = start };
  end = record { 0 = end };
  last = false;
  option_start = record { 0 = 0 };
})

-- EOL right before Frag. Start, at 21: what stands behind is the piece's
eol-last : area_of Plain true 10 (led 21 (0x00 ∷ 0xAA ∷ 0xBB ∷ [])) ≡ fragment 21 23
unfolding number all_zero zeros_of place_of udp_header class_of header_of step_of walk_from option_limit nops_of fields_of fragment_of area_of
eol-last = refl

-- a zero between them, and another byte
zero-between : area_of Plain true 10 (led 22 (0x00 ∷ 0x00 ∷ 0xBB ∷ [])) ≡ fragment 22 23
unfolding number all_zero zeros_of place_of udp_header class_of header_of step_of walk_from option_limit nops_of fields_of fragment_of area_of
zero-between = refl

other-between : area_of Plain true 10 (led 22 (0x00 ∷ 0xAA ∷ 0xBB ∷ [])) ≡ fault Tail (record { 0 = 21 })
unfolding number all_zero zeros_of place_of udp_header class_of header_of step_of walk_from option_limit nops_of fields_of fragment_of area_of
other-between = refl

-- with user data FRAG is met first; behind EOL it is not met
with-data : area_of Plain false 10 (led 22 (0x00 ∷ 0xAA ∷ 0xBB ∷ [])) ≡ fault FragData (record { 0 = 10 })
unfolding number all_zero zeros_of place_of udp_header class_of header_of step_of walk_from option_limit nops_of fields_of fragment_of area_of
with-data = refl

frag-behind-eol : area_of Plain true 10 (0x00 ∷ led 22 (0xAA ∷ [])) ≡ fault Tail (record { 0 = 11 })
unfolding number all_zero zeros_of place_of udp_header class_of header_of step_of walk_from option_limit nops_of fields_of fragment_of area_of
frag-behind-eol = refl

-- ---- NOPs in a row (document 02, R-6)

-- seven and eight before FRAG, with and without user data, and eight in plain reading; FRAG ends at 27 behind seven
seven-before-frag : area_of Strict true 10 (padded 7 (led 27 (0xAA ∷ []))) ≡ fragment 27 28
unfolding number place_of udp_header class_of header_of step_of walk_from strict_from nop_limit option_limit nops_of fields_of fragment_of area_of
seven-before-frag = refl

eight-before-frag : area_of Strict true 10 (padded 8 (led 28 (0xAA ∷ []))) ≡ fault Padded (record { 0 = 17 })
unfolding number place_of udp_header class_of header_of step_of walk_from strict_from nop_limit option_limit nops_of fields_of fragment_of area_of
eight-before-frag = refl

eight-with-data : area_of Strict false 10 (padded 8 (led 28 (0xAA ∷ []))) ≡ fault Padded (record { 0 = 17 })
unfolding number place_of udp_header class_of header_of step_of walk_from strict_from nop_limit option_limit nops_of fields_of fragment_of area_of
eight-with-data = refl

eight-before-plainly : area_of Plain true 10 (padded 8 (led 28 (0xAA ∷ []))) ≡ fragment 28 29
unfolding number place_of udp_header class_of header_of step_of walk_from option_limit nops_of fields_of fragment_of area_of
eight-before-plainly = refl

-- seven before FRAG and seven behind it: FRAG starts the count again; eight behind it, up to Frag. Start and past it
seven-around-frag : area_of Strict true 10 (padded 7 (led 34 (padded 7 (0xAA ∷ [])))) ≡ fragment 34 35
unfolding number place_of udp_header class_of header_of step_of walk_from strict_from nop_limit option_limit nops_of fields_of fragment_of area_of
seven-around-frag = refl

eight-in-piece : area_of Strict true 10 (led 28 (padded 8 (0xAA ∷ []))) ≡ fault Padded (record { 0 = 27 })
unfolding number place_of udp_header class_of header_of step_of walk_from strict_from nop_limit option_limit nops_of fields_of fragment_of area_of
eight-in-piece = refl

eight-past-start : area_of Strict true 10 (led 27 (padded 8 [])) ≡ fragment 27 28
unfolding number place_of udp_header class_of header_of step_of walk_from strict_from nop_limit option_limit nops_of fields_of fragment_of area_of
eight-past-start = refl

-- with user data a good FRAG is met before the NOPs behind it
data-before-nops : area_of Strict false 10 (led 28 (padded 8 (0xAA ∷ []))) ≡ fault FragData (record { 0 = 10 })
unfolding number place_of udp_header class_of header_of step_of walk_from strict_from nop_limit option_limit nops_of fields_of fragment_of area_of
data-before-nops = refl
