-- The definitions compute: the option of figure 1 in its payload, the same option in an original, and values that give none.
-- Assumes nothing.
use mathlib.Core.Path.{◌≡◌, refl}
use mathlib.Core.List.{List, [], ◌∷◌}
use Prim.Native.Nat.{ℕ}
use Rattle.number_octets.specs.Octets.{number}
use Rattle.number_offsets.specs.Offsets.{udp_header, offset_of}
use Rattle.wire_nops.specs.Nops.{nops_of}
use Rattle.wire_step.specs.Kinds.{class_of}
use Rattle.wire_step.specs.Step.{header_of, step_of}
use Rattle.wire_offsets.specs.Next.{next_of}
use Rattle.wire_reading.specs.Reading.{extent}
use Rattle.wire_reading.specs.declared.Verdict.TheVariants.{BadSum, Read}
use Rattle.wire_original.specs.Rereading.{places}
use Rattle.host_options.specs.Options.{no_packet_option, next_in, no_original_option, renext_in}

-- ---- of a payload

-- header, option checksum, and a REQ with token 300 from byte 10 to the end
payload : List ℕ
payload =
    0x12 ∷ 0x34 ∷ 0x00 ∷ 0x35 ∷ 0x00 ∷ 0x08 ∷ 0x01 ∷ 0x39 ∷ 0xF8 ∷ 0xC5 ∷ 0x06 ∷ 0x06 ∷ 0x00 ∷ 0x00 ∷ 0x01 ∷ 0x2C ∷ []

-- document 02's `kind 6 300 at 10`: the token stands from 12 to 16
figure-1 : next_in payload Read (extent 10 16) ≡ record { found = 1; kind = 6; offset = record { 0 = 10 }; body = extent 12 16 }
unfolding payload number nops_of class_of header_of step_of next_of next_in
figure-1 = refl

-- none comes behind it
behind-it : next_in payload Read (extent 16 16) ≡ no_packet_option
unfolding payload nops_of step_of next_of next_in
behind-it = refl

other-verdict : next_in payload BadSum (extent 10 16) ≡ no_packet_option
unfolding next_in
other-verdict = refl

-- no reading gives these two
past_the_end : next_in payload Read (extent 10 17) ≡ no_packet_option
unfolding payload next_in
past_the_end = refl

backwards : next_in payload Read (extent 16 10) ≡ no_packet_option
unfolding next_in
backwards = refl

-- ---- of an original

-- no user data: option checksum, and the same REQ from place 2 to the end
original : List ℕ
original = 0x00 ∷ 0x00 ∷ 0x06 ∷ 0x06 ∷ 0x00 ∷ 0x00 ∷ 0x01 ∷ 0x2C ∷ []

-- "an offset is 8 plus the place": the option stands at place 2, its token from place 4 to 8
reread : renext_in original Read (places 2 8) ≡ record { found = 1; kind = 6; offset = record { 0 = 10 }; body = places 4 8 }
unfolding original number udp_header offset_of nops_of class_of header_of step_of next_of renext_in
reread = refl

behind-it-reread : renext_in original Read (places 8 8) ≡ no_original_option
unfolding original nops_of step_of next_of renext_in
behind-it-reread = refl

other-verdict-reread : renext_in original BadSum (places 2 8) ≡ no_original_option
unfolding renext_in
other-verdict-reread = refl
