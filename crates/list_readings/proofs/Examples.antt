-- The definition computes: the list of figure 1 within its payload, and values that list no option.
-- Assumes nothing.
use mathlib.Core.Path.{◌≡◌, refl}
use mathlib.Core.List.{List, [], ◌∷◌}
use Prim.Native.Nat.{ℕ}
use Rattle.number_octets.specs.Octets.{number}
use Rattle.number_varint.specs.SevenBit.{is_last, groups, encoded}
use Rattle.wire_step.specs.Kinds.{class_of}
use Rattle.wire_step.specs.Step.{header_of, step_of}
use Rattle.wire_options.specs.Walk.{listed, walk_from, option_limit}
use Rattle.wire_reading.specs.declared.Verdict.TheVariants.{BadSum, Read}
use Rattle.list_entry.specs.Shape.{shape_of}
use Rattle.list_entry.specs.Option.{encoded_fields, encoded_body, encoded_option}
use Rattle.list_encoding.specs.Encoding.{encoded_options, encoded_list}
use Rattle.list_options.specs.Listing.{unworked, unworked_all, listing}
use Rattle.list_readings.specs.Catalogue.{walk_of_value}

-- header, option checksum, and a REQ with token 300 from byte 10 to the end
payload : List ℕ
payload =
    0x12 ∷ 0x34 ∷ 0x00 ∷ 0x35 ∷ 0x00 ∷ 0x08 ∷ 0x01 ∷ 0x39 ∷ 0xF8 ∷ 0xC5 ∷ 0x06 ∷ 0x06 ∷ 0x00 ∷ 0x00 ∷ 0x01 ∷ 0x2C ∷ []

figure-1 : listing (walk_of_value payload Read 10 16) ≡ 0x01 ∷ 0x06 ∷ 0xAC ∷ 0x02 ∷ []
unfolding payload number is_last groups encoded class_of header_of step_of walk_from option_limit shape_of encoded_fields encoded_body
    encoded_option encoded_options encoded_list unworked unworked_all listing walk_of_value
figure-1 = refl

other-verdict : walk_of_value payload BadSum 10 16 ≡ listed [] 0
unfolding walk_of_value
other-verdict = refl

-- no reading gives these two
past_the_end : walk_of_value payload Read 10 17 ≡ listed [] 0
unfolding payload walk_of_value
past_the_end = refl

backwards : walk_of_value payload Read 16 10 ≡ listed [] 0
unfolding walk_of_value
backwards = refl
