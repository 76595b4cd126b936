-- The definitions compute: the list of figure 1 with a fill behind it, the same with a tail, an APC with NOPs around it, and a faulty list.
-- Assumes nothing.
use mathlib.Core.Path.{◌≡◌, refl}
use mathlib.Core.Bool.{true, false}
use mathlib.Core.List.{List, [], ◌∷◌}
use Prim.Native.Nat.{ℕ}
use lib.ListN.{replicate}
use Rattle.number_octets.specs.Octets.{number}
use Rattle.number_octets.specs.Zeros.{all_zero}
use Rattle.number_varint.specs.SevenBit.{is_last, groups, encoded}
use Rattle.wire_step.specs.Kinds.{class_of}
use Rattle.wire_step.specs.Step.{header_of, step_of}
use Rattle.wire_options.specs.Walk.{walk_from, option_limit}
use Rattle.list_entry.specs.Shape.{shape_of}
use Rattle.list_entry.specs.Option.{encoded_fields, encoded_body, encoded_option}
use Rattle.list_encoding.specs.Encoding.{encoded_options, encoded_list}
use Rattle.list_options.specs.Listing.{unworked, unworked_all, fill_of, listing, room_for}

-- a REQ with token 300, and EOL with two zero bytes behind it
request : List ℕ
request = 0x06 ∷ 0x06 ∷ 0x00 ∷ 0x00 ∷ 0x01 ∷ 0x2C ∷ 0x00 ∷ 0x00 ∷ 0x00 ∷ []

figure-1 : listing (walk_from option_limit 0 request) ≡ 0x01 ∷ 0x06 ∷ 0xAC ∷ 0x02 ∷ []
unfolding request number all_zero is_last groups encoded class_of header_of step_of walk_from option_limit shape_of encoded_fields encoded_body
    encoded_option encoded_options encoded_list unworked unworked_all listing
figure-1 = refl

filled : fill_of (walk_from option_limit 0 request) ≡ 3
unfolding request number all_zero class_of header_of step_of walk_from option_limit
filled = refl

-- a byte behind EOL that is not zero: no option, and no fill
tail : listing (walk_from option_limit 0 (0x06 ∷ 0x06 ∷ 0x00 ∷ 0x00 ∷ 0x01 ∷ 0x2C ∷ 0x00 ∷ 0x00 ∷ 0x07 ∷ [])) ≡ 0x00 ∷ []
unfolding number all_zero is_last groups encoded class_of header_of step_of walk_from option_limit shape_of encoded_fields encoded_body
    encoded_option encoded_options encoded_list unworked unworked_all listing
tail = refl

-- four bytes of room are enough, three are not
enough : room_for (walk_from option_limit 0 request) (replicate 4 0) ≡ true
unfolding request number all_zero is_last groups encoded class_of header_of step_of walk_from option_limit shape_of encoded_fields encoded_body
    encoded_option encoded_options encoded_list unworked unworked_all listing room_for
enough = refl

too_few : room_for (walk_from option_limit 0 request) (replicate 3 0) ≡ false
unfolding request number all_zero is_last groups encoded class_of header_of step_of walk_from option_limit shape_of encoded_fields encoded_body
    encoded_option encoded_options encoded_list unworked unworked_all listing room_for
too_few = refl

-- an APC between NOPs, and an option of kind 127 with a body of two bytes: the APC's value is left out, and NOPs are not listed
mixed : listing (walk_from option_limit 0 (0x01 ∷ 0x02 ∷ 0x06 ∷ 0xAA ∷ 0x36 ∷ 0x91 ∷ 0x8A ∷ 0x01 ∷ 0x7F ∷ 0x04 ∷ 0x08 ∷ 0x09 ∷ []))
    ≡ 0x02 ∷ 0x02 ∷ 0x7F ∷ 0x02 ∷ 0x08 ∷ 0x09 ∷ []
unfolding number is_last groups encoded class_of header_of step_of walk_from option_limit shape_of encoded_fields encoded_body
    encoded_option encoded_options encoded_list unworked unworked_all listing
mixed = refl

-- a REQ of length 5 is malformed: no option
faulty-list : listing (walk_from option_limit 0 (0x06 ∷ 0x05 ∷ 0x00 ∷ 0x00 ∷ 0x00 ∷ [])) ≡ 0x00 ∷ []
unfolding number is_last groups encoded class_of header_of step_of walk_from option_limit shape_of encoded_fields encoded_body
    encoded_option encoded_options encoded_list unworked unworked_all listing
faulty-list = refl
