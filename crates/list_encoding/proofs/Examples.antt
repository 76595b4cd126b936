-- The definitions compute: figures 1 and 8 of document 01, what decides between refusals 7 and 9, and the edges of each limit.
-- Assumes nothing.
use mathlib.Core.Path.{◌≡◌, refl}
use mathlib.Core.List.{List, [], ◌∷◌}
use Prim.Native.Nat.{ℕ}
use lib.ListN.{replicate}
use Rattle.number_octets.specs.Octets.{number, octets}
use Rattle.number_varint.specs.SevenBit.{is_last, is_idle, is_narrow, in_front, front, narrowed, number as front_number, groups, encoded}
use Rattle.wire_options.specs.Walk.{Item, option_limit}
use Rattle.list_entry.specs.Shape.{shape_of}
use Rattle.list_entry.specs.Option.{forbidden, item_of, encoded_fields, encoded_body, encoded_option, read_number, read_fields, read_body, read_kind, read_option}
use Rattle.list_encoding.specs.Encoding.{Answer, given, refused, unreadable, encoded_options, encoded_list, read_options, decoded_list}
use Rattle.list_encoding.specs.Wire.{whole_length, body_on_wire, option_size, wire_size, measured}

-- figure 1: a REQ with token 300; figure 3: no option
figure-1 : decoded_list (0x01 ∷ 0x06 ∷ 0xAC ∷ 0x02 ∷ []) ≡ given (item_of 6 (0 ∷ 0 ∷ 1 ∷ 0x2C ∷ []) ∷ [])
unfolding is_last is_idle is_narrow in_front front narrowed front_number octets shape_of option_limit
    read_number read_fields read_body read_kind read_option read_options decoded_list
figure-1 = refl

figure-3 : decoded_list (0x00 ∷ []) ≡ given []
unfolding is_last is_idle is_narrow in_front front narrowed front_number octets shape_of option_limit
    read_number read_fields read_body read_kind read_option read_options decoded_list
figure-3 = refl

-- figure 8: 80 00 is not the shortest form of 0
figure-8 : decoded_list (0x01 ∷ 0x06 ∷ 0x80 ∷ 0x00 ∷ []) ≡ refused unreadable
unfolding is_last is_idle is_narrow in_front front narrowed front_number octets shape_of option_limit
    read_number read_fields read_body read_kind read_option read_options decoded_list
figure-8 = refl

-- lists that are refused as 9, and as 7
nines : List (List ℕ)
nines = (0x02 ∷ 0x06 ∷ 0x00 ∷ 0x03 ∷ []) ∷ (0x01 ∷ 0x03 ∷ 0xFF ∷ 0xFF ∷ []) ∷ (0x01 ∷ 0xC0 ∷ 0x01 ∷ []) ∷ (0x01 ∷ 0x00 ∷ []) ∷ []

sevens : List (List ℕ)
sevens =
    (0x02 ∷ 0x06 ∷ 0x80 ∷ 0x00 ∷ 0x03 ∷ []) ∷ (0x01 ∷ 0x83 ∷ 0x00 ∷ []) ∷ (0x01 ∷ 0x80 ∷ 0x02 ∷ []) ∷ [] ∷ (0x00 ∷ 0x00 ∷ [])
    ∷ (0x01 ∷ 0x04 ∷ 0x80 ∷ 0x80 ∷ 0x04 ∷ []) ∷ (0x01 ∷ 0x09 ∷ 0x02 ∷ 0x00 ∷ []) ∷ (0x01 ∷ 0x09 ∷ 0xFC ∷ 0xFF ∷ 0x03 ∷ [])
    ∷ (0x21 ∷ replicate 33 0x02) ∷ []

answers : List (List ℕ) → List (Answer (List Item))
answers [] = []
answers (l ∷ ls) = decoded_list l ∷ answers ls

refused-nine : answers nines ≡ replicate 4 (refused forbidden)
unfolding nines answers is_last is_idle is_narrow in_front front narrowed front_number octets shape_of option_limit
    read_number read_fields read_body read_kind read_option read_options decoded_list
refused-nine = refl

refused-seven : answers sevens ≡ replicate 9 (refused unreadable)
unfolding sevens answers is_last is_idle is_narrow in_front front narrowed front_number octets shape_of option_limit
    read_number read_fields read_body read_kind read_option read_options decoded_list
refused-seven = refl

-- 32 options are taken; an MDS of 65,535 and a body of one byte are written
most : decoded_list (0x20 ∷ replicate 32 0x02) ≡ given (replicate 32 (item_of 2 []))
unfolding is_last is_idle is_narrow in_front front narrowed front_number octets shape_of option_limit
    read_number read_fields read_body read_kind read_option read_options decoded_list
most = refl

written : encoded_list (item_of 4 (0xFF ∷ 0xFF ∷ []) ∷ item_of 190 (7 ∷ []) ∷ []) ≡ 0x02 ∷ 0x04 ∷ 0xFF ∷ 0xFF ∷ 0x03 ∷ 0xBE ∷ 0x01 ∷ 0x01 ∷ 0x07 ∷ []
unfolding is_last groups encoded number shape_of encoded_fields encoded_body encoded_option encoded_options encoded_list
written = refl

-- what `check` finds in figure 1, and the sizes around the extended form
totals-1 : measured (decoded_list (0x01 ∷ 0x06 ∷ 0xAC ∷ 0x02 ∷ [])) ≡ given (record { count = 1; size = 6 })
unfolding is_last is_idle is_narrow in_front front narrowed front_number octets shape_of option_limit
    read_number read_fields read_body read_kind read_option read_options decoded_list whole_length body_on_wire option_size wire_size
totals-1 = refl

longest-short : whole_length 252 ≡ 254
unfolding whole_length
longest-short = refl

shortest-extended : whole_length 253 ≡ 257
unfolding whole_length
shortest-extended = refl

apc-size : wire_size (item_of 2 [] ∷ []) ≡ 6
unfolding whole_length body_on_wire option_size wire_size
apc-size = refl
