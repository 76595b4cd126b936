-- What `entry_at` finds in the encoded option list of figure 1 of document 01, computed. Assumes nothing.
use mathlib.Core.Path.{◌≡◌, refl}
use mathlib.Core.List.{[], ◌∷◌}
use Rattle.number_octets.specs.Octets.{number, octets}
use Rattle.number_varint.specs.SevenBit.{is_last, is_idle, is_narrow, in_front, front, narrowed, number as front_number}
use Rattle.list_entry.specs.Shape.{shape_of}
use Rattle.list_entry.specs.Option.{given, read_number, read_fields, read_body, read_kind, read_option}
use Rattle.list_entry.specs.Answer.{numbers, values, entry_at}

entry-1 : entry_at (0x01 ∷ 0x06 ∷ 0xAC ∷ 0x02 ∷ []) 1 ≡ given (numbers 6 300 0 4)
unfolding is_last is_idle is_narrow in_front front narrowed front_number number octets shape_of
    read_number read_fields read_body read_kind read_option values entry_at
entry-1 = refl
