-- The definitions compute: figures 1 and 8 of document 01, and the edges of the 64-bit range. Assumes nothing.
use mathlib.Core.Path.{◌≡◌, refl}
use mathlib.Core.Bool.{true, false}
use mathlib.Core.List.{[], ◌∷◌, ◌++◌}
use Prim.Native.Nat.{◌-◌, ◌^◌}
use lib.ListN.{replicate}
use Rattle.number_varint.specs.SevenBit.{is_last, is_idle, is_narrow, in_front, front, narrowed, number, groups, encoded, taken, untaken}
use Rattle.number_varint.specs.Answer.{found, unfound, unreadable, decoded_as, decoded_at, end_of, fits, placed}

-- figure 1: AC 02 is 300
figure-1 : decoded_at (0x01 ∷ 0x06 ∷ 0xAC ∷ 0x02 ∷ []) 2 ≡ found 300 4
unfolding is_last is_idle is_narrow in_front front narrowed number decoded_as decoded_at
figure-1 = refl

-- figure 8: 80 00 is not the shortest form of 0
figure-8 : decoded_at (0x01 ∷ 0x06 ∷ 0x80 ∷ 0x00 ∷ []) 2 ≡ unfound unreadable 2
unfolding is_last is_idle is_narrow in_front front narrowed number decoded_as decoded_at
figure-8 = refl

-- a number that is cut short
cut_short : decoded_at (0xAC ∷ []) 0 ≡ unfound unreadable 0
unfolding is_last is_idle is_narrow in_front front narrowed number decoded_as decoded_at
cut_short = refl

-- the largest number of 64 bits, and one of 65
largest : number (replicate 9 0xFF ++ (0x01 ∷ [])) ≡ taken (2 ^ 64 - 1) 10
unfolding is_last is_idle is_narrow in_front front narrowed number
largest = refl

too_wide : number (replicate 9 0x80 ++ (0x02 ∷ [])) ≡ untaken
unfolding is_last is_idle is_narrow in_front front narrowed number
too_wide = refl

-- a run of continuation bytes does not wrap into a small number
too_long : number (replicate 10 0x81 ++ (0x01 ∷ [])) ≡ untaken
unfolding is_last is_idle is_narrow in_front front narrowed number
too_long = refl

encoded-300 : encoded 300 ≡ 0xAC ∷ 0x02 ∷ []
unfolding is_last groups encoded
encoded-300 = refl

encoded-largest : encoded (2 ^ 64 - 1) ≡ replicate 9 0xFF ++ (0x01 ∷ [])
unfolding is_last groups encoded
encoded-largest = refl

placed-300 : placed 300 (1 ∷ 2 ∷ 3 ∷ 4 ∷ []) 1 ≡ 1 ∷ 0xAC ∷ 0x02 ∷ 4 ∷ []
unfolding is_last groups encoded end_of placed
placed-300 = refl

-- two bytes do not fit behind the second of three, and fit behind the first
no_room : fits 300 (1 ∷ 2 ∷ 3 ∷ []) 2 ≡ false
unfolding is_last groups encoded end_of fits
no_room = refl

room-enough : fits 300 (1 ∷ 2 ∷ 3 ∷ []) 1 ≡ true
unfolding is_last groups encoded end_of fits
room-enough = refl
