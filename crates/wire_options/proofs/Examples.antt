-- The walk computes: EOL with zeros behind it, with other bytes, and what is met before it; NOPs in a row, in plain and in strict reading. A fault has
-- the number of bytes that remain from where it was met.
-- Assumes nothing.
use mathlib.Core.Path.{◌≡◌, refl}
use mathlib.Core.List.{List, [], ◌∷◌}
use Prim.Native.Nat.{ℕ, zero, suc}
use Rattle.number_octets.specs.Octets.{number}
use Rattle.number_octets.specs.Zeros.{all_zero, zeros_of}
use Rattle.wire_nops.specs.Nops.{nop_limit}
use Rattle.wire_nops.specs.declared.Strictness.TheVariants.{Plain, Strict}
use Rattle.wire_nops.proofs.Examples.{padded}
use Rattle.wire_step.specs.Kinds.{class_of}
use Rattle.wire_step.specs.Step.{header_of, step_of}
use Rattle.wire_options.specs.Walk.{Located, listed, faulty, walk_from, option_limit}
use Rattle.wire_options.specs.Strict.{strict_from, walk_by}
use Rattle.wire_options.specs.declared.walk.Fault.TheVariants.{Malformed, Unsafe, Crowded, Tail, Padded}

-- EOL alone, and with zeros behind it: the fill
one : walk_from option_limit 0 (0x00 ∷ []) ≡ listed [] 1
unfolding number all_zero zeros_of class_of header_of step_of walk_from option_limit
one = refl

zeros : walk_from option_limit 0 (0x01 ∷ 0x00 ∷ 0x00 ∷ 0x00 ∷ []) ≡ listed [] 3
unfolding number all_zero zeros_of class_of header_of step_of walk_from option_limit
zeros = refl

-- a byte right behind EOL, and the last byte: met there
first : walk_from option_limit 0 (0x00 ∷ 0x01 ∷ 0x00 ∷ 0x00 ∷ []) ≡ faulty Tail 3
unfolding number all_zero zeros_of class_of header_of step_of walk_from option_limit
first = refl

last : walk_from option_limit 0 (0x00 ∷ 0x00 ∷ 0x00 ∷ 0x80 ∷ []) ≡ faulty Tail 1
unfolding number all_zero zeros_of class_of header_of step_of walk_from option_limit
last = refl

-- what looks like an unsafe option there is none; in front of EOL it is met first, and so is a malformed one
unsafe-behind : walk_from option_limit 0 (0x00 ∷ 0xC0 ∷ []) ≡ faulty Tail 1
unfolding number all_zero zeros_of class_of header_of step_of walk_from option_limit
unsafe-behind = refl

unsafe-before : walk_from option_limit 0 (0xC0 ∷ 0x00 ∷ 0x01 ∷ []) ≡ faulty Unsafe 3
unfolding number all_zero zeros_of class_of header_of step_of walk_from option_limit
unsafe-before = refl

malformed-before : walk_from option_limit 0 (0x06 ∷ 0x05 ∷ 0x00 ∷ 0x01 ∷ []) ≡ faulty Malformed 4
unfolding number all_zero zeros_of class_of header_of step_of walk_from option_limit
malformed-before = refl

-- so many options of kind 9 without a body, EOL and a byte that is not zero
abbrev many : ℕ → List ℕ
many zero = 0x00 ∷ 0x01 ∷ []
many (suc n) = 0x09 ∷ 0x02 ∷ many n

full : walk_from option_limit 0 (many 32) ≡ faulty Tail 1
unfolding number all_zero zeros_of class_of header_of step_of walk_from option_limit
full = refl

crowded : walk_from option_limit 0 (many 33) ≡ faulty Crowded 4
unfolding number all_zero zeros_of class_of header_of step_of walk_from option_limit
crowded = refl

-- ---- NOPs in a row (document 02, R-6)

-- MDS 8, and what a list with one comes to, from which so many bytes remain
abbrev mds : List ℕ → List ℕ
mds l = 0x04 ∷ 0x04 ∷ 0x00 ∷ 0x08 ∷ l

abbrev one_mds : ℕ → List Located
one_mds remains = record { remains = remains; size = 4; item = record { kind = 4; body = 0x00 ∷ 0x08 ∷ [] } } ∷ []

-- seven, eight and nine before an option: met at the eighth; and eight in plain reading
seven-before : walk_by Strict option_limit 0 (padded 7 (mds [])) ≡ listed (one_mds 4) 0
unfolding number class_of header_of step_of walk_from strict_from nop_limit option_limit
seven-before = refl

eight-before : walk_by Strict option_limit 0 (padded 8 (mds [])) ≡ faulty Padded 5
unfolding number class_of header_of step_of walk_from strict_from nop_limit option_limit
eight-before = refl

nine-before : walk_by Strict option_limit 0 (padded 9 (mds [])) ≡ faulty Padded 6
unfolding number class_of header_of step_of walk_from strict_from nop_limit option_limit
nine-before = refl

eight-plain : walk_by Plain option_limit 0 (padded 8 (mds [])) ≡ listed (one_mds 4) 0
unfolding number class_of header_of step_of walk_from option_limit
eight-plain = refl

-- seven on either side of an option, and eight behind it
seven-around : walk_by Strict option_limit 0 (padded 7 (mds (padded 7 []))) ≡ listed (one_mds 11) 0
unfolding number class_of header_of step_of walk_from strict_from nop_limit option_limit
seven-around = refl

eight-behind : walk_by Strict option_limit 0 (mds (padded 8 [])) ≡ faulty Padded 1
unfolding number class_of header_of step_of walk_from strict_from nop_limit option_limit
eight-behind = refl

-- eight as the body of an option, and behind EOL, where they are a tail
eight-in-body : walk_by Strict option_limit 0 (0x09 ∷ 0x0A ∷ padded 8 []) ≡ listed (record { remains = 10; size = 10; item = record { kind = 9; body = padded 8 [] } } ∷ []) 0
unfolding number class_of header_of step_of walk_from strict_from nop_limit option_limit
eight-in-body = refl

eight-behind-eol : walk_by Strict option_limit 0 (0x00 ∷ padded 8 []) ≡ faulty Tail 8
unfolding number all_zero zeros_of class_of header_of step_of walk_from strict_from nop_limit option_limit
eight-behind-eol = refl

-- what is met first decides: an unsafe option before the eighth NOP, and behind it
unsafe-eighth : walk_by Strict option_limit 0 (padded 7 (0xC0 ∷ 0x01 ∷ [])) ≡ faulty Unsafe 2
unfolding number class_of header_of step_of walk_from strict_from nop_limit option_limit
unsafe-eighth = refl

unsafe-ninth : walk_by Strict option_limit 0 (padded 8 (0xC0 ∷ [])) ≡ faulty Padded 2
unfolding number class_of header_of step_of walk_from strict_from nop_limit option_limit
unsafe-ninth = refl
