-- The definition gives the published CRCs: antt computes each. The first five are those of iSCSI (RFC 3720, appendix B.4), whose bytes are the number's in
-- network byte order. Assumes nothing.
use mathlib.Core.Path.{◌≡◌, refl}
use mathlib.Core.List.{List, [], ◌∷◌, reverse}
use Prim.Native.Nat.{ℕ, zero, suc, ◌+◌}
use lib.ListN.{replicate}
use Rattle.number_octets.specs.Octets.{number, octets}
use Rattle.number_crc_steps.specs.Steps.{polynomial, bit_step, steps}
use Rattle.number_crc32c.specs.Crc.{ones, byte_step, register, reflected, swapped, crc_of}

-- `count` numbers from `start` on
abbrev upwards : ℕ → ℕ → List ℕ
upwards zero start = []
upwards (suc count) start = start ∷ upwards count (start + 1)

-- a SCSI Read (10) command of iSCSI
abbrev read_command : List ℕ
read_command =
    0x01 ∷ 0xC0 ∷ 0x00 ∷ 0x00 ∷ 0x00 ∷ 0x00 ∷ 0x00 ∷ 0x00 ∷ 0x00 ∷ 0x00 ∷ 0x00 ∷ 0x00 ∷ 0x00 ∷ 0x00 ∷ 0x00 ∷ 0x00 ∷
    0x14 ∷ 0x00 ∷ 0x00 ∷ 0x00 ∷ 0x00 ∷ 0x00 ∷ 0x04 ∷ 0x00 ∷ 0x00 ∷ 0x00 ∷ 0x00 ∷ 0x14 ∷ 0x00 ∷ 0x00 ∷ 0x00 ∷ 0x18 ∷
    0x28 ∷ 0x00 ∷ 0x00 ∷ 0x00 ∷ 0x00 ∷ 0x00 ∷ 0x00 ∷ 0x00 ∷ 0x02 ∷ 0x00 ∷ 0x00 ∷ 0x00 ∷ 0x00 ∷ 0x00 ∷ 0x00 ∷ 0x00 ∷ []

pub record Vectors : Type 0 where
  zeros : crc_of (replicate 32 0) ≡ 0xAA36_918A
  all_set : crc_of (replicate 32 0xFF) ≡ 0x43AB_A862
  incrementing : crc_of (upwards 32 0) ≡ 0x4E79_DD46
  decrementing : crc_of (reverse (upwards 32 0)) ≡ 0x5CDB_3F11
  command : crc_of read_command ≡ 0x563A_96D9
  -- "123456789"
  check : crc_of (upwards 9 0x31) ≡ 0x8392_06E3
  empty : crc_of [] ≡ 0

pub vectors : Vectors
unfolding polynomial ones bit_step steps byte_step register reflected swapped crc_of number octets
vectors = record { zeros = refl; all_set = refl; incrementing = refl; decrementing = refl; command = refl; check = refl; empty = refl }
