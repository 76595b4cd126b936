-- Reading one IPv4 payload (document 01, "Reading one IPv4 payload").
use Rattle.std.specs.Prelude.{Bool, false, not, ◌&&◌, ◌||◌, Result, Ok, Err, List, [], ◌∷◌, ◌++◌, ℕ, eqb, ltb, length, take, drop}
use Rattle.std.proofs.Math.Option.{Option, none, some}
use Rattle.number_octets.specs.Octets.{number, octets, part}
use Rattle.number_offsets.specs.Offsets.{udp_header}
use Rattle.number_tests.specs.Tests.{first_of}
use Rattle.number_checksum.specs.Checksum.{word_sum, folded, all_ones}
use Rattle.wire_nops.specs.declared.Strictness.{Strictness}
use Rattle.wire_surplus.specs.Surplus.{start_of}
use Rattle.wire_reading.specs.Reading.{payload_limit, started, is_odd}
use Rattle.wire_reading.specs.Packet.{PacketReading as Reading}
use Rattle.wire_datagram.specs.declared.reading.Refusal.{Refusal}
use Rattle.wire_datagram.specs.declared.reading.Refusal.TheVariants.{PayloadTooShort, PayloadTooLong, LengthOutOfRange, ChecksumWrong}

-- ---- the UDP header (RFC 768)

abbrev pub udp_length : List ℕ → ℕ
udp_length payload = number (part 4 2 payload)

abbrev pub udp_checksum : List ℕ → ℕ
udp_checksum payload = number (part 6 2 payload)

-- source, destination, zero, protocol 17 and UDP length
unfoldable pub pseudo_header : List ℕ → List ℕ → ℕ → List ℕ
pseudo_header source destination size = source ++ destination ++ (0 ∷ 17 ∷ octets 2 size)

-- the sum over a pseudo-header and the datagram behind it, folded
abbrev pub udp_sum : List ℕ → List ℕ → ℕ
udp_sum pseudo datagram = folded (word_sum false (pseudo ++ datagram))

-- it is FFFF where the checksum is right
abbrev pub sum_holds : List ℕ → List ℕ → Bool
sum_holds pseudo datagram = eqb (udp_sum pseudo datagram) all_ones

-- ---- tests in order

abbrev pub refusal_tests : List ℕ → List ℕ → List ℕ → List (Bool × ℕ)
refusal_tests payload source destination =
    let size = udp_length payload in
    (ltb (length payload) udp_header, 1)
    ∷ (ltb payload_limit (length payload), 2)
    ∷ (ltb size udp_header || ltb (length payload) size, 3)
    ∷ (not (eqb (udp_checksum payload) 0) && not (sum_holds (pseudo_header source destination size) (take size payload)), 4)
    ∷ []

-- the reading of a payload that no refusal meets; the area is what stands behind the UDP length
unfoldable pub accepted : Strictness → List ℕ → Reading
accepted how payload =
    let size = udp_length payload in
    started how payload size (start_of (is_odd size) (eqb (udp_checksum payload) 0) (drop size payload))

-- ---- the answer

-- a refusal's number, or the reading
pub data Answer : Type 0 where
  refused : ℕ → Answer
  reads : Reading → Answer

abbrev pub answered : Option ℕ → Reading → Answer
answered none reading = reads reading
answered (some number) reading = refused number

-- demand 2's reading of a payload, plain or strict
unfoldable pub reading : Strictness → List ℕ → List ℕ → List ℕ → Answer
reading how payload source destination = answered (first_of (refusal_tests payload source destination)) (accepted how payload)

-- the paper's number of each refusal
abbrev pub refusal_number : Refusal → ℕ
refusal_number PayloadTooShort = 1
refusal_number PayloadTooLong = 2
refusal_number LengthOutOfRange = 3
refusal_number ChecksumWrong = 4

abbrev pub answer_of : Result Reading Refusal → Answer
answer_of (Ok r) = reads r
answer_of (Err refusal) = refused (refusal_number refusal)
