-- `list_writer::put_payload` meets its contract: the datagram is laid in front of the area, whose parity is that of the datagram's size and whose
-- checksum is set last.
use mathlib.Core.Path.{◌≡◌, ap}
use mathlib.Core.List.{List, ◌++◌}
use Prim.Native.Nat.{ℕ, ◌+◌, ◌%◌}
use native.Mathlib.Omega.{arith}
use lib.ListN.{length, replicate, length-append}
use Rattle.number_octets.specs.Octets.{octets}
use Rattle.number_octets.proofs.Laws.{length-octets}
use Rattle.number_offsets.specs.Offsets.{udp_header}
use Rattle.number_crc32c.specs.Crc.{crc_of}
use Rattle.wire_reading.specs.Reading.{is_odd}
use Rattle.list_payload.specs.Payload.{Datagram, size_of, area_of, udp_checksum_of}
use Rattle.list_writer.specs.Plain.{plain}
use Rattle.list_wire.specs.Parts.{summed, wires_listed, listed_bytes, payload_from}
use Rattle.list_wire.proofs.Laying.{laid_as, laid-length}
use Rattle.list_area.proofs.Blanks.{area-size, blank-size, laid-under, payload-summed}
use Rattle.list_writer.proofs.Datagrams.{datagram-size}
use Rattle.list_writer.proofs.put_payload.Goals as goal

-- the datagram's size
size_is : (d : Datagram) → length (summed d) ≡ 8 + length d.user
size_is d = datagram-size d (octets 2 (udp_checksum_of d)) (length-octets 2 (udp_checksum_of d))

-- the area, by the CRC of the user data
area : (d : Datagram) (list : List ℕ) (fill crc : ℕ) → wires_listed crc list ≡ wires_listed (crc_of d.user) list
    → area_of (is_odd (8 + length d.user)) (listed_bytes crc list fill) ≡ area_of (is_odd (size_of d)) (listed_bytes (crc_of d.user) list fill)
unfolding udp_header
area d list fill crc e = ap (λ (w : List ℕ). area_of (is_odd (size_of d)) (w ++ replicate fill 0)) e

-- what the payload takes, by its parts
blank-room : (d : Datagram) (list : List ℕ) (fill crc : ℕ) → wires_listed crc list ≡ wires_listed (crc_of d.user) list
    → length (payload_from d list fill) ≡ 8 + length d.user + length (replicate ((8 + length d.user) % 2 + 2) 0 ++ listed_bytes crc list fill)
blank-room d list fill crc e =
    let n : ℕ = 8 + length d.user in
    let l : List ℕ = listed_bytes crc list fill in
    omega (
      arith,
      length-append (summed d) (area_of (is_odd (size_of d)) (listed_bytes (crc_of d.user) list fill)),
      size_is d,
      ap length (area d list fill crc e),
      blank-size n l,
    )

pub put_blank-end-requires : goal.put_blank-end-requires
put_blank-end-requires c = let d : Datagram = plain c.args.datagram.now in
    let l = c.args.list.now in
    let b = blank-room d l c.args.fill c.crc_for-crc.result c.crc_for-crc.ensures in
    omega (arith, b, c.requires.1)

pub put-requires : goal.put-requires
put-requires c = let d : Datagram = plain c.args.datagram.now in
    let l = c.args.list.now in
    let p = c.put_blank-end.ensures in
    let room = blank-room d l c.args.fill c.crc_for-crc.result c.crc_for-crc.ensures in
    let long = laid-length p (omega (arith, room, c.requires.1)) in
    omega (arith, room, long, c.requires.1)

pub put_ocs-requires : goal.put_ocs-requires
put_ocs-requires c = let d : Datagram = plain c.args.datagram.now in
    let l = c.args.list.now in
    let p = c.put_blank-end.ensures in
    let room = blank-room d l c.args.fill c.crc_for-crc.result c.crc_for-crc.ensures in
    let long = laid-length p (omega (arith, room, c.requires.1)) in
    let q = c.put.ensures in
    let n = size_is d in
    let longer = laid-length q (omega (arith, room, long, n, c.requires.1)) in
    let blank = blank-size (8 + length d.user) (listed_bytes c.crc_for-crc.result l c.args.fill) in
    let least = area-size ((8 + length d.user) % 2) (omega arith) (listed_bytes c.crc_for-crc.result l c.args.fill) in (
      omega (arith, p.ends, q.ends, n, blank, least),
      omega (arith, p.ends, room, long, longer, c.requires.1),
      omega (arith, p.ends, q.ends, n, room, c.requires.0),
    )

pub returns : goal.returns
returns c = let d : Datagram = plain c.args.datagram.now in
    let l = c.args.list.now in
    let p = c.put_blank-end.ensures in
    let room = blank-room d l c.args.fill c.crc_for-crc.result c.crc_for-crc.ensures in
    let long = laid-length p (omega (arith, room, c.requires.1)) in
    let q = c.put.ensures in
    let n = size_is d in
    let bytes : List ℕ = listed_bytes c.crc_for-crc.result l c.args.fill in
    let whole = laid-under (summed d) _ p q n (omega (arith, room, c.requires.1)) in
    laid_as (ap (λ (x : List ℕ). summed d ++ x) (area d l c.args.fill c.crc_for-crc.result c.crc_for-crc.ensures))
    (payload-summed (summed d) (8 + length d.user) bytes whole n (omega (arith, room, blank-size (8 + length d.user) bytes, c.requires.1))
    c.put_ocs.ensures)
