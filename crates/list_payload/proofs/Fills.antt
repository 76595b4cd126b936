-- The fill that is read and the fill that is written (document 02, R-2): what is read with "read" has, behind its options, what a writer with
-- that fill writes there.
-- Assumes nothing.
use mathlib.Core.Path.{◌≡◌, refl, sym, ap, ◌∙◌}
use mathlib.Core.Bool.{Bool}
use mathlib.Core.List.{List, [], ◌∷◌, ◌++◌, append_assoc}
use Prim.Native.Nat.{ℕ, ◌+◌, ◌-◌}
use native.Mathlib.Omega.{arith}
use lib.ListN.{length, drop, replicate, length-append, length-replicate}
use lib.Seq.{drop_at}
use Rattle.number_octets.specs.Octets.{octets}
use Rattle.number_checksum.specs.Checksum.{word_sum, folded, sent}
use Rattle.wire_nops.specs.declared.Strictness.{Strictness}
use Rattle.wire_options.specs.Walk.{Item}
use Rattle.wire_datagram.specs.Reading.{reads, reading}
use Rattle.wire_reading.specs.Reading.{is_odd}
use Rattle.wire_reading.specs.declared.Verdict.TheVariants.{Read}
use Rattle.wire_reading.specs.Packet.{PacketReading as Reading}
use Rattle.wire_datagram.proofs.Lists.{reading-fill}
use Rattle.list_payload.specs.Payload.{wires, worked_all, list_of, padding, area_with, area_of, Datagram, size_of, datagram_with, udp_checksum_of, payload_of}

-- bytes that end in so many zeros
record Ends (bytes : List ℕ) (fill : ℕ) : Type 0 where
  front : List ℕ
  whole : bytes ≡ front ++ replicate fill 0

behind : (a b : List ℕ) (fill : ℕ) → Ends b fill → Ends (a ++ b) fill
behind a b fill e = record { front = a ++ e.front; whole = ap (λ (t : List ℕ). a ++ t) e.whole ∙ sym (append_assoc a e.front (replicate fill 0)) }

ends-zeros : (bytes : List ℕ) (fill : ℕ) → Ends bytes fill → drop (length bytes - fill) bytes ≡ replicate fill 0
ends-zeros bytes fill e =
    let zeros : List ℕ = replicate fill 0 in
    let size : length bytes ≡ length e.front + fill =
    ap length e.whole ∙ length-append e.front zeros ∙ ap (λ (n : ℕ). length e.front + n) (length-replicate fill 0) in
    let at : length e.front ≡ length bytes - fill = omega arith in
    ap (drop (length bytes - fill)) e.whole ∙ drop_at e.front zeros (length bytes - fill) at

area-ends : (odd : Bool) (user : List ℕ) (items : List Item) (fill : ℕ) → Ends (area_of odd (list_of user items fill)) fill
unfolding area_of list_of
area-ends odd user items fill =
    let list : List ℕ = wires (worked_all user items) ++ replicate fill 0 in
    let ocs : List ℕ = octets 2 (sent (folded (length (area_with odd (0 ∷ 0 ∷ []) list) + word_sum odd (area_with odd (0 ∷ 0 ∷ []) list)))) in
    behind (padding odd) (ocs ++ list) fill (behind ocs list fill (record { front = wires (worked_all user items); whole = refl }))

-- what the writer makes ends in its fill, zero bytes
pub written-fill : (d : Datagram) → drop (length (payload_of d) - d.fill) (payload_of d) ≡ replicate d.fill 0
unfolding payload_of
written-fill d =
    let front : List ℕ = datagram_with d (octets 2 (udp_checksum_of d)) in
    let area : List ℕ = area_of (is_odd (size_of d)) (list_of d.user d.items d.fill) in
    ends-zeros (front ++ area) d.fill (behind front area d.fill (area-ends (is_odd (size_of d)) d.user d.items d.fill))

-- What is read with "read" ends, behind its options, in what a writer with the same fill writes there, whatever else it writes. `payload_of` takes any
-- fill, and the call `write` one up to 255: for those it is what the call writes.
pub fill-as-written : (how : Strictness) (p s t : List ℕ) (r : Reading) → reading how p s t ≡ reads r → r.verdict ≡ Read → (d : Datagram) → d.fill ≡ r.fill
    → drop (length p - r.fill) p ≡ drop (length (payload_of d) - d.fill) (payload_of d)
fill-as-written how p s t r e v d same = (reading-fill how p s t r e v).zeros ∙ ap (λ (n : ℕ). replicate n 0) (sym same) ∙ sym (written-fill d)
