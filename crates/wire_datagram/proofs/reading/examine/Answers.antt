-- `wire_datagram::reading::examine` meets its contract: the code makes the papers' tests in the papers' order.
use mathlib.Core.Path.{ap₂, ◌≡◌, sym, ap, ◌∙◌}
use mathlib.Core.Bool.{false}
use mathlib.Core.List.{List, ◌++◌}
use lib.Dec.{eqb}
use lib.ListN.{drop, length, take}
use lib.Seq.{length-take-le}
use Rattle.number_checksum.specs.Checksum.{word_sum, folded}
use Rattle.wire_surplus.specs.Surplus.{start_of}
use Rattle.wire_reading.specs.Reading.{is_odd, started, payload_limit}
use Rattle.wire_datagram.specs.Reading.{pseudo_header, udp_length, accepted, reads}
use mathlib.Core.Logic.{inl, inr, ⊎_elim}
use Prim.Native.Nat.{ℕ, ◌≤◌}
use native.Mathlib.Omega.{arith}
use Rattle.number_offsets.specs.Offsets.{udp_header}
use Rattle.wire_datagram.proofs.Refusals.{Sized, sum_of, refused-short, refused-long, refused-small, refused-large, refused-sum, reading-accepted}
use Rattle.wire_datagram.proofs.reading.examine.Goals as goal
use Rattle.wire_datagram.proofs.reading.examine.Goals.{else-checksum-ne0-via-then-checksum-ne0+else-udp_sum, else-checksum-ne0-via-else-checksum-ne0}

-- what refusals 1 to 3 leave
sized : (p : List ℕ) (size : ℕ) → size ≡ udp_length p → 8 ≤ length p → length p ≤ 65515 → 8 ≤ size → size ≤ length p → Sized p
unfolding udp_header payload_limit
sized p size e least most header within = record { least = omega arith; most = omega arith; header = omega arith; within = omega arith }

-- the sum that the code makes is the one that refusal 4 looks at
sum_is : (p s d : List ℕ) (size r : ℕ) → size ≡ udp_length p → size ≤ length p
    → r ≡ folded (word_sum false (pseudo_header s d (length (take size p)) ++ take size p)) → r ≡ sum_of p s d
sum_is p s d size r e h q =
    q ∙ ap (λ (n : ℕ). folded (word_sum false (pseudo_header s d n ++ take size p))) (length-take-le size p h)
    ∙ ap (λ (n : ℕ). folded (word_sum false (pseudo_header s d n ++ take n p))) e

pub returns-then-payload-lt-UDP_HEADER : goal.returns-then-payload-lt-UDP_HEADER
unfolding udp_header
returns-then-payload-lt-UDP_HEADER c = let a = c.args in
    sym (refused-short a.strictness a.payload.now a.source a.destination c.if-payload-lt-UDP_HEADER.true)

pub returns-then-payload-gt-PAYLOAD_LIMIT : goal.returns-then-payload-gt-PAYLOAD_LIMIT
unfolding udp_header payload_limit
returns-then-payload-gt-PAYLOAD_LIMIT c = let a = c.args in
    sym (refused-long a.strictness a.payload.now a.source a.destination c.if-payload-lt-UDP_HEADER.false c.if-payload-gt-PAYLOAD_LIMIT.true)

pub returns-then-size-lt-UDP_HEADER : goal.returns-then-size-lt-UDP_HEADER
unfolding udp_header payload_limit
returns-then-size-lt-UDP_HEADER c = let a = c.args in
    let e = c.get_u16-size.ensures in
    let some = c.if-payload-lt-UDP_HEADER.false in
    let few = c.if-payload-gt-PAYLOAD_LIMIT.false in
    ⊎_elim (λ h. sym (refused-small a.strictness a.payload.now a.source a.destination some few (omega (arith, h, e))))
    (λ h. sym (refused-large a.strictness a.payload.now a.source a.destination some few (omega (arith, h.0, e)) (omega (arith, h.1, e))))
    c.then-size-lt-UDP_HEADER.either

pub returns-then-udp_sum : goal.returns-then-udp_sum
unfolding udp_header payload_limit
returns-then-udp_sum c = let a = c.args in
    let e = c.get_u16-size.ensures in
    let z = sized a.payload.now _ c.get_u16-size.ensures c.if-payload-lt-UDP_HEADER.false c.if-payload-gt-PAYLOAD_LIMIT.false c.if-size-lt-UDP_HEADER.false c.if-payload-size.false in
    let sum = sum_is a.payload.now a.source a.destination _ _ e (omega (arith, z.within)) c.udp_sum.ensures in
    sym (refused-sum a.strictness a.payload.now a.source a.destination z (λ n. c.if-checksum-ne0.true (c.get_u16-checksum.ensures ∙ n))
    (λ n. c.if-udp_sum.true (sum ∙ n)))

pub accept-reading-requires : goal.accept-reading-requires
accept-reading-requires c =
    let a = c.args in
    let z = sized a.payload.now _ c.get_u16-size.ensures c.if-payload-lt-UDP_HEADER.false c.if-payload-gt-PAYLOAD_LIMIT.false c.if-size-lt-UDP_HEADER.false c.if-payload-size.false in
    let e = c.get_u16-size.ensures in
    (omega (arith, z.header), omega (arith, z.within), z.most)

pub returns : goal.returns
unfolding udp_header payload_limit accepted
returns c = let a = c.args in
    let z = sized a.payload.now _ c.get_u16-size.ensures c.if-payload-lt-UDP_HEADER.false c.if-payload-gt-PAYLOAD_LIMIT.false c.if-size-lt-UDP_HEADER.false c.if-payload-size.false in
    let e = c.get_u16-size.ensures in
    let k = c.get_u16-checksum.ensures in
    ap reads (c.from.ensures ∙ c.accept-reading.ensures
    ∙ ap₂ (λ (n m : ℕ). started a.strictness a.payload.now n (start_of (is_odd n) (eqb m 0) (drop n a.payload.now))) e k)
    ∙ sym (reading-accepted a.strictness a.payload.now a.source a.destination z
    (elim c.else-checksum-ne0.branch [
      | else-checksum-ne0-via-then-checksum-ne0+else-udp_sum w ↦ inr (sym (sum_is a.payload.now a.source a.destination _ _ e (omega (arith, z.within)) w.udp_sum.ensures) ∙ w.if-udp_sum.false)
      | else-checksum-ne0-via-else-checksum-ne0 w ↦ inl (sym k ∙ w.if-checksum-ne0.false)
    ]))
