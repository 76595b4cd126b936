-- What the writer makes is read back, in plain and in strict reading: header fields stand where the reader looks, both checksums make their sums FFFF, and the walk of the
-- list gives the options and the fill.
-- Assumes nothing.
use mathlib.Core.Path.{◌≡◌, refl, sym, ap, ap₂, ◌∙◌}
use mathlib.Core.Bool.{false}
use mathlib.Core.List.{List, [], ◌∷◌, ◌++◌, append_assoc}
use mathlib.Core.Logic.{inr}
use Prim.Native.Nat.{ℕ, suc, ◌+◌, ◌-◌, ◌%◌, ◌≤◌, ◌<◌}
use native.Mathlib.Nat.{zero-add}
use native.Mathlib.Omega.{arith}
use lib.Dec.{eqb}
use lib.ListN.{length, take, drop, length-append}
use lib.Seq.{take_at, drop_at, drop-drop, drop-append-add}
use Rattle.number_octets.specs.Octets.{number, octets, part}
use Rattle.number_octets.proofs.Laws.{length-octets, number-octets}
use Rattle.number_offsets.specs.Offsets.{udp_header}
use Rattle.number_checksum.specs.Checksum.{word_sum, folded, sent, all_ones, parity_after}
use Rattle.number_checksum.proofs.Laws.{sent-le, field-law, parity-even}
use Rattle.wire_nops.specs.declared.Strictness.{Strictness}
use Rattle.wire_nops.specs.declared.Strictness.TheVariants.{Plain}
use Rattle.wire_options.specs.Walk.{Item, listed, walk_from, option_limit}
use Rattle.wire_area.specs.Area.{plain, area_of as area_walk}
use Rattle.wire_surplus.specs.Surplus.{pad_of, start_of}
use Rattle.wire_datagram.specs.Reading.{udp_length, udp_checksum, pseudo_header, accepted, reads, reading}
use Rattle.wire_reading.specs.Reading.{payload_limit, is_odd, walked, started}
use Rattle.wire_reading.specs.Packet.{PacketReading as Reading}
use Rattle.wire_datagram.proofs.Refusals.{Sized, sum_of, reading-accepted}
use Rattle.list_payload.specs.Payload.{worked_all, standing, list_of, area_of, Datagram, size_of, front_of, datagram_with, udp_checksum_of, payload_of}
use Rattle.list_payload.proofs.Wires.{Each, walk-wires}
use Rattle.list_payload.proofs.Areas.{plain-area, area-starts, area-list}

-- what the writer takes
pub record Takes (d : Datagram) : Type 0 where
  pub source : length d.source ≡ 4
  pub destination : length d.destination ≡ 4
  pub few : length d.items ≤ option_limit
  pub each : Each (worked_all d.user d.items)
  pub fits : length (payload_of d) ≤ payload_limit

-- ---- where the header's fields stand

-- a part behind a list of n bytes
skip : (a rest : List ℕ) (n at k : ℕ) → length a ≡ n → part (n + at) k (a ++ rest) ≡ part at k rest
skip a rest n at k e = ap (λ (m : ℕ). part (m + at) k (a ++ rest)) (sym e) ∙ ap (take k) (drop-append-add a rest at)

two_at : (w : ℕ) (rest : List ℕ) → part 0 2 (octets 2 w ++ rest) ≡ octets 2 w
two_at w rest = take_at (octets 2 w) rest 2 (length-octets 2 w)

module _ (d : Datagram) where
  abbrev sum : List ℕ
  sum = octets 2 (udp_checksum_of d)

  abbrev area : List ℕ
  area = area_of (is_odd (size_of d)) (list_of d.user d.items d.fill)

  abbrev behind : List ℕ
  behind = sum ++ (d.user ++ area)

  laid : payload_of d ≡ octets 2 d.source_port ++ (octets 2 d.destination_port ++ (octets 2 (size_of d) ++ behind))
  unfolding payload_of
  laid = simp append_assoc

  length_front : length (front_of d) ≡ 6
  length_front =
      length-append (octets 2 d.source_port) (octets 2 d.destination_port ++ octets 2 (size_of d))
      ∙ ap₂ ◌+◌ (length-octets 2 d.source_port)
      (length-append (octets 2 d.destination_port) (octets 2 (size_of d))
      ∙ ap₂ ◌+◌ (length-octets 2 d.destination_port) (length-octets 2 (size_of d)))

  length-datagram : length (datagram_with d sum) ≡ size_of d
  unfolding udp_header
  length-datagram =
      let a : length (datagram_with d sum) ≡ length (front_of d) + length (sum ++ d.user) = length-append (front_of d) (sum ++ d.user) in
      let b : length (sum ++ d.user) ≡ length sum + length d.user = length-append sum d.user in
      omega (arith, length_front, length-octets 2 (udp_checksum_of d))

  front-is : take (size_of d) (payload_of d) ≡ datagram_with d sum
  unfolding payload_of
  front-is = take_at (datagram_with d sum) area (size_of d) length-datagram

  area-is : drop (size_of d) (payload_of d) ≡ area
  unfolding payload_of
  area-is = drop_at (datagram_with d sum) area (size_of d) length-datagram

  payload-length : length (payload_of d) ≡ size_of d + length area
  unfolding payload_of
  payload-length = length-append (datagram_with d sum) area ∙ ap (λ (n : ℕ). n + length area) length-datagram

  length-there : size_of d < 65536 → udp_length (payload_of d) ≡ size_of d
  length-there h =
      ap number
      (ap (part 4 2) laid ∙ skip (octets 2 d.source_port) (octets 2 d.destination_port ++ (octets 2 (size_of d) ++ behind)) 2 2 2
      (length-octets 2 d.source_port)
      ∙ skip (octets 2 d.destination_port) (octets 2 (size_of d) ++ behind) 2 0 2 (length-octets 2 d.destination_port)
      ∙ two_at (size_of d) behind)
      ∙ number-octets 2 (size_of d) h

  checksum-small : udp_checksum_of d < 65536
  unfolding udp_checksum_of
  checksum-small = omega (arith, sent-le (folded (word_sum false (pseudo_header d.source d.destination (size_of d) ++ datagram_with d (0 ∷ 0 ∷ [])))))

  checksum-there : udp_checksum (payload_of d) ≡ udp_checksum_of d
  checksum-there =
      ap number
      (ap (part 6 2) laid ∙ skip (octets 2 d.source_port) (octets 2 d.destination_port ++ (octets 2 (size_of d) ++ behind)) 2 4 2
      (length-octets 2 d.source_port)
      ∙ skip (octets 2 d.destination_port) (octets 2 (size_of d) ++ behind) 2 2 2 (length-octets 2 d.destination_port)
      ∙ skip (octets 2 (size_of d)) behind 2 0 2 (length-octets 2 (size_of d)) ∙ two_at (udp_checksum_of d) (d.user ++ area))
      ∙ number-octets 2 (udp_checksum_of d) checksum-small

-- ---- the UDP checksum

length-pseudo : (s t : List ℕ) (size : ℕ) → length s ≡ 4 → length t ≡ 4 → length (pseudo_header s t size) ≡ 12
unfolding pseudo_header
length-pseudo s t size a b =
    let x : length (s ++ t ++ (0 ∷ 17 ∷ octets 2 size)) ≡ length (s ++ t) + length (0 ∷ 17 ∷ octets 2 size) =
    length-append (s ++ t) (0 ∷ 17 ∷ octets 2 size) in
    omega (arith, length-append s t, length-octets 2 size)

udp-sum : (d : Datagram) → Takes d
    → folded (word_sum false (pseudo_header d.source d.destination (size_of d) ++ datagram_with d (octets 2 (udp_checksum_of d)))) ≡ all_ones
unfolding udp_checksum_of
udp-sum d t =
    let pseudo : List ℕ = pseudo_header d.source d.destination (size_of d) in
    let head : List ℕ = pseudo ++ front_of d in
    let long : length head ≡ 18 =
    length-append pseudo (front_of d) ∙ ap₂ ◌+◌ (length-pseudo d.source d.destination (size_of d) t.source t.destination) (length_front d) in
    let even : parity_after false (length head) ≡ false = parity-even false (length head) (ap (λ (n : ℕ). n % 2) long) in
    let blank : 0 + word_sum false (head ++ (0 ∷ 0 ∷ d.user)) ≡ word_sum false (pseudo ++ datagram_with d (0 ∷ 0 ∷ [])) =
    zero-add (word_sum false (head ++ (0 ∷ 0 ∷ d.user))) ∙ ap (word_sum false) (append_assoc pseudo (front_of d) (0 ∷ 0 ∷ d.user)) in
    let field : ℕ → ℕ = λ n. sent (folded n) in
    let with-field : (n : ℕ) → 0 + word_sum false (head ++ (octets 2 (field n) ++ d.user)) ≡ word_sum false (pseudo ++ datagram_with d (octets 2 (field n))) =
    λ n. zero-add (word_sum false (head ++ (octets 2 (field n) ++ d.user)))
    ∙ ap (word_sum false) (append_assoc pseudo (front_of d) (octets 2 (field n) ++ d.user)) in
    ap folded (sym (with-field (word_sum false (pseudo ++ datagram_with d (0 ∷ 0 ∷ [])))))
    ∙ ap (λ (n : ℕ). folded (0 + word_sum false (head ++ (octets 2 (field n) ++ d.user)))) (sym blank)
    ∙ field-law false 0 head d.user even

-- ---- the reading

-- where the option list starts
abbrev pub list_start : Datagram → ℕ
list_start d = size_of d + (pad_of (is_odd (size_of d)) + 2)

-- the reading of what was written
abbrev pub back_of : Datagram → Reading
back_of d = walked (payload_of d) (size_of d) (list_start d) (plain (standing (worked_all d.user d.items) d.fill) d.fill)

pub same_count : (user : List ℕ) (items : List Item) → length (worked_all user items) ≡ length items
unfolding worked_all
same_count user [] = refl
same_count user (item ∷ items) = ap suc (same_count user items)

pub list-there : (d : Datagram) → drop (list_start d) (payload_of d) ≡ list_of d.user d.items d.fill
list-there d =
    sym (drop-drop (pad_of (is_odd (size_of d)) + 2) (size_of d) (payload_of d)) ∙ ap (drop (pad_of (is_odd (size_of d)) + 2)) (area-is d)
    ∙ area-list (is_odd (size_of d)) (list_of d.user d.items d.fill)

abbrev accepted_by : Strictness → List ℕ → ℕ → ℕ → Reading
accepted_by how p size sum = started how p size (start_of (is_odd size) (eqb sum 0) (drop size p))

accepted-back : (how : Strictness) (d : Datagram) → Takes d → size_of d < 65536 → accepted how (payload_of d) ≡ back_of d
unfolding accepted list_of
accepted-back how d t h =
    let p : List ℕ = payload_of d in
    let L : ℕ = size_of d in
    ap (λ (n : ℕ). accepted_by how p n (udp_checksum p)) (length-there d h)
    ∙ ap (λ (a : List ℕ). started how p L (start_of (is_odd L) (eqb (udp_checksum p) 0) a)) (area-is d)
    ∙ ap (started how p L) (area-starts (is_odd L) (eqb (udp_checksum p) 0) (list_of d.user d.items d.fill))
    ∙ ap (λ (l : List ℕ). walked p L (list_start d) (area_walk how (eqb L udp_header) (list_start d) l)) (list-there d)
    ∙ ap (walked p L (list_start d))
    (plain-area how (eqb L udp_header) (list_start d) (worked_all d.user d.items) d.fill t.each (omega (arith, same_count d.user d.items, t.few)))

pub reading-back : (how : Strictness) (d : Datagram) → Takes d → reading how (payload_of d) d.source d.destination ≡ reads (back_of d)
unfolding payload_limit udp_header
reading-back how d t =
    let p : List ℕ = payload_of d in
    let size : length p ≡ size_of d + length (area d) = payload-length d in
    let most : length p ≤ 65515 = t.fits in
    let small : size_of d < 65536 = omega arith in
    let L : udp_length p ≡ size_of d = length-there d small in
    let sized : Sized p = record { least = omega arith; most = most; header = omega arith; within = omega arith } in
    let summed : sum_of p d.source d.destination ≡ all_ones =
    ap (λ (n : ℕ). folded (word_sum false (pseudo_header d.source d.destination n ++ take n p))) L
    ∙ ap (λ (x : List ℕ). folded (word_sum false (pseudo_header d.source d.destination (size_of d) ++ x))) (front-is d) ∙ udp-sum d t in
    reading-accepted how p d.source d.destination sized (inr summed) ∙ ap reads (accepted-back how d t small)

-- ---- what else is found there

pub user-size : (d : Datagram) → length d.user ≡ size_of d - udp_header
unfolding udp_header
user-size d = omega arith

pub user-there : (d : Datagram) → part udp_header (size_of d - udp_header) (payload_of d) ≡ d.user
unfolding udp_header
user-there d =
    let n : ℕ = size_of d - 8 in
    ap (part 8 n) (laid d)
    ∙ skip (octets 2 d.source_port) (octets 2 d.destination_port ++ (octets 2 (size_of d) ++ behind d)) 2 6 n (length-octets 2 d.source_port)
    ∙ skip (octets 2 d.destination_port) (octets 2 (size_of d) ++ behind d) 2 4 n (length-octets 2 d.destination_port)
    ∙ skip (octets 2 (size_of d)) (behind d) 2 2 n (length-octets 2 (size_of d))
    ∙ skip (sum d) (d.user ++ area d) 2 0 n (length-octets 2 (udp_checksum_of d))
    ∙ take_at d.user (area d) n (omega arith)

pub walk-list : (d : Datagram) → Each (worked_all d.user d.items) → length (worked_all d.user d.items) ≤ option_limit
    → walk_from option_limit 0 (list_of d.user d.items d.fill) ≡ listed (standing (worked_all d.user d.items) d.fill) d.fill
unfolding list_of
walk-list d wired few = walk-wires Plain option_limit (worked_all d.user d.items) d.fill wired few
