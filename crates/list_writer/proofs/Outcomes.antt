-- What `write` comes to: its payload is the one of the list's options, its size is the sum of its parts' sizes, and the size decides.
-- Assumes nothing.
use mathlib.Core.Path.{◌≡◌, refl, sym, ap, ◌∙◌}
use mathlib.Core.Bool.{Bool, true, false, cond, ◌&&◌}
use mathlib.Core.List.{List, ◌++◌}
use Prim.Native.Nat.{ℕ, ◌+◌, ◌%◌, ◌≤◌, ◌<◌}
use native.Mathlib.Nat.{zero-add}
use native.Mathlib.Omega.{arith}
use borrow.Author.Tests.{le-leb, lt-leb, leb-true}
use lib.Dec.{leb}
use lib.ListN.{length, drop, replicate, length-append, length-replicate}
use Rattle.number_tests.proofs.Tests.{both_true}
use Rattle.number_octets.specs.Octets.{octets}
use Rattle.number_octets.proofs.Laws.{length-octets}
use Rattle.number_offsets.specs.Offsets.{udp_header}
use Rattle.number_crc32c.specs.Crc.{crc_of}
use Rattle.wire_options.specs.Walk.{Item}
use Rattle.wire_reading.specs.Reading.{payload_limit, is_odd}
use Rattle.list_encoding.specs.Encoding.{Answer, given, refused, decoded_list}
use Rattle.list_encoding.specs.Wire.{Totals, totals_of, measured, wire_size}
use Rattle.list_payload.specs.Payload.{list_of, area_of, Datagram, size_of, udp_checksum_of, payload_of}
use Rattle.list_writer.specs.Answer.{too_large, Outcome, fits, put, untouched, put_whole, outcome_by, written, datagram_for}
use Rattle.list_wire.specs.Parts.{Laid, wires_listed, listed_bytes, plainly, summed, payload_from}
use Rattle.list_wire.proofs.Listed.{wires-listed, wires-size}
use Rattle.list_area.proofs.Blanks.{area-size}
use Rattle.list_writer.proofs.Datagrams.{datagram-size}

-- ---- the test of the size

pub over-limit : (size room : ℕ) → 65515 < size → false ≡ fits size room
unfolding fits payload_limit
over-limit size room h = sym (ap (λ (t : Bool). t && leb size room) (lt-leb size 65515 h))

pub within-limit : (size room : ℕ) → size ≤ 65515 → leb size room ≡ fits size room
unfolding fits payload_limit
within-limit size room h = sym (ap (λ (t : Bool). t && leb size room) (le-leb size 65515 h))

fits_both : (size room : ℕ) → fits size room ≡ true → (size ≤ 65515) × (size ≤ room)
unfolding fits payload_limit
fits_both size room e =
    let b = both_true (leb size 65515) (leb size room) e in (leb-true size 65515 b.0, leb-true size room b.1)

-- ---- what the check says of the list

pub sound-list : (l : List ℕ) (count size : ℕ) → given (record { count = count; size = size }) ≡ measured (decoded_list l)
    → (items : List Item) × (decoded_list l ≡ given items) × (size ≡ wire_size items)
sound-list l count size e = go (decoded_list l) refl e
  where
    go : (a : Answer (List Item)) → decoded_list l ≡ a → given (record { count = count; size = size }) ≡ measured a
        → (items : List Item) × (decoded_list l ≡ given items) × (size ≡ wire_size items)
    go (given items) p q =
        let here : Totals = record { count = count; size = size } in
        let same : here ≡ totals_of items = cc in
        (items, p, ap (λ (t : Totals). t.size) same)
    go (refused n) p q = absurd (let z : ◌≡◌ {A = ℕ} 0 1 = cc in omega arith)

pub refused-list : (l : List ℕ) (n : ℕ) → refused n ≡ measured (decoded_list l) → decoded_list l ≡ refused n
refused-list l n e = go (decoded_list l) refl e
  where
    go : (a : Answer (List Item)) → decoded_list l ≡ a → refused n ≡ measured a → decoded_list l ≡ refused n
    go (given items) p q = absurd (let z : ◌≡◌ {A = ℕ} 0 1 = cc in omega arith)
    go (refused m) p q = let same : n ≡ m = cc in p ∙ ap refused (sym same)

-- the buffer once bytes are laid over its front
laid-front : {t bytes exit : List ℕ} {end : ℕ} → Laid t 0 bytes exit end → (exit ≡ bytes ++ drop (length bytes) t) × (end ≡ length bytes)
laid-front {t} {bytes} p =
    (p.over ∙ ap (λ (n : ℕ). bytes ++ drop n t) (zero-add (length bytes)), p.ends ∙ zero-add (length bytes))

-- ---- the size of a payload

abbrev pub total : ℕ → ℕ → ℕ → ℕ
total user options fill = 8 + user + (user % 2 + 2 + (options + fill))

abbrev crc_for : Datagram → ℕ
crc_for d = crc_of d.user

pub payload-size : (d : Datagram) (list : List ℕ) (fill : ℕ)
    → length (payload_from d list fill) ≡ total (length d.user) (length (wires_listed (crc_for d) list)) fill
unfolding udp_header
payload-size d list fill =
    let bytes : List ℕ = listed_bytes (crc_for d) list fill in
    let zeros : List ℕ = replicate fill 0 in
    let pad : (8 + length d.user) % 2 ≡ length d.user % 2 = omega arith in
    omega (
      arith,
      length-append (summed d) (area_of (is_odd (size_of d)) bytes),
      datagram-size d (octets 2 (udp_checksum_of d)) (length-octets 2 (udp_checksum_of d)),
      area-size (size_of d % 2) (omega arith) bytes,
      length-append (wires_listed (crc_for d) list) zeros,
      length-replicate {A = ℕ} fill 0,
    )

-- ---- what the call comes to

pub put_refused : (d : List Item → Datagram) (list buffer : List ℕ) (n : ℕ) → decoded_list list ≡ refused n → written d list buffer ≡ untouched n buffer
unfolding written
put_refused d list buffer n e = ap (outcome_by d buffer) e

module _ (source destination : List ℕ) (source_port destination_port : ℕ) (user list : List ℕ) (fill : ℕ) (buffer : List ℕ) (size : ℕ) (items : List Item)
    (e : decoded_list list ≡ given items) (s : size ≡ wire_size items) where
  abbrev d : List Item → Datagram
  d = datagram_for source destination source_port destination_port user fill

  abbrev payload : List ℕ
  payload = payload_from (plainly source destination source_port destination_port user) list fill

  same : payload ≡ payload_of (d items)
  unfolding payload_of list_of udp_checksum_of
  same =
      ap (λ (w : List ℕ). summed (d items) ++ area_of (is_odd (size_of (d items))) (w ++ replicate fill 0)) (wires-listed user list items e)

  pub long : length payload ≡ total (length user) size fill
  long =
      payload-size (plainly source destination source_port destination_port user) list fill
      ∙ ap (λ (n : ℕ). total (length user) n fill) (ap length (wires-listed user list items e) ∙ wires-size user items ∙ sym s)

  whole : written d list buffer ≡ put_whole payload buffer
  unfolding written
  whole = ap (outcome_by d buffer) e ∙ ap (λ (p : List ℕ). put_whole p buffer) (sym same)

  pub room : fits (total (length user) size fill) (length buffer) ≡ true → (length payload ≤ 65535) × (length payload ≤ length buffer)
  room f = let b = fits_both (total (length user) size fill) (length buffer) f in (omega (arith, b.0, long), omega (arith, b.1, long))

  by_size : (t : Bool) → fits (total (length user) size fill) (length buffer) ≡ t
      → written d list buffer ≡ cond t (put payload buffer) (untouched too_large buffer)
  unfolding put_whole
  by_size t f =
      whole ∙ ap (λ (b : Bool). cond b (put payload buffer) (untouched too_large buffer)) (ap (λ (n : ℕ). fits n (length buffer)) long ∙ f)

  pub put-large : fits (total (length user) size fill) (length buffer) ≡ false → written d list buffer ≡ untouched too_large buffer
  put-large f = by_size false f

  pub put-there : fits (total (length user) size fill) (length buffer) ≡ true → {exit : List ℕ} {end : ℕ} → Laid buffer 0 payload exit end
      → (given end ≡ (written d list buffer).answer) × (exit ≡ (written d list buffer).buffer)
  put-there f p =
      let l = laid-front p in
      let o = by_size true f in
      (ap given l.1 ∙ sym (ap (λ (x : Outcome). x.answer) o), l.0 ∙ sym (ap (λ (x : Outcome). x.buffer) o))
