-- Demand 2's read-back, said of a call: what the writer takes is read back as the same user data, options, fill and, byte for byte, the same
-- encoded list. The payload is read back (`list_payload`), and it is what a call that is taken leaves.
-- Assumes nothing.
use mathlib.Core.Path.{◌≡◌, refl, sym, ap, ◌∙◌}
use mathlib.Core.Bool.{Bool, true, false, cond}
use mathlib.Core.List.{List, ◌++◌}
use Prim.Native.Nat.{ℕ, ◌≤◌}
use native.Mathlib.Omega.{arith}
use borrow.Author.Tests.{leb-true}
use lib.Dec.{leb}
use lib.ListN.{length, drop}
use Rattle.number_tests.proofs.Tests.{both_true}
use Rattle.number_octets.specs.Octets.{Octets}
use Rattle.wire_options.specs.Walk.{Item}
use Rattle.wire_reading.specs.Reading.{payload_limit}
use Rattle.list_encoding.specs.Encoding.{Answer, given, refused, decoded_list}
use Rattle.list_writer.specs.Answer.{too_large, fits, put, untouched, put_whole, outcome_by, written, datagram_for}
use Rattle.list_payload.specs.Payload.{Datagram, payload_of}
use Rattle.list_payload.proofs.Claims.{ReadBack, read_back}
use Rattle.list_payload.proofs.ReadBack.{back_of}

-- what a call that was taken leaves: the payload with the bytes behind it as they were, and it is read back
pub record WroteBack (datagram : List Item → Datagram) (list buffer : List ℕ) (n : ℕ) : Type 0 where
  pub items : List Item
  pub decoded : decoded_list list ≡ given items
  pub size : n ≡ length (payload_of (datagram items))
  pub left : (written datagram list buffer).buffer ≡ payload_of (datagram items) ++ drop n buffer
  pub back : ReadBack (datagram items) list (back_of (datagram items))

pub write-reads-back : (source destination : List ℕ) (source_port destination_port : ℕ) (user : List ℕ) (fill : ℕ) (list buffer : List ℕ) (n : ℕ)
    → length source ≡ 4 → length destination ≡ 4 → Octets list
    → (written (datagram_for source destination source_port destination_port user fill) list buffer).answer ≡ given n
    → WroteBack (datagram_for source destination source_port destination_port user fill) list buffer n
unfolding written put_whole fits
write-reads-back source destination source_port destination_port user fill list buffer n s t oct = first (decoded_list list) refl
  where
    datagram : List Item → Datagram
    datagram = datagram_for source destination source_port destination_port user fill

    second : (items : List Item) → decoded_list list ≡ given items → (f : Bool) → fits (length (payload_of (datagram items))) (length buffer) ≡ f
        → (cond f (put (payload_of (datagram items)) buffer) (untouched too_large buffer)).answer ≡ given n → WroteBack datagram list buffer n
    second items e false q r = absurd (let z : ◌≡◌ {A = ℕ} 0 1 = cc in omega arith)
    second items e true q r =
        let p : List ℕ = payload_of (datagram items) in
        let same : length p ≡ n = cc in
        let small : length p ≤ payload_limit = leb-true (length p) payload_limit (both_true (leb (length p) payload_limit) (leb (length p) (length buffer)) q).0 in
        record {
          items = items;
          decoded = e;
          size = sym same;
          left =
              ap (λ (a : Answer (List Item)). (outcome_by datagram buffer a).buffer) e
              ∙ ap (λ (f : Bool). (cond f (put p buffer) (untouched too_large buffer)).buffer) q ∙ ap (λ (k : ℕ). p ++ drop k buffer) same;
          back = read_back (datagram items) list oct e s t small;
        }

    first : (a : Answer (List Item)) → decoded_list list ≡ a → (outcome_by datagram buffer a).answer ≡ given n → WroteBack datagram list buffer n
    first (refused k) e r = absurd (let z : ◌≡◌ {A = ℕ} 0 1 = cc in omega arith)
    first (given items) e r = second items e (fits (length (payload_of (datagram items))) (length buffer)) refl r
