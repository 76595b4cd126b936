-- What a stored fragment leaves of the share: its own bytes stand at its place, and those of every fragment that it does not overlap,
-- in this place and in the others, are as they were.
-- Assumes nothing.
use mathlib.Core.Path.{◌≡◌, refl, sym, ap, ◌∙◌}
use mathlib.Core.Bool.{Bool, true, false, ◌&&◌}
use mathlib.Core.List.{List, ◌++◌}
use Prim.Native.Nat.{ℕ, ◌+◌, ◌-◌, ◌*◌, ◌<◌, ◌≤◌}
use native.Mathlib.Omega.{arith}
use lib.Dec.{leb, ltb}
use lib.ListN.{length, take, drop, get_or, length-take, length-drop, take-append-drop}
use lib.Seq.{take-append-le, drop-append-le, drop-drop, get_or-take, get_or-drop}
use borrow.Author.Tests.{leb-true, ltb-true, ltb-false}
use Rattle.number_tests.proofs.Tests.{both_true}
use Rattle.number_octets.specs.Octets.{part, overlay}
use Rattle.number_octets.proofs.Laws.{part-overlay, drop-overlay}
use Rattle.client_record.specs.declared.Fragment.{Fragment}
use Rattle.client_record.specs.Limits.{datagram_limit, share_size}
use Rattle.client_record.specs.Record.{end, covers, overlaps}
use Rattle.client_reassembly.specs.Offer.{base, start_of}

-- ---- a part beside what was laid over

part-front : (a n m : ℕ) (l r : List ℕ) → length l ≡ m → a + n ≤ m → part a n (l ++ r) ≡ part a n l
part-front a n m l r e h =
    ap (take n) (drop-append-le a l r (omega arith)) ∙ take-append-le n (drop a l) r (omega (arith, length-drop a l))

module _ (t : List ℕ) (at : ℕ) (bs : List ℕ) (room : at + length bs ≤ length t) where
  front_long : length (take at t) ≡ at
  front_long = length-take at t ∙ omega arith

  pub part-before : (a n : ℕ) → a + n ≤ at → part a n (overlay t at bs) ≡ part a n t
  part-before a n h =
      part-front a n at (take at t) (bs ++ drop (at + length bs) t) front_long h
      ∙ sym (part-front a n at (take at t) (drop at t) front_long h) ∙ ap (part a n) (take-append-drop at t)

  pub part-behind : (a n : ℕ) → at + length bs ≤ a → part a n (overlay t at bs) ≡ part a n t
  part-behind a n h =
      let k = at + length bs in
      let e : k + (a - k) ≡ a = omega arith in
      ap (take n)
      (ap (λ (i : ℕ). drop i (overlay t at bs)) (sym e) ∙ sym (drop-drop (a - k) k (overlay t at bs)) ∙ ap (drop (a - k)) (drop-overlay t at bs room)
      ∙ drop-drop (a - k) k t ∙ ap (λ (i : ℕ). drop i t) e)

-- ---- fragments

-- a fragment of a place lies within the share
pub place-within : {plan : ℕ} (p : ℕ) (f : Fragment) (share : List ℕ) → p < plan → end f ≤ datagram_limit → length share ≡ share_size plan
    → start_of p f + f.length ≤ length share
unfolding start_of base end share_size datagram_limit
place-within p f share h k e = omega arith

module _ {plan : ℕ} (share : List ℕ) (p : ℕ) (f : Fragment) (bytes : List ℕ) (h : p < plan) (k : end f ≤ datagram_limit)
    (size : length share ≡ share_size plan) (n : length bytes ≡ f.length) where
  room_for : start_of p f + length bytes ≤ length share
  room_for = omega (arith, place-within p f share h k size, n)

  -- its bytes stand at its place
  pub stored_bytes : part (start_of p f) f.length (overlay share (start_of p f) bytes) ≡ bytes
  stored_bytes = ap (λ (i : ℕ). part (start_of p f) i (overlay share (start_of p f) bytes)) (sym n) ∙ part-overlay share (start_of p f) bytes room_for

  -- those of a fragment of the same place that it does not overlap stay
  pub kept-bytes : (g : Fragment) → 0 < g.length → 0 < f.length → overlaps g f ≡ false
      → part (start_of p g) g.length (overlay share (start_of p f) bytes) ≡ part (start_of p g) g.length share
  unfolding overlaps end start_of
  kept-bytes g some also e = go (ltb g.offset (f.offset + f.length)) refl
    where
      go : (b : Bool) → ltb g.offset (f.offset + f.length) ≡ b
          → part (base p + g.offset) g.length (overlay share (base p + f.offset) bytes) ≡ part (base p + g.offset) g.length share
      go true t =
          let q : g.offset + g.length ≤ f.offset =
          ltb-false f.offset (g.offset + g.length) (sym (ap (λ (b : Bool). b && ltb f.offset (g.offset + g.length)) t) ∙ e) in
          part-before share (base p + f.offset) bytes room_for (base p + g.offset) g.length (omega arith)
      go false t =
          let q : f.offset + f.length ≤ g.offset = ltb-false g.offset (f.offset + f.length) t in
          part-behind share (base p + f.offset) bytes room_for (base p + g.offset) g.length (omega arith)

  -- the bytes of every other place stay
  pub other_place : (q : ℕ) (g : Fragment) → (q ≡ p → ⊥) → end g ≤ datagram_limit
      → part (start_of q g) g.length (overlay share (start_of p f) bytes) ≡ part (start_of q g) g.length share
  unfolding start_of base end datagram_limit
  other_place q g ne within = go (ltb q p) refl
    where
      go : (b : Bool) → ltb q p ≡ b
          → part (q * datagram_limit + g.offset) g.length (overlay share (p * datagram_limit + f.offset) bytes)
          ≡ part (q * datagram_limit + g.offset) g.length share
      go true t =
          let s : q < p = ltb-true q p t in
          part-before share (p * datagram_limit + f.offset) bytes room_for (q * datagram_limit + g.offset) g.length (omega arith)
      go false t =
          let s : p ≤ q = ltb-false q p t in
          let r : p < q = omega (arith, ne) in
          part-behind share (p * datagram_limit + f.offset) bytes room_for (q * datagram_limit + g.offset) g.length (omega arith)

-- a byte of the original is the byte of the fragment that covers its place
pub byte_of : (share : List ℕ) (p : ℕ) (g : Fragment) (size i : ℕ) → covers i g ≡ true → i < size
    → get_or (part (base p) size share) i 0 ≡ get_or (part (start_of p g) g.length share) (i - g.offset) 0
unfolding covers end start_of
byte_of share p g size i e h =
    let t = both_true (leb g.offset i) (ltb i (g.offset + g.length)) e in
    let from : g.offset ≤ i = leb-true g.offset i t.0 in
    let to : i < g.offset + g.length = ltb-true i (g.offset + g.length) t.1 in
    let same : base p + i ≡ base p + g.offset + (i - g.offset) = omega arith in
    get_or-take size (drop (base p) share) i 0 h ∙ get_or-drop (base p) share i 0 ∙ ap (λ (k : ℕ). get_or share k 0) same
    ∙ sym (get_or-drop (base p + g.offset) share (i - g.offset) 0)
    ∙ sym (get_or-take g.length (drop (base p + g.offset) share) (i - g.offset) 0 (omega arith))
