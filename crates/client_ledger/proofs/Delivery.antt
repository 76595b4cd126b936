-- Handed out: the last one is the same in record and book, and where every place before T is covered the book's bytes are those of the share.
-- Assumes nothing.
use Prim.Native.Nat.{ℕ, zero, suc, ◌+◌, ◌-◌, ◌<◌, ◌≤◌}
use mathlib.Core.Path.{◌≡◌, refl, sym, ap, ap₂, ◌∙◌}
use mathlib.Core.Bool.{Bool, true, false, ◌||◌, cond}
use mathlib.Core.List.{List, [], ◌∷◌, ◌++◌, map}
use mathlib.Core.Option.{none, some}
use native.Mathlib.Omega.{arith}
use lib.Dec.{ltb, leb}
use lib.ListN.{length, drop, get_or, length-drop}
use lib.Seq.{take-suc, get_or-take, get_or-drop}
use borrow.Author.Tests.{ltb-true, leb-true, le-leb}
use Rattle.number_tests.proofs.Tests.{true-false, both_true}
use Rattle.number_octets.specs.Octets.{part}
use Rattle.client_record.specs.declared.Fragment.{Fragment}
use Rattle.client_record.specs.Limits.{datagram_limit, share_size}
use Rattle.client_record.specs.Lists.{all, any}
use Rattle.client_record.specs.Record.{fresh_fragment, is_last, end, fits, covers, covered_to, last_of}
use Rattle.client_reassembly.specs.Offer.{base}
use Rattle.client_ledger.specs.Book.{last_one, byte_at, bytes_to}
use Rattle.client_ledger.specs.Stands.{content_of}
use Rattle.client_ledger.proofs.Tests.{same-within}

-- ---- the last one

pub last_fits : (fs : List Fragment) → all fits fs ≡ true → fits (last_of fs) ≡ true
unfolding last_of all fits end fresh_fragment
last_fits [] e = le-leb 0 datagram_limit (omega arith)
last_fits (f ∷ fs) e = go (is_last f) (both_true (fits f) (all fits fs) e).0 (last_fits fs (both_true (fits f) (all fits fs) e).1)
  where
    go : (t : Bool) → fits f ≡ true → fits (last_of fs) ≡ true → fits (cond t f (last_of fs)) ≡ true
    go true h k = h
    go false h k = k

module _ (share : List ℕ) (p : ℕ) where
  pub last_none : (fs : List Fragment) → is_last (last_of fs) ≡ false → last_one (map (content_of share p) fs) ≡ none
  unfolding last_of last_one content_of
  last_none [] e = refl
  last_none (f ∷ fs) e = go (is_last f) refl (last_none fs) e
    where
      go : (t : Bool) → is_last f ≡ t → (is_last (last_of fs) ≡ false → last_one (map (content_of share p) fs) ≡ none) → is_last (cond t f (last_of fs)) ≡ false
          → cond t (some (content_of share p f)) (last_one (map (content_of share p) fs)) ≡ none
      go true t ih e = absurd (true-false (sym t ∙ e))
      go false t ih e = ih e

  pub last_some : (fs : List Fragment) → is_last (last_of fs) ≡ true → last_one (map (content_of share p) fs) ≡ some (content_of share p (last_of fs))
  unfolding last_of last_one content_of fresh_fragment is_last
  last_some [] e = absurd (true-false (sym e))
  last_some (f ∷ fs) e = go (is_last f) (last_some fs) e
    where
      go : (t : Bool) → (is_last (last_of fs) ≡ true → last_one (map (content_of share p) fs) ≡ some (content_of share p (last_of fs)))
          → is_last (cond t f (last_of fs)) ≡ true
          → cond t (some (content_of share p f)) (last_one (map (content_of share p) fs)) ≡ some (content_of share p (cond t f (last_of fs)))
      go true ih e = refl
      go false ih e = ih e

-- ---- the bytes

content-place : (share : List ℕ) (p : ℕ) (f : Fragment) → (content_of share p f).place ≡ f.offset
unfolding content_of
content-place share p f = refl

module _ {plan : ℕ} (share : List ℕ) (p : ℕ) (type_size : length share ≡ share_size plan) (h : p < plan) where
  -- the byte at a place that f covers
  byte_of : (i : ℕ) (f : Fragment) → covers i f ≡ true → get_or (content_of share p f).bytes (i - f.offset) 0 ≡ get_or share (base p + i) 0
  unfolding content_of covers end
  byte_of i f e =
      let t = both_true (leb f.offset i) (ltb i (f.offset + f.length)) e in
      let low : f.offset ≤ i = leb-true f.offset i t.0 in
      let high : i < f.offset + f.length = ltb-true i (f.offset + f.length) t.1 in
      let less : i - f.offset < f.length = omega arith in
      let same : base p + f.offset + (i - f.offset) ≡ base p + i = omega arith in
      get_or-take f.length (drop (base p + f.offset) share) (i - f.offset) 0 less ∙ get_or-drop (base p + f.offset) share (i - f.offset) 0
      ∙ ap (λ (j : ℕ). get_or share j 0) same

  byte-there : (i : ℕ) (fs : List Fragment) → all fits fs ≡ true → any (covers i) fs ≡ true
      → byte_at (map (content_of share p) fs) i ≡ get_or share (base p + i) 0
  unfolding byte_at any all
  byte-there i [] e c = absurd (true-false (sym c))
  byte-there i (f ∷ fs) e c =
      let t = both_true (fits f) (all fits fs) e in
      ap (λ (b : Bool). cond b (get_or (content_of share p f).bytes (i - (content_of share p f).place) 0) (byte_at (map (content_of share p) fs) i))
      (same-within share p type_size h i f t.0)
      ∙ go (covers i f) refl (byte-there i fs t.1) c
    where
      place_of : (content_of share p f).place ≡ f.offset
      place_of = content-place share p f

      go : (b : Bool) → covers i f ≡ b → (any (covers i) fs ≡ true → byte_at (map (content_of share p) fs) i ≡ get_or share (base p + i) 0)
          → b || any (covers i) fs ≡ true
          → cond b (get_or (content_of share p f).bytes (i - (content_of share p f).place) 0) (byte_at (map (content_of share p) fs) i) ≡ get_or share (base p + i) 0
      go true b ih c = ap (λ (n : ℕ). get_or (content_of share p f).bytes (i - n) 0) place_of ∙ byte_of i f b
      go false b ih c = ih c

  -- the bytes before n, where each is covered
  pub bytes-there : (n : ℕ) (fs : List Fragment) → all fits fs ≡ true → covered_to n fs ≡ true → base p + n ≤ length share
      → bytes_to n (map (content_of share p) fs) ≡ part (base p) n share
  unfolding bytes_to covered_to
  bytes-there zero fs e c k = refl
  bytes-there (suc n) fs e c k =
      let t = both_true (covered_to n fs) (any (covers n) fs) c in
      let k' : base p + n ≤ length share = omega arith in
      let less : n < length (drop (base p) share) = omega (arith, length-drop (base p) share) in
      ap₂ (λ (l : List ℕ) (x : ℕ). l ++ x ∷ []) (bytes-there n fs e t.0 k') (byte-there n fs e t.1 ∙ sym (get_or-drop (base p) share n 0))
      ∙ sym (take-suc (drop (base p) share) n 0 less)
