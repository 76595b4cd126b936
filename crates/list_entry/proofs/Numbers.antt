-- A number that is read is the encoding at the front of the list, and the rest is what stands behind it: by the laws of seven-bit numbers.
-- Assumes nothing.
use mathlib.Core.Path.{◌≡◌, refl, sym, ap, ap₂, ◌∙◌}
use mathlib.Core.Bool.{Bool, true, false, cond}
use mathlib.Core.List.{List, ◌++◌}
use Prim.Native.Nat.{ℕ, ◌+◌, ◌^◌, ◌<◌}
use native.Mathlib.Omega.{arith}
use borrow.Author.Tests.{lt-ltb, ltb-true}
use lib.Dec.{ltb}
use lib.ListN.{drop, take-append-drop}
use lib.Seq.{drop-append_seam, get_or-drop}
use Rattle.number_octets.specs.Octets.{Octets}
use Rattle.number_varint.specs.SevenBit.{Taken, taken, untaken, number as front_number, encoded}
use Rattle.number_varint.proofs.Laws as varint
use Rattle.list_entry.specs.Option.{got, failed, unreadable, below_limit, read_number}

pub bytes_drop : (n : ℕ) (l : List ℕ) → Octets l → Octets (drop n l)
bytes_drop n l h i = rw get_or-drop (h (n + i))

-- what is encoded is read back
pub number-back : (limit n : ℕ) (rest : List ℕ) → n < limit → n < 2 ^ 64 → read_number limit (encoded n ++ rest) ≡ got n rest
unfolding read_number
number-back limit n rest h g =
    ap (below_limit limit (encoded n ++ rest)) (varint.decode-encode n rest g)
    ∙ rw (lt-ltb n limit h) (ap (got n) (drop-append_seam (encoded n) rest))

-- what is read: how wide it is and what is behind it
pub record NumberRead (limit : ℕ) (l : List ℕ) (n : ℕ) (rest : List ℕ) : Type 0 where
  pub width : ℕ
  pub small : n < limit
  pub there : front_number l ≡ taken n width
  pub behind : rest ≡ drop width l

pub number_read : (limit : ℕ) (l : List ℕ) (n : ℕ) (rest : List ℕ) → read_number limit l ≡ got n rest → NumberRead limit l n rest
unfolding read_number
number_read limit l n rest e = go (front_number l) refl e
  where
    within : (v w : ℕ) (t : Bool) → front_number l ≡ taken v w → ltb v limit ≡ t → cond t (got v (drop w l)) (failed unreadable) ≡ got n rest
        → NumberRead limit l n rest
    within v w false p q r = absurd (let z : ◌≡◌ {A = ℕ} 0 1 = cc in omega arith)
    within v w true p q r =
        let same : v ≡ n = cc in
        let behind : drop w l ≡ rest = cc in
        record {
          width = w;
          small = omega (arith, ltb-true v limit q);
          there = p ∙ ap (λ (m : ℕ). taken m w) same;
          behind = sym behind;
        }

    go : (t : Taken) → front_number l ≡ t → below_limit limit l t ≡ got n rest → NumberRead limit l n rest
    go untaken p q = absurd (let z : ◌≡◌ {A = ℕ} 0 1 = cc in omega arith)
    go (taken v w) p q = within v w (ltb v limit) p refl q

module _ {limit : ℕ} {l : List ℕ} {n : ℕ} {rest : List ℕ} (r : NumberRead limit l n rest) where
  pub number-bytes : Octets l → Octets rest
  number-bytes h = rw r.behind (bytes_drop r.width l h)

  -- the bytes that were read are the number's encoding
  pub number-whole : Octets l → encoded n ++ rest ≡ l
  number-whole h =
      ap₂ ◌++◌ (sym (varint.encode-decode l n r.width h r.there)) r.behind ∙ take-append-drop r.width l
