-- The laws of seven-bit numbers: reading and writing are inverse, since a number's bytes are its groups and nothing else (`Groups`).
-- Assumes nothing.
use mathlib.Core.Path.{◌≡◌, ap, ◌∙◌}
use mathlib.Core.List.{List, ◌++◌, append_assoc}
use Prim.Native.Nat.{ℕ, ◌+◌, ◌^◌, ◌≤◌, ◌<◌}
use native.Mathlib.Omega.{arith}
use lib.ListN.{length, take, drop, get_or, length-drop}
use lib.Seq.{length-take-le, drop_at}
use Rattle.number_varint.specs.SevenBit.{Taken, taken, untaken, front, number, encoded}
use Rattle.number_varint.specs.Answer.{found, decoded_as, decoded_at, end_of, placed}
use Rattle.number_varint.proofs.Groups.{
  narrowed-only,
  number-reads,
  reads-number,
  reads-width,
  reads-alone,
  encodes,
  encodes_same,
  encodes-read,
  reads-encodes,
  groups-some,
  groups-short,
  groups-bytes,
}

-- ---- of `number` and `encoded`

-- What is encoded is read back, whatever is behind it.
pub decode-encode : (n : ℕ) (rest : List ℕ) → n < 2 ^ 64 → number (encoded n ++ rest) ≡ taken n (length (encoded n))
decode-encode n rest h = number-reads (encodes-read (encodes n h) rest) h

-- A number that is taken is within 64 bits.
pub taken-narrow : (s : List ℕ) (n w : ℕ) → number s ≡ taken n w → n < 2 ^ 64
unfolding number
taken-narrow s n w e = (narrowed-only (front s) n w e).1

-- The bytes of a number that is taken are its encoding: a number has one form.
pub encode-decode : (s : List ℕ) (n w : ℕ) → ((i : ℕ) → get_or s i 0 < 256) → number s ≡ taken n w → take w s ≡ encoded n
encode-decode s n w bytes e = encodes_same (reads-encodes (reads-number s n w e) bytes) (encodes n (taken-narrow s n w e))

-- A number that is taken is one byte wide or more ..
pub taken-some : (s : List ℕ) (n w : ℕ) → number s ≡ taken n w → 0 < w
taken-some s n w e = (reads-width (reads-number s n w e)).0

-- .. and no wider than the list.
pub taken-within : (s : List ℕ) (n w : ℕ) → number s ≡ taken n w → w ≤ length s
taken-within s n w e = (reads-width (reads-number s n w e)).1

-- What is behind a number does not matter.
pub taken-alone : (s t : List ℕ) (n w : ℕ) → number s ≡ taken n w → number (take w s ++ t) ≡ taken n w
taken-alone s t n w e = number-reads (reads-alone (reads-number s n w e) t) (taken-narrow s n w e)

-- An encoding is 1 to 10 bytes long.
pub encoded-some : (n : ℕ) → 0 < length (encoded n)
unfolding encoded
encoded-some n = groups-some 9 n

pub encoded-short : (n : ℕ) → length (encoded n) ≤ 10
unfolding encoded
encoded-short n = groups-short 10 n

-- Each of its bytes is below 256.
pub encoded-bytes : (n i : ℕ) → get_or (encoded n) i 0 < 256
unfolding encoded
encoded-bytes n i = groups-bytes 10 n i

-- ---- of `decoded_at` and `placed`

-- What was placed is read back where it was placed.
pub read_back : (value : ℕ) (buffer : List ℕ) (at : ℕ) → value < 2 ^ 64 → end_of value at ≤ length buffer
    → decoded_at (placed value buffer at) at ≡ found value (end_of value at)
unfolding decoded_at decoded_as placed end_of
read_back value buffer at h f =
    let rest = drop (at + length (encoded value)) buffer in
    let e : drop at (take at buffer ++ encoded value ++ rest) ≡ encoded value ++ rest =
    rw append_assoc (drop_at (take at buffer) (encoded value ++ rest) at (length-take-le at buffer (omega arith))) in
    ap (λ (s : List ℕ). decoded_as at (number s)) e ∙ ap (decoded_as at) (decode-encode value rest h)

-- A number that is answered is the one at the front of the bytes from `at`, and `next` is behind it.
pub decoded-taken : (s : List ℕ) (at n next : ℕ) → decoded_at s at ≡ found n next
    → (w : ℕ) × (number (drop at s) ≡ taken n w) × (next ≡ at + w)
unfolding decoded_at decoded_as
decoded-taken s at n next e = go (number (drop at s)) e
  where
    go : (t : Taken) → decoded_as at t ≡ found n next → (w : ℕ) × (t ≡ taken n w) × (next ≡ at + w)
    go untaken f = let z : ◌≡◌ {A = ℕ} 0 1 = cc in absurd (omega arith)
    go (taken v w) f =
        let p : v ≡ n = cc in
        let q : next ≡ at + w = cc in
        (w, ap (λ (m : ℕ). taken m w) p, q)

-- So reading moves on, and never past the end.
pub decoded-ahead : (s : List ℕ) (at n next : ℕ) → decoded_at s at ≡ found n next → (at < next) × (next ≤ length s)
decoded-ahead s at n next e =
    let d = decoded-taken s at n next e in
    omega (arith, taken-some (drop at s) n d.0 d.1, taken-within (drop at s) n d.0 d.1, length-drop at s)
