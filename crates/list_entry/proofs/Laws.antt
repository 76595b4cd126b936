-- Reading an encoded option and writing it are inverse: number by number and body by body, each is read back as it was written (`-back`), and
-- what was read is the encoding at the front of the list (`-read`). Assumes nothing.
use mathlib.Core.Path.{◌≡◌, refl, sym, ap, ap₂, ◌∙◌}
use mathlib.Core.Bool.{true}
use mathlib.Core.List.{List, [], ◌∷◌, ◌++◌, append_assoc}
use Prim.Native.Nat.{ℕ, zero, suc, ◌+◌, ◌^◌, ◌<◌}
use native.Mathlib.Omega.{arith}
use borrow.Author.Tests.{le-leb}
use lib.Dec.{leb}
use lib.ListN.{length, take, drop, take-append-drop, length-append, length-drop}
use lib.Seq.{take-append_seam, drop-append_seam, take_at, drop_at, length-take-le}
use Rattle.number_octets.specs.Octets.{Octets, number, octets}
use Rattle.number_octets.proofs.Laws.{number_lt, number-octets, octets-number, length-octets, octets-bytes, part_bytes}
use Rattle.number_varint.specs.SevenBit.{encoded}
use Rattle.wire_options.specs.Walk.{Item}
use Rattle.list_entry.specs.Shape.{Shape, fields, raw, barred, shape_of}
use Rattle.list_entry.specs.Option.{
  longest_body,
  encoded_fields,
  encoded_body,
  encoded_option,
  Read,
  got,
  and_then,
  read_as,
  read_number,
  read_fields,
  read_bytes,
  read_body,
  item_of,
  read_kind,
  read_option,
  total,
  Shaped,
  ValidOption,
}
use Rattle.list_entry.proofs.Shapes.{Narrow, NarrowShape, ByteKind, shape-narrow, shape-byte}
use Rattle.list_entry.proofs.Parts.{then-got, as-got, bytes-got}
use Rattle.list_entry.proofs.Numbers.{bytes_drop, number-back, NumberRead, number_read, number-bytes, number-whole}

-- ---- lists of bytes

none-long : (l : List ℕ) → length l ≡ 0 → l ≡ []
none-long [] e = refl
none-long (x ∷ l) e = absurd (omega arith)

bytes_take : (n : ℕ) (l : List ℕ) → Octets l → Octets (take n l)
bytes_take n l h = part_bytes 0 n l h

pub bytes-append : (a b : List ℕ) → Octets a → Octets b → Octets (a ++ b)
bytes-append [] b h g i = g i
bytes-append (x ∷ a) b h g zero = h 0
bytes-append (x ∷ a) b h g (suc i) = bytes-append a b (λ j. h (suc j)) g i

-- ---- the fields of an option

module _ (width value : ℕ) (body : List ℕ) where
  front-octets : take width (octets width value ++ body) ≡ octets width value
  front-octets = take_at (octets width value) body width (length-octets width value)

  pub behind-octets : drop width (octets width value ++ body) ≡ body
  behind-octets = drop_at (octets width value) body width (length-octets width value)

  -- the first field of bytes laid end to end
  pub field-value : value < 256 ^ width → number (take width (octets width value ++ body)) ≡ value
  field-value h = ap number front-octets ∙ number-octets width value h

fields_back : (widths body rest : List ℕ) → Narrow widths → length body ≡ total widths → Octets body
    → read_fields widths (encoded_fields widths body ++ rest) ≡ got body rest
unfolding read_fields encoded_fields total
fields_back [] body rest n s h = ap (λ (b : List ℕ). got b rest) (sym (none-long body s))
fields_back (width ∷ widths) body rest n s h =
    let front : List ℕ = take width body in
    let behind : List ℕ = drop width body in
    let size : length front ≡ width = length-take-le width body (omega arith) in
    let octets-front : Octets front = bytes_take width body h in
    let value : ℕ = number front in
    let small : value < 256 ^ width = rw size at (number_lt front octets-front) in
    let next : ℕ → List ℕ → Read (List ℕ) =
    λ v r. read_as (λ b. octets width v ++ b) (read_fields widths r) in
    let ih = fields_back widths behind rest n.1 (simp length-drop (omega arith)) (bytes_drop width body h) in
    let same : octets width value ≡ front = rw size at (octets-number front octets-front) in
    ap (λ (l : List ℕ). and_then (read_number (256 ^ width) l) next) (append_assoc (encoded value) (encoded_fields widths behind) rest)
    ∙ ap (λ (r : Read ℕ). and_then r next) (number-back (256 ^ width) value (encoded_fields widths behind ++ rest) small (omega (arith, n.0)))
    ∙ ap (read_as (λ (b : List ℕ). octets width value ++ b)) ih
    ∙ ap (λ (b : List ℕ). got b rest) (ap (λ (a : List ℕ). a ++ behind) same ∙ take-append-drop width body)

pub record BodyRead (encoding l body rest : List ℕ) : Type 0 where
  pub whole : encoding ++ rest ≡ l
  pub bytes : Octets body
  pub behind : Octets rest

-- one field more in front of those that were read
field-joined : (width v : ℕ) (widths l b r t : List ℕ) → Octets l → NumberRead (256 ^ width) l v r
    → BodyRead (encoded_fields widths b) r b t × (length b ≡ total widths)
    → BodyRead (encoded_fields (width ∷ widths) (octets width v ++ b)) l (octets width v ++ b) t
    × (length (octets width v ++ b) ≡ width + total widths)
unfolding encoded_fields
field-joined width v widths l b r t h n m =
    let code : encoded_fields (width ∷ widths) (octets width v ++ b) ≡ encoded v ++ encoded_fields widths b =
    ap₂ (λ (k : ℕ) (c : List ℕ). encoded k ++ encoded_fields widths c) (field-value width v b n.small) (behind-octets width v b) in (
      record {
        whole =
            ap (λ (c : List ℕ). c ++ t) code ∙ append_assoc (encoded v) (encoded_fields widths b) t
            ∙ ap (λ (c : List ℕ). encoded v ++ c) m.0.whole ∙ number-whole n h;
        bytes = bytes-append (octets width v) b (octets-bytes width v) m.0.bytes;
        behind = m.0.behind;
      },
      simp (length-append, length-octets) (omega (arith, m.1)),
    )

fields_read : (widths l body rest : List ℕ) → Octets l → read_fields widths l ≡ got body rest
    → BodyRead (encoded_fields widths body) l body rest × (length body ≡ total widths)
unfolding read_fields encoded_fields total
fields_read [] l body rest h e =
    let none : [] ≡ body = cc in
    let all : l ≡ rest = cc in (
      record { whole = sym all; bytes = rw (← none) (λ i. omega arith); behind = rw (← all) h },
      sym (ap length none),
    )
fields_read (width ∷ widths) l body rest h e =
    let n = then-got (read_number (256 ^ width) l) (λ v r. read_as (λ b. octets width v ++ b) (read_fields widths r)) e in
    let b = as-got (λ (b : List ℕ). octets width n.0 ++ b) (read_fields widths n.1) n.3 in
    let q = number_read (256 ^ width) l n.0 n.1 n.2 in
    rw (← b.2) (field-joined width n.0 widths l b.0 n.1 rest h q (fields_read widths n.1 b.0 rest (number-bytes q h) b.1))

-- ---- the body of an option

body_back : (shape : Shape) (body rest : List ℕ) → NarrowShape shape → Shaped shape body → Octets body
    → read_body shape (encoded_body shape body ++ rest) ≡ got body rest
unfolding read_body encoded_body
body_back (fields widths) body rest n s h = fields_back widths body rest n s h
body_back barred body rest n s h = absurd s
body_back raw body rest n s h =
    let limit : ℕ = longest_body + 1 in
    let all : leb (length body) (length (body ++ rest)) ≡ true = le-leb (length body) (length (body ++ rest)) (omega (arith, length-append body rest)) in
    ap (λ (l : List ℕ). and_then (read_number limit l) read_bytes) (append_assoc (encoded (length body)) body rest)
    ∙ ap (λ (r : Read ℕ). and_then r read_bytes) (number-back limit (length body) (body ++ rest) (omega arith) (omega arith))
    ∙ rw all (ap₂ got (take-append_seam body rest) (drop-append_seam body rest))

body-read : (shape : Shape) (l body rest : List ℕ) → Octets l → read_body shape l ≡ got body rest
    → BodyRead (encoded_body shape body) l body rest × Shaped shape body
unfolding read_body encoded_body
body-read (fields widths) l body rest h e = fields_read widths l body rest h e
body-read barred l body rest h e = absurd (let z : ◌≡◌ {A = ℕ} 0 1 = cc in omega arith)
body-read raw l body rest h e =
    let n = then-got (read_number (longest_body + 1) l) read_bytes e in
    let b = bytes-got n.0 n.1 n.3 in
    let q = number_read (longest_body + 1) l n.0 n.1 n.2 in
    let size : length body ≡ n.0 = sym (ap length b.1) ∙ length-take-le n.0 n.1 b.0 in
    let all : body ++ rest ≡ n.1 = ap₂ ◌++◌ (sym b.1) (sym b.2) ∙ take-append-drop n.0 n.1 in (
      record {
        whole =
            append_assoc (encoded (length body)) body rest ∙ ap₂ (λ (k : ℕ) (c : List ℕ). encoded k ++ c) size all ∙ number-whole q h;
        bytes = rw (← b.1) (bytes_take n.0 n.1 (number-bytes q h));
        behind = rw (← b.2) (bytes_drop n.0 n.1 (number-bytes q h));
      },
      omega (arith, q.small),
    )

-- ---- one option

-- What is encoded is read back, whatever is behind it.
pub option_back : (item : Item) (rest : List ℕ) → ValidOption item → read_option (encoded_option item ++ rest) ≡ got item rest
unfolding read_option read_kind encoded_option
option_back item rest v =
    let kind : ℕ = item.kind in
    let shape : Shape = shape_of kind in
    let code : List ℕ = encoded_body shape item.body in
    let small : kind < 256 = byte (shape_of kind) (shape-byte kind) v.shaped in
    ap (λ (l : List ℕ). and_then (read_number 256 l) read_kind) (append_assoc (encoded kind) code rest)
    ∙ ap (λ (r : Read ℕ). and_then r read_kind) (number-back 256 kind (code ++ rest) small (omega arith))
    ∙ ap (read_as (item_of kind)) (body_back shape item.body rest (shape-narrow kind) v.shaped v.bytes)
  where
    byte : (shape : Shape) → ByteKind item.kind shape → Shaped shape item.body → item.kind < 256
    byte (fields widths) b s = b
    byte raw b s = b
    byte barred b s = absurd s

pub record OptionRead (l : List ℕ) (item : Item) (rest : List ℕ) : Type 0 where
  pub whole : encoded_option item ++ rest ≡ l
  pub valid : ValidOption item
  pub behind : Octets rest

-- What was read is the encoding of a valid option.
pub option-read : (l : List ℕ) (item : Item) (rest : List ℕ) → Octets l → read_option l ≡ got item rest → OptionRead l item rest
unfolding read_option read_kind encoded_option
option-read l item rest h e =
    let n = then-got (read_number 256 l) read_kind e in
    let b = as-got (item_of n.0) (read_body (shape_of n.0) n.1) n.3 in
    let q = number_read 256 l n.0 n.1 n.2 in
    let m = body-read (shape_of n.0) n.1 b.0 rest (number-bytes q h) b.1 in
    rw (← b.2)
    record {
      whole =
          append_assoc (encoded n.0) (encoded_body (shape_of n.0) b.0) rest
          ∙ ap (λ (c : List ℕ). encoded n.0 ++ c) m.0.whole ∙ number-whole q h;
      valid = record { shaped = m.1; bytes = m.0.bytes };
      behind = m.0.behind;
    }
