-- What stands behind a kind is told by the shape of the kind: each field's number is its bytes' (`field-value`), and a raw body ends where the next
-- option begins. Assumes nothing.
use mathlib.Core.Path.{◌≡◌, refl, ap, ap₂, ◌∙◌}
use mathlib.Core.List.{List, [], ◌∷◌, ◌++◌}
use Prim.Native.Nat.{ℕ, ◌+◌, ◌-◌, ◌^◌, ◌≤◌, ◌<◌}
use native.Mathlib.Omega.{arith}
use borrow.Author.Tests.{le-leb, lt-leb}
use lib.ListN.{length, take, drop, length-drop}
use lib.Seq.{drop-drop, length-take-le}
use Rattle.number_octets.specs.Octets.{number, octets}
use Rattle.list_entry.specs.Shape.{Shape, fields, raw, barred, shape_of}
use Rattle.list_entry.specs.Option.{
  Answer,
  given,
  refused,
  unreadable,
  forbidden,
  longest_body,
  Read,
  got,
  failed,
  and_then,
  read_as,
  read_number,
  read_fields,
  read_bytes,
  read_body,
  item_of,
  read_kind,
  read_option,
}
use Rattle.list_entry.specs.Answer.{Spelled, numbers, body, values, spelled_as, spelled_before, read_one, read_behind, read_two, fields_before, entry_at}
use Rattle.list_entry.proofs.Laws.{field-value, behind-octets}
use Rattle.list_entry.proofs.Numbers.{number_read}
use Rattle.list_entry.proofs.Places.{ValueAt, place_of}

-- ---- one or two fields from a position

module _ (kind : ℕ) {limit : ℕ} {s : List ℕ} {at value next : ℕ} (v : ValueAt limit s at value next) where
  pub one-there : fields_before (length s) kind (read_one limit (drop at s)) ≡ given (numbers kind value 0 next)
  one-there =
      ap (λ (r : Read ℕ). fields_before (length s) kind (read_as (λ (n : ℕ). n ∷ []) r)) v.reads
      ∙ ap (λ (n : ℕ). given (numbers kind value 0 n)) (place_of s next v.within)

  pub behind-there : (first : ℕ) → fields_before (length s) kind (read_behind first limit (drop at s)) ≡ given (numbers kind first value next)
  behind-there first =
      ap (λ (r : Read ℕ). fields_before (length s) kind (read_as (λ (n : ℕ). first ∷ n ∷ []) r)) v.reads
      ∙ ap (λ (n : ℕ). given (numbers kind first value n)) (place_of s next v.within)

  pub two-there : (second : ℕ) → fields_before (length s) kind (read_two limit second (drop at s))
      ≡ fields_before (length s) kind (read_behind value second (drop next s))
  two-there second = ap (λ (r : Read ℕ). fields_before (length s) kind (and_then r (λ n t. read_behind n second t))) v.reads

-- ---- by the shape of the kind

-- what was read of a body, told by a shape
abbrev body_before : Shape → ℕ → ℕ → Read (List ℕ) → Answer Spelled
body_before shape end kind (got bytes rest) = given (spelled_as shape (item_of kind bytes) (end - length rest))
body_before shape end kind (failed n) = refused n

module _ (end kind : ℕ) (l : List ℕ) where
  by_shape : (shape : Shape) → shape_of kind ≡ shape → spelled_before end (read_kind kind l) ≡ body_before shape end kind (read_body shape l)
  unfolding read_kind
  by_shape shape e =
      ap (λ (f : Shape). spelled_before end (read_as (item_of kind) (read_body f l))) e ∙ go (read_body shape l)
    where
      go : (t : Read (List ℕ)) → spelled_before end (read_as (item_of kind) t) ≡ body_before shape end kind t
      go (failed n) = refl
      go (got bytes rest) = ap (λ (f : Shape). given (spelled_as f (item_of kind bytes) (end - length rest))) e

  pub kind-barred : shape_of kind ≡ barred → spelled_before end (read_kind kind l) ≡ refused forbidden
  unfolding read_body
  kind-barred e = by_shape barred e

  pub kind-none : shape_of kind ≡ fields [] → spelled_before end (read_kind kind l) ≡ given (numbers kind 0 0 (end - length l))
  unfolding read_body read_fields values
  kind-none e = by_shape (fields []) e

  pub kind-one : (width : ℕ) → shape_of kind ≡ fields (width ∷ [])
      → spelled_before end (read_kind kind l) ≡ fields_before end kind (read_one (256 ^ width) l)
  unfolding read_body read_fields values
  kind-one width e = by_shape (fields (width ∷ [])) e ∙ go (read_number (256 ^ width) l) refl
    where
      go : (t : Read ℕ) → read_number (256 ^ width) l ≡ t
          → body_before (fields (width ∷ [])) end kind (and_then t (λ v r. read_as (λ b. octets width v ++ b) (read_fields [] r)))
          ≡ fields_before end kind (read_as (λ v. v ∷ []) t)
      go (failed n) p = refl
      go (got v r) p =
          ap (λ (n : ℕ). given (numbers kind n 0 (end - length r))) (field-value width v [] (number_read (256 ^ width) l v r p).small)

  pub kind-two : (width second : ℕ) → shape_of kind ≡ fields (width ∷ second ∷ [])
      → spelled_before end (read_kind kind l) ≡ fields_before end kind (read_two (256 ^ width) (256 ^ second) l)
  unfolding read_body read_fields values
  kind-two width second e = by_shape (fields (width ∷ second ∷ [])) e ∙ first (read_number (256 ^ width) l) refl
    where
      then : (v : ℕ) (r : List ℕ) (t : Read ℕ) → v < 256 ^ width → read_number (256 ^ second) r ≡ t
          → body_before (fields (width ∷ second ∷ [])) end kind
          (read_as (λ b. octets width v ++ b) (and_then t (λ w q. read_as (λ b. octets second w ++ b) (read_fields [] q))))
          ≡ fields_before end kind (read_as (λ w. v ∷ w ∷ []) t)
      then v r (failed n) h p = refl
      then v r (got w q) h p =
          let tail : List ℕ = octets second w ++ [] in
          ap₂ (λ (m n : ℕ). given (numbers kind m n (end - length q))) (field-value width v tail h)
          (ap (λ (b : List ℕ). number (take second b)) (behind-octets width v tail) ∙ field-value second w [] (number_read (256 ^ second) r w q p).small)

      first : (t : Read ℕ) → read_number (256 ^ width) l ≡ t
          → body_before (fields (width ∷ second ∷ [])) end kind (and_then t (λ v r. read_as (λ b. octets width v ++ b) (read_fields (second ∷ []) r)))
          ≡ fields_before end kind (and_then t (λ v r. read_behind v (256 ^ second) r))
      first (failed n) p = refl
      first (got v r) p = then v r (read_number (256 ^ second) r) (number_read (256 ^ width) l v r p).small refl

-- a raw body: the size that was read, and so many bytes
module _ (s : List ℕ) (at kind size next : ℕ) (e : shape_of kind ≡ raw) where
  raw-bytes : read_number (longest_body + 1) (drop at s) ≡ got size (drop next s)
      → spelled_before (length s) (read_kind kind (drop at s)) ≡ body_before raw (length s) kind (read_bytes size (drop next s))
  unfolding read_body
  raw-bytes r =
      by_shape (length s) kind (drop at s) raw e ∙ ap (λ (t : Read ℕ). body_before raw (length s) kind (and_then t read_bytes)) r

  pub raw-cut : ValueAt (longest_body + 1) s at size next → length s - next < size
      → spelled_before (length s) (read_kind kind (drop at s)) ≡ refused unreadable
  raw-cut v h = raw-bytes v.reads ∙ rw (lt-leb size (length (drop next s)) (simp length-drop (omega arith)))

  pub raw-there : ValueAt (longest_body + 1) s at size next → size ≤ length s - next
      → spelled_before (length s) (read_kind kind (drop at s)) ≡ given (body kind next size (next + size))
  raw-there v h =
      let enough : size ≤ length (drop next s) = simp length-drop (omega arith) in
      let long : length (take size (drop next s)) ≡ size = length-take-le size (drop next s) enough in
      let ends : length s - length (drop size (drop next s)) ≡ next + size =
      ap (λ (l : List ℕ). length s - length l) (drop-drop size next s) ∙ place_of s (next + size) (omega (arith, v.within)) in
      raw-bytes v.reads
      ∙ rw (le-leb size (length (drop next s)) enough, long, ends) (ap (λ (n : ℕ). given (body kind n size (next + size))) (omega arith))

-- no number behind which a body could stand
pub raw-none : (s : List ℕ) (at kind : ℕ) → shape_of kind ≡ raw → read_number (longest_body + 1) (drop at s) ≡ failed unreadable
    → spelled_before (length s) (read_kind kind (drop at s)) ≡ refused unreadable
unfolding read_body
raw-none s at kind e r =
    by_shape (length s) kind (drop at s) raw e ∙ ap (λ (t : Read ℕ). body_before raw (length s) kind (and_then t read_bytes)) r

-- ---- the option at a position

pub entry-kind : {s : List ℕ} {at kind next : ℕ} → ValueAt 256 s at kind next → entry_at s at ≡ spelled_before (length s) (read_kind kind (drop next s))
unfolding entry_at read_option
entry-kind {s} v = ap (λ (t : Read ℕ). spelled_before (length s) (and_then t read_kind)) v.reads

pub entry-none : (s : List ℕ) (at : ℕ) → read_number 256 (drop at s) ≡ failed unreadable → entry_at s at ≡ refused unreadable
unfolding entry_at read_option
entry-none s at e = ap (λ (t : Read ℕ). spelled_before (length s) (and_then t read_kind)) e
