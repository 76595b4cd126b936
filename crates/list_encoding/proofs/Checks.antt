-- The whole list is told by its first option and the options behind it, so a walk that adds up sizes knows at each option what the whole comes to.
-- Assumes nothing.
use mathlib.Core.Path.{◌≡◌, refl, sym, ap, ap₂, ◌∙◌}
use mathlib.Core.Bool.{Bool, true, false, cond}
use mathlib.Core.List.{List, [], ◌∷◌}
use Prim.Native.Nat.{ℕ, suc, ◌+◌, ◌-◌, ◌≤◌, ◌<◌}
use native.Mathlib.Nat.{zero-add, add_assoc}
use native.Mathlib.Omega.{arith}
use borrow.Author.Tests.{ne_eqb, le-leb, lt-leb}
use lib.Dec.{eqb, leb}
use lib.ListN.{length, drop, drop_of_length-le}
use lib.Seq.{drop-cons}
use Rattle.wire_step.specs.Kinds.{apc}
use Rattle.wire_options.specs.Walk.{Item, option_limit}
use Rattle.list_entry.specs.Shape.{Shape, fields, raw, barred, shape_of}
use Rattle.list_entry.specs.Option.{longest_body, Read, got, failed, and_then, read_as, read_number, read_option, total, Shaped}
use Rattle.list_encoding.specs.Encoding.{Answer, given, refused, unreadable, read_options, to_the_end, decoded_list}
use Rattle.list_encoding.specs.Wire.{
  crc_width,
  longest_short,
  whole_length,
  body_on_wire,
  option_size,
  wire_size,
  widths_of,
  fields_on_wire,
  Totals,
  measured,
  Sized,
  sized_before,
  sized_at,
}
use Rattle.list_entry.proofs.Shapes.{shape-cases, shape-token}
use Rattle.list_encoding.proofs.Shapes.{shape-short}
use Rattle.list_entry.proofs.Places.{ValueAt, place_of}
use Rattle.list_entry.proofs.Readers.{OptionAt, option-at}
use Rattle.list_entry.proofs.Entered.{FieldsAt, BodyAt}

-- ---- the size of one option

pub length-short : (body : ℕ) → body ≤ 252 → whole_length body ≡ body + 2
unfolding whole_length
length-short body h = rw (le-leb (body + 2) longest_short (omega arith))

pub length-extended : (body : ℕ) → 252 < body → whole_length body ≡ body + 4
unfolding whole_length
length-extended body h = rw (lt-leb (body + 2) longest_short (omega arith))

length_most : (body : ℕ) → body ≤ longest_body → whole_length body ≤ 65535
unfolding whole_length
length_most body h = go (leb (body + 2) longest_short)
  where
    go : (t : Bool) → cond t (body + 2) (body + 4) ≤ 65535
    go true = omega arith
    go false = omega arith

pub fields-most : (kind : ℕ) → fields_on_wire kind ≤ longest_body
unfolding fields_on_wire
fields-most kind = go (eqb kind apc)
  where
    go : (t : Bool) → cond t crc_width (total (widths_of (shape_of kind))) ≤ longest_body
    go true = omega arith
    go false = omega (arith, shape-short kind)

pub fields-none : (kind : ℕ) → (kind ≡ 2 → ⊥) → (kind ≡ 4 → ⊥) → (kind ≡ 5 → ⊥) → (kind ≡ 6 → ⊥) → (kind ≡ 7 → ⊥) → (kind ≡ 8 → ⊥)
    → fields_on_wire kind ≡ 0
unfolding fields_on_wire total
fields-none kind n2 n4 n5 n6 n7 n8 =
    rw (ne_eqb kind apc n2)
    (shape-cases kind (λ shape. total (widths_of shape) ≡ 0) (λ e. absurd (n2 e)) (λ e. absurd (n4 e)) (λ e. absurd (n5 e)) (λ e. absurd (n6 e))
    (λ e. absurd (n7 e)) (λ e. absurd (n8 e)) (λ g h. refl) refl)

pub fields-token : (kind : ℕ) → 6 ≤ kind → kind < 8 → fields_on_wire kind ≡ 4
unfolding fields_on_wire total
fields-token kind h g = rw (ne_eqb kind apc (λ e. omega arith), shape-token kind h g)

body-most : (item : Item) → Shaped (shape_of item.kind) item.body → body_on_wire item ≤ longest_body
unfolding body_on_wire
body-most item h = go (eqb item.kind apc)
  where
    by : (shape : Shape) → total (widths_of shape) ≤ 8 → Shaped shape item.body → length item.body ≤ longest_body
    by (fields widths) t s = omega arith
    by raw t s = s
    by barred t s = absurd s

    go : (t : Bool) → cond t crc_width (length item.body) ≤ longest_body
    go true = omega arith
    go false = by (shape_of item.kind) (shape-short item.kind) h

-- an option at a position: its size and the next position
pub record SizedOption (s : List ℕ) (at size next : ℕ) : Type 0 where
  pub item : Item
  pub there : OptionAt s at item next
  pub sized : size ≡ option_size item
  pub small : size ≤ 65535

abbrev size_next : ℕ → ℕ → Sized
size_next size next = record { size = size; next = next }

sized-at : (s : List ℕ) (at : ℕ) (item : Item) (next : ℕ) → OptionAt s at item next → sized_at s at ≡ given (size_next (option_size item) next)
unfolding sized_at
sized-at s at item next o =
    ap (sized_before (length s)) o.reads ∙ ap (λ (n : ℕ). given (size_next (option_size item) n)) (place_of s next o.within)

pub sized-there : (s : List ℕ) (at size next : ℕ) → sized_at s at ≡ given (record { size = size; next = next }) → SizedOption s at size next
unfolding sized_at option_size
sized-there s at size next e = go (read_option (drop at s)) refl e
  where
    go : (t : Read Item) → read_option (drop at s) ≡ t → sized_before (length s) t ≡ given (size_next size next) → SizedOption s at size next
    go (failed n) p q = absurd (let z : ◌≡◌ {A = ℕ} 0 1 = cc in omega arith)
    go (got item rest) p q =
        let both : size_next (option_size item) (length s - length rest) ≡ size_next size next = cc in
        let o = option-at s at item rest p in
        let same : option_size item ≡ size = ap (λ (t : Sized). t.size) both in
        let ends : length s - length rest ≡ next = ap (λ (t : Sized). t.next) both in
        record {
          item = item;
          there = rw (← ends) o;
          sized = sym same;
          small = omega (arith, length_most (body_on_wire item) (body-most item o.shaped));
        }

pub sized-refused : (s : List ℕ) (at n : ℕ) → read_option (drop at s) ≡ failed n → sized_at s at ≡ refused n
unfolding sized_at
sized-refused s at n e = ap (sized_before (length s)) e

pub refused-there : (s : List ℕ) (at n : ℕ) → sized_at s at ≡ refused n → read_option (drop at s) ≡ failed n
unfolding sized_at
refused-there s at n e = go (read_option (drop at s)) refl e
  where
    go : (t : Read Item) → read_option (drop at s) ≡ t → sized_before (length s) t ≡ refused n → read_option (drop at s) ≡ failed n
    go (failed m) p q = let same : m ≡ n = cc in p ∙ ap failed same
    go (got item rest) p q = absurd (let z : ◌≡◌ {A = ℕ} 0 1 = cc in omega arith)

-- what `entry_at` finds, measured
pub fields-size : {s : List ℕ} {at kind first second next : ℕ} → FieldsAt s at kind first second next
    → sized_at s at ≡ given (record { size = whole_length (fields_on_wire kind); next = next })
unfolding option_size body_on_wire fields_on_wire
fields-size {s} {at} {kind} {next = next} f =
    let item : Item = f.item in
    let same : shape_of item.kind ≡ fields f.widths = ap shape_of f.same ∙ f.shape in
    let long : length item.body ≡ total f.widths = rw same at f.there.shaped in
    let wide : total f.widths ≡ total (widths_of (shape_of kind)) = ap (λ (x : Shape). total (widths_of x)) (sym f.shape) in
    sized-at s at item next f.there
    ∙ ap₂ (λ (k n : ℕ). given (size_next (whole_length (cond (eqb k apc) crc_width n)) next)) f.same (long ∙ wide)

pub body-size : {s : List ℕ} {at kind start size next : ℕ} → BodyAt s at kind start size next
    → (sized_at s at ≡ given (record { size = whole_length size; next = next })) × (size ≤ longest_body)
unfolding option_size body_on_wire shape_of
body-size {s} {at} {kind} {size = size} {next = next} b =
    let item : Item = b.item in
    let same : shape_of item.kind ≡ raw = ap shape_of b.same ∙ b.shape in
    let most : length item.body ≤ longest_body = rw same at b.there.shaped in
    let other : item.kind ≡ apc → ⊥ =
    λ e. let q : fields [] ≡ raw = sym (ap shape_of e) ∙ same in let z : ◌≡◌ {A = ℕ} 0 1 = cc in omega arith in (
      sized-at s at item next b.there
          ∙ rw (ne_eqb item.kind apc other) (ap (λ (n : ℕ). given (size_next (whole_length n) next)) (sym b.long)),
      omega (arith, b.long),
    )

-- ---- all of them

abbrev pub checked : ℕ → List ℕ → Answer Totals
checked count l = measured (to_the_end (read_options count l))

-- a total behind `count` options of `size` bytes
abbrev pub passed : ℕ → ℕ → Answer Totals → Answer Totals
passed count size (given t) = given (record { count = count + t.count; size = size + t.size })
passed count size (refused n) = refused n

pub passed_none : (a : Answer Totals) → passed 0 0 a ≡ a
passed_none (given t) = ap₂ (λ (n k : ℕ). given (record { count = n; size = k })) (zero-add t.count) (zero-add t.size)
passed_none (refused n) = refl

passed-passed : (n k m j : ℕ) (a : Answer Totals) → passed n k (passed m j a) ≡ passed (n + m) (k + j) a
passed-passed n k m j (given t) =
    ap₂ (λ (x y : ℕ). given (record { count = x; size = y })) (sym (add_assoc n m t.count)) (sym (add_assoc k j t.size))
passed-passed n k m j (refused r) = refl

check-one : (count : ℕ) (l : List ℕ) (item : Item) (rest : List ℕ) → read_option l ≡ got item rest
    → checked (suc count) l ≡ passed 1 (option_size item) (checked count rest)
unfolding read_options wire_size
check-one count l item rest e =
    ap (λ (t : Read Item). measured (to_the_end (and_then t (λ i r. read_as (λ is. i ∷ is) (read_options count r))))) e ∙ go (read_options count rest)
  where
    go : (t : Read (List Item)) → measured (to_the_end (read_as (λ is. item ∷ is) t)) ≡ passed 1 (option_size item) (measured (to_the_end t))
    go (failed n) = refl
    go (got items (b ∷ r)) = refl
    go (got items []) = ap (λ (n : ℕ). given (record { count = n; size = option_size item + wire_size items })) (omega arith)

check-refused : (count : ℕ) (l : List ℕ) (n : ℕ) → read_option l ≡ failed n → checked (suc count) l ≡ refused n
unfolding read_options
check-refused count l n e =
    ap (λ (t : Read Item). measured (to_the_end (and_then t (λ i r. read_as (λ is. i ∷ is) (read_options count r))))) e

-- no option is left: bytes behind the last are refused
pub check-left : (s : List ℕ) (at : ℕ) → at < length s → checked 0 (drop at s) ≡ refused unreadable
unfolding read_options
check-left s at h = ap (checked 0) (drop-cons s at 0 h)

pub check-end : (s : List ℕ) (at : ℕ) → length s ≤ at → checked 0 (drop at s) ≡ given (record { count = 0; size = 0 })
unfolding read_options wire_size
check-end s at h = ap (checked 0) (drop_of_length-le s h)

-- ---- a turn of the loop: `done` of `count` options were passed, and the next one stands at `at`

one-more : (count done : ℕ) → done < count → count - done ≡ suc (count - (done + 1))
one-more count done h = omega arith

pub turn_on : {a : Answer Totals} {s : List ℕ} {at next : ℕ} (count done size more : ℕ) → a ≡ passed done size (checked (count - done) (drop at s))
    → done < count → SizedOption s at more next → a ≡ passed (done + 1) (size + more) (checked (count - (done + 1)) (drop next s))
turn_on {a} {s} {at} {next} count done size more e h o =
    let left : ℕ = count - (done + 1) in
    e ∙ ap (λ (k : ℕ). passed done size (checked k (drop at s))) (one-more count done h)
    ∙ ap (passed done size) (check-one left (drop at s) o.item (drop next s) o.there.reads)
    ∙ passed-passed done size 1 (option_size o.item) (checked left (drop next s))
    ∙ ap (λ (k : ℕ). passed (done + 1) (size + k) (checked left (drop next s))) (sym o.sized)

pub turn-refused : {a : Answer Totals} (s : List ℕ) (at count done size n : ℕ) → a ≡ passed done size (checked (count - done) (drop at s))
    → done < count → read_option (drop at s) ≡ failed n → a ≡ refused n
turn-refused s at count done size n e h r =
    e ∙ ap (λ (k : ℕ). passed done size (checked k (drop at s))) (one-more count done h)
    ∙ ap (passed done size) (check-refused (count - (done + 1)) (drop at s) n r)

-- ---- the count in front

pub list_counted : {s : List ℕ} {count next : ℕ} → ValueAt 33 s 0 count next → decoded_list s ≡ to_the_end (read_options count (drop next s))
unfolding decoded_list option_limit
list_counted v = ap (λ (t : Read ℕ). to_the_end (and_then t read_options)) v.reads

pub list-uncounted : (s : List ℕ) → read_number 33 s ≡ failed unreadable → decoded_list s ≡ refused unreadable
unfolding decoded_list option_limit
list-uncounted s e = ap (λ (t : Read ℕ). to_the_end (and_then t read_options)) e
