-- What an answer of `entry_at` says of the list: the option that is read at the position, and where it ends. The shape of its kind decides which
-- case it is. Assumes nothing.
use mathlib.Core.Path.{◌≡◌, refl, sym, ap, ◌∙◌}
use mathlib.Core.List.{List}
use Prim.Native.Nat.{ℕ, ◌-◌}
use native.Mathlib.Omega.{arith}
use lib.ListN.{length, drop, get_or}
use Rattle.wire_options.specs.Walk.{Item}
use Rattle.list_entry.specs.Shape.{Shape, fields, raw, barred, shape_of}
use Rattle.list_entry.specs.Option.{given, refused, Read, got, failed, read_option, Shaped}
use Rattle.list_entry.specs.Answer.{numbers, body, values, spelled_as, spelled_before, entry_at}
use Rattle.list_entry.proofs.Readers.{OptionAt, option-at}

-- an option with fields
pub record FieldsAt (s : List ℕ) (at kind first second next : ℕ) : Type 0 where
  pub item : Item
  pub same : item.kind ≡ kind
  pub there : OptionAt s at item next
  pub widths : List ℕ
  pub shape : shape_of kind ≡ fields widths
  pub one : first ≡ get_or (values widths item.body) 0 0
  pub two : second ≡ get_or (values widths item.body) 1 0

-- an option with a raw body
pub record BodyAt (s : List ℕ) (at kind start size next : ℕ) : Type 0 where
  pub item : Item
  pub same : item.kind ≡ kind
  pub there : OptionAt s at item next
  pub shape : shape_of kind ≡ raw
  pub long : size ≡ length item.body
  pub begins : start ≡ next - length item.body

pub entry-fields : (s : List ℕ) (at kind first second next : ℕ) → entry_at s at ≡ given (numbers kind first second next)
    → FieldsAt s at kind first second next
unfolding entry_at
entry-fields s at kind first second next e = go (read_option (drop at s)) refl e
  where
    by : (item : Item) (rest : List ℕ) (shape : Shape) → OptionAt s at item (length s - length rest) → shape_of item.kind ≡ shape
        → Shaped shape item.body → given (spelled_as shape item (length s - length rest)) ≡ given (numbers kind first second next)
        → FieldsAt s at kind first second next
    by item rest raw o f g q = absurd (let z : ◌≡◌ {A = ℕ} 0 1 = cc in omega arith)
    by item rest barred o f g q = absurd g
    by item rest (fields widths) o f g q =
        let same : item.kind ≡ kind = cc in
        let ends : length s - length rest ≡ next = cc in
        let one : get_or (values widths item.body) 0 0 ≡ first = cc in
        let two : get_or (values widths item.body) 1 0 ≡ second = cc in
        record {
          item = item;
          same = same;
          there = rw (← ends) o;
          widths = widths;
          shape = ap shape_of (sym same) ∙ f;
          one = sym one;
          two = sym two;
        }

    go : (t : Read Item) → read_option (drop at s) ≡ t → spelled_before (length s) t ≡ given (numbers kind first second next)
        → FieldsAt s at kind first second next
    go (failed n) p q = absurd (let z : ◌≡◌ {A = ℕ} 0 1 = cc in omega arith)
    go (got item rest) p q = let o = option-at s at item rest p in by item rest (shape_of item.kind) o refl o.shaped q

pub entry-body : (s : List ℕ) (at kind start size next : ℕ) → entry_at s at ≡ given (body kind start size next) → BodyAt s at kind start size next
unfolding entry_at
entry-body s at kind start size next e = go (read_option (drop at s)) refl e
  where
    by : (item : Item) (rest : List ℕ) (shape : Shape) → OptionAt s at item (length s - length rest) → shape_of item.kind ≡ shape
        → Shaped shape item.body → given (spelled_as shape item (length s - length rest)) ≡ given (body kind start size next)
        → BodyAt s at kind start size next
    by item rest (fields widths) o f g q = absurd (let z : ◌≡◌ {A = ℕ} 0 1 = cc in omega arith)
    by item rest barred o f g q = absurd g
    by item rest raw o f g q =
        let same : item.kind ≡ kind = cc in
        let ends : length s - length rest ≡ next = cc in
        let long : length item.body ≡ size = cc in
        let begins : length s - length rest - length item.body ≡ start = cc in
        record {
          item = item;
          same = same;
          there = rw (← ends) o;
          shape = ap shape_of (sym same) ∙ f;
          long = sym long;
          begins = sym begins ∙ ap (λ (n : ℕ). n - length item.body) ends;
        }

    go : (t : Read Item) → read_option (drop at s) ≡ t → spelled_before (length s) t ≡ given (body kind start size next)
        → BodyAt s at kind start size next
    go (failed n) p q = absurd (let z : ◌≡◌ {A = ℕ} 0 1 = cc in omega arith)
    go (got item rest) p q = let o = option-at s at item rest p in by item rest (shape_of item.kind) o refl o.shaped q

pub entry-refused : (s : List ℕ) (at n : ℕ) → entry_at s at ≡ refused n → read_option (drop at s) ≡ failed n
unfolding entry_at
entry-refused s at n e = go (read_option (drop at s)) refl e
  where
    go : (t : Read Item) → read_option (drop at s) ≡ t → spelled_before (length s) t ≡ refused n → read_option (drop at s) ≡ failed n
    go (failed m) p q = let same : m ≡ n = cc in p ∙ ap failed same
    go (got item rest) p q = absurd (let z : ◌≡◌ {A = ℕ} 0 1 = cc in omega arith)
