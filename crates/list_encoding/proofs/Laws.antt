-- Reading an encoded option list and writing it are inverse: option by option, each is read back as it was written (`-back`), and what was read is
-- the encoding at the front of the list (`-read`). Assumes nothing.
use mathlib.Core.Path.{◌≡◌, refl, sym, ap, ap₂, ◌∙◌}
use mathlib.Core.List.{List, [], ◌∷◌, ◌++◌, append_assoc, append-nil}
use Prim.Native.Nat.{ℕ, zero, suc, ◌+◌}
use native.Mathlib.Omega.{arith}
use lib.ListN.{length}
use Rattle.number_octets.specs.Octets.{Octets}
use Rattle.number_varint.specs.SevenBit.{encoded}
use Rattle.wire_options.specs.Walk.{Item, option_limit}
use Rattle.list_entry.specs.Option.{encoded_option, Read, failed, got, and_then, read_as, read_number, read_option}
use Rattle.list_encoding.specs.Encoding.{given, encoded_options, encoded_list, read_options, to_the_end, decoded_list, Each, Valid}
use Rattle.list_entry.proofs.Parts.{then-got, as-got}
use Rattle.list_entry.proofs.Numbers.{number-back, number_read, number-bytes, number-whole}
use Rattle.list_entry.proofs.Laws.{option_back, option-read}

-- ---- options one after the other

pub options-back : (items : List Item) (rest : List ℕ) → Each items → read_options (length items) (encoded_options items ++ rest) ≡ got items rest
unfolding read_options encoded_options
options-back [] rest v = refl
options-back (item ∷ items) rest v =
    let next : Item → List ℕ → Read (List Item) = λ i r. read_as (λ is. i ∷ is) (read_options (length items) r) in
    ap (λ (l : List ℕ). and_then (read_option l) next) (append_assoc (encoded_option item) (encoded_options items) rest)
    ∙ ap (λ (r : Read Item). and_then r next) (option_back item (encoded_options items ++ rest) v.0)
    ∙ ap (read_as (λ (is : List Item). item ∷ is)) (options-back items rest v.1)

pub record OptionsRead (count : ℕ) (l : List ℕ) (items : List Item) (rest : List ℕ) : Type 0 where
  pub whole : encoded_options items ++ rest ≡ l
  pub counted : length items ≡ count
  pub each : Each items

pub options-read : (count : ℕ) (l : List ℕ) (items : List Item) (rest : List ℕ) → Octets l → read_options count l ≡ got items rest
    → OptionsRead count l items rest
unfolding read_options encoded_options
options-read zero l items rest h e =
    let none : [] ≡ items = cc in
    let all : l ≡ rest = cc in
    rw (← none, ← all) record { whole = refl; counted = refl; each = tt }
options-read (suc count) l items rest h e =
    let n = then-got (read_option l) (λ i r. read_as (λ is. i ∷ is) (read_options count r)) e in
    let b = as-got (λ (is : List Item). n.0 ∷ is) (read_options count n.1) n.3 in
    let q = option-read l n.0 n.1 h n.2 in
    let m = options-read count n.1 b.0 rest q.behind b.1 in
    rw (← b.2)
    record {
      whole =
          append_assoc (encoded_option n.0) (encoded_options b.0) rest
          ∙ ap (λ (c : List ℕ). encoded_option n.0 ++ c) m.whole ∙ q.whole;
      counted = ap suc m.counted;
      each = (q.valid, m.each);
    }

-- ---- whole lists: one option list, one encoding

pub end-got : {A : Type 0} (t : Read A) {a : A} → to_the_end t ≡ given a → t ≡ got a []
end-got (got a []) e = cc
end-got (got a (b ∷ rest)) e = absurd (let z : ◌≡◌ {A = ℕ} 0 1 = cc in omega arith)
end-got (failed n) e = absurd (let z : ◌≡◌ {A = ℕ} 0 1 = cc in omega arith)

pub decode-encode : (items : List Item) → Valid items → decoded_list (encoded_list items) ≡ given items
unfolding decoded_list encoded_list option_limit
decode-encode items v =
    let limit : ℕ = option_limit + 1 in
    ap (λ (r : Read ℕ). to_the_end (and_then r read_options))
    (number-back limit (length items) (encoded_options items) (omega (arith, v.few)) (omega (arith, v.few)))
    ∙ ap (λ (l : List ℕ). to_the_end (read_options (length items) l)) (sym (append-nil (encoded_options items)))
    ∙ ap to_the_end (options-back items [] v.each)

pub encode-decode : (l : List ℕ) (items : List Item) → Octets l → decoded_list l ≡ given items → (encoded_list items ≡ l) × Valid items
unfolding decoded_list encoded_list
encode-decode l items h e =
    let n = then-got (read_number (option_limit + 1) l) read_options (end-got (and_then (read_number (option_limit + 1) l) read_options) e) in
    let q = number_read (option_limit + 1) l n.0 n.1 n.2 in
    let m = options-read n.0 n.1 items [] (number-bytes q h) n.3 in (
      ap₂ (λ (k : ℕ) (c : List ℕ). encoded k ++ c) m.counted (sym (append-nil (encoded_options items)) ∙ m.whole) ∙ number-whole q h,
      record { few = omega (arith, q.small, m.counted); each = m.each },
    )
