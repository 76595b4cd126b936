-- What stands behind an option's kind in an encoded option list, from the option on the wire: its fields are its body in parts of their widths, and a
-- raw body is the body as it stands. Assumes nothing.
use mathlib.Core.Path.{◌≡◌, refl, sym, ap, ap₂, ◌∙◌}
use mathlib.Core.List.{List, [], ◌∷◌, ◌++◌, append-nil}
use Prim.Native.Nat.{ℕ, ◌+◌, ◌-◌, ◌≤◌, ◌<◌}
use native.Mathlib.Omega.{arith}
use lib.ListN.{length, take, drop, get_or, length-append}
use lib.Seq.{take-take, take_at, drop_at, take_all}
use Rattle.number_octets.specs.Octets.{Octets, number, part}
use Rattle.number_octets.proofs.Laws.{length_part, part-append, part-one}
use Rattle.number_varint.specs.SevenBit.{encoded}
use Rattle.number_varint.proofs.Laws.{encoded-short}
use Rattle.wire_step.specs.Kinds.{apc, frag}
use Rattle.wire_step.specs.Step.{step_of}
use Rattle.wire_step.specs.declared.Step.TheVariants.{Found}
use Rattle.wire_step.proofs.Steps.{step-found}
use Rattle.wire_options.specs.Walk.{Item, item_of}
use Rattle.list_entry.specs.Shape.{Shape, fields, raw, shape_of}
use Rattle.list_entry.specs.Option.{encoded_fields, encoded_body, encoded_option, longest_body}
use Rattle.list_options.specs.Listing.{unworked, content_code, Within, ContentOf}
use Rattle.list_options.specs.declared.Content.{Content}
use Rattle.list_options.specs.declared.Content.TheVariants.{Bare, One, Two, Raw}
use Rattle.list_entry.proofs.Shapes.{shape-cases}
use Rattle.list_options.proofs.Founds.{Fitting, found-fits}
use Rattle.list_options.proofs.Listings.{unworked-apc, unworked-other, unworked-kind, found-length}

-- a kind that is found and has no fields has a raw body
other-raw : (kind size : ℕ) → (kind ≡ 2 → ⊥) → (kind ≡ 4 → ⊥) → (kind ≡ 5 → ⊥) → (kind ≡ 6 → ⊥) → (kind ≡ 7 → ⊥) → (kind ≡ 8 → ⊥)
    → Fitting kind (shape_of kind) size → shape_of kind ≡ raw
other-raw kind size n2 n4 n5 n6 n7 n8 =
    shape-cases kind (λ shape. Fitting kind shape size → shape ≡ raw) (λ e f. absurd (n2 e)) (λ e f. absurd (n4 e)) (λ e f. absurd (n5 e))
    (λ e f. absurd (n6 e)) (λ e f. absurd (n7 e)) (λ e f. absurd (n8 e)) (λ g h f. refl) (λ f. absurd f)

pub byte-number : (l : List ℕ) (at : ℕ) → at < length l → get_or l at 0 ≡ number (part at 1 l)
unfolding number
byte-number l at h = omega arith ∙ ap number (sym (part-one at l h))

module _ (l : List ℕ) (kind h s : ℕ) (e : step_of l ≡ Found kind h s) (d : kind ≡ frag → ⊥) (b : Octets l) where
  abbrev item : Item
  item = item_of kind h s l

  other-body : (shape : Shape) → (kind ≡ apc → ⊥) → shape_of kind ≡ shape
      → encoded_body (shape_of kind) (unworked item).body ≡ encoded_body shape (part h (s - h) l)
  other-body shape n q = ap₂ (λ (x : Shape) (i : Item). encoded_body x i.body) q (unworked-other item n)

  pub content-bare : kind ≡ apc → ContentOf l item Bare
  unfolding encoded_body encoded_fields shape_of
  content-bare q =
      record {
        code = sym (ap₂ (λ (k : ℕ) (i : Item). encoded_body (shape_of k) i.body) q (unworked-apc item q));
        within = tt;
      }

  pub content-one : (width value : ℕ) → (kind ≡ apc → ⊥) → shape_of kind ≡ fields (width ∷ []) → width ≤ s - h → value ≡ number (part h width l)
      → ContentOf l item (One value)
  unfolding encoded_body encoded_fields
  content-one width value n q w v =
      record {
        code =
            sym (other-body (fields (width ∷ [])) n q ∙ append-nil (encoded (number (take width (part h (s - h) l))))
            ∙ ap (λ (x : List ℕ). encoded (number x)) (take-take width (s - h) (drop h l) w) ∙ ap encoded (sym v));
        within = tt;
      }

  pub content-two : (width second v w : ℕ) → (kind ≡ apc → ⊥) → shape_of kind ≡ fields (width ∷ second ∷ []) → s - h ≡ width + second
      → v ≡ number (part h width l) → w ≡ number (part (h + width) second l) → ContentOf l item (Two v w)
  unfolding encoded_body encoded_fields
  content-two width second v w n q size ev ew =
      let f = (step-found l kind h s e).sized in
      let first : List ℕ = part h width l in
      let then : List ℕ = part (h + width) second l in
      let long : length first ≡ width = length_part h width l (omega (arith, f.head, f.fits)) in
      let short : length then ≤ second = omega (arith, length_part (h + width) second l (omega (arith, f.head, f.fits))) in
      let split : part h (s - h) l ≡ first ++ then = ap (λ (k : ℕ). part h k l) size ∙ part-append h width second l in
      let left : take width (part h (s - h) l) ≡ first = ap (take width) split ∙ take_at first then width long in
      let right : take second (drop width (part h (s - h) l)) ≡ then =
      ap (λ (x : List ℕ). take second (drop width x)) split ∙ ap (take second) (drop_at first then width long) ∙ take_all second then short in
      record {
        code =
            sym (other-body (fields (width ∷ second ∷ [])) n q
            ∙ ap₂ (λ (x y : List ℕ). encoded (number x) ++ (encoded (number y) ++ [])) left right
            ∙ ap (λ (x : List ℕ). encoded (number first) ++ x) (append-nil (encoded (number then)))
            ∙ ap₂ (λ (x y : ℕ). encoded x ++ encoded y) (sym ev) (sym ew));
        within = tt;
      }

  pub content-raw : (kind ≡ 2 → ⊥) → (kind ≡ 4 → ⊥) → (kind ≡ 5 → ⊥) → (kind ≡ 6 → ⊥) → (kind ≡ 7 → ⊥) → (kind ≡ 8 → ⊥)
      → ContentOf l item (Raw h (s - h))
  unfolding encoded_body
  content-raw n2 n4 n5 n6 n7 n8 =
      let fits = found-fits l kind h s e d b in
      let q : shape_of kind ≡ raw = other-raw kind (s - h) n2 n4 n5 n6 n7 n8 fits in
      let small : s - h ≤ longest_body = rw q at fits in
      let f = (step-found l kind h s e).sized in
      record {
        code = sym (other-body raw n2 q ∙ ap (λ (k : ℕ). encoded k ++ part h (s - h) l) (found-length l kind h s e d b));
        within = (omega (arith, f.head, f.fits), small);
      }

-- ---- the option that a content makes

pub content-short : (l : List ℕ) (content : Content) → Within l content → length (content_code l content) ≤ 65541
content-short l Bare w = omega arith
content-short l (One first) w = omega (arith, encoded-short first)
content-short l (Two first second) w = simp length-append (omega (arith, encoded-short first, encoded-short second))
content-short l (Raw start size) w = simp length-append (omega (arith, encoded-short size, length_part start size l w.0))

pub option-code : (l : List ℕ) (item : Item) (content : Content) → ContentOf l item content
    → encoded_option (unworked item) ≡ encoded item.kind ++ content_code l content
unfolding encoded_option
option-code l item content c =
    ap (λ (k : ℕ). encoded k ++ encoded_body (shape_of k) (unworked item).body) (unworked-kind item)
    ∙ ap (λ (x : List ℕ). encoded item.kind ++ x) (sym c.code)
