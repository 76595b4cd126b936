-- The options that a walk lists have an encoding, once each APC's value is left out: every option that was found fits its kind (`found-fits`), and the
-- walk takes no more than it has room for. So a listing is short. Assumes nothing.
use mathlib.Core.Path.{◌≡◌, refl, ap, ◌∙◌}
use mathlib.Core.Bool.{Bool, true, false, cond}
use mathlib.Core.List.{List, [], ◌∷◌, ◌++◌}
use Prim.Native.Nat.{ℕ, suc, ◌-◌, ◌*◌, ◌≤◌, ◌<◌}
use native.Mathlib.Omega.{arith}
use borrow.Author.Tests.{eq-eqb, ne_eqb, eqb-true}
use lib.Dec.{eqb}
use lib.ListN.{length, take, drop, length-append}
use Rattle.number_octets.specs.Octets.{Octets, number, part}
use Rattle.number_octets.proofs.Laws.{length_part, part_bytes}
use Rattle.number_varint.specs.SevenBit.{encoded}
use Rattle.number_varint.proofs.Laws.{encoded-short}
use Rattle.wire_step.specs.Kinds.{apc, frag}
use Rattle.wire_step.specs.Step.{step_of}
use Rattle.wire_step.specs.declared.Step.TheVariants.{Found}
use Rattle.wire_step.proofs.Steps.{step-found}
use Rattle.wire_options.specs.Walk.{Item, Located, Walked, listed, faulty, item_of, items_in, walk_from, option_limit, items_of}
use Rattle.wire_options.proofs.Rests.{walk-all}
use Rattle.list_entry.specs.Shape.{Shape, fields, raw, barred, shape_of}
use Rattle.list_entry.specs.Option.{encoded_fields, encoded_body, encoded_option, total, Shaped, ValidOption, item_of as option_of}
use Rattle.list_encoding.specs.Encoding.{encoded_options, Each, Valid}
use Rattle.list_encoding.specs.Wire.{crc_width, widths_of, fields_on_wire}
use Rattle.list_options.specs.Listing.{unworked, unworked_all}
use Rattle.list_encoding.proofs.Shapes.{shape-few}
use Rattle.list_options.proofs.Founds.{Fitting, found-fits}

-- ---- an option without APC's value

pub unworked-apc : (item : Item) → item.kind ≡ apc → unworked item ≡ option_of item.kind []
unfolding unworked
unworked-apc item e = rw (eq-eqb item.kind apc e)

pub unworked-other : (item : Item) → (item.kind ≡ apc → ⊥) → unworked item ≡ item
unfolding unworked
unworked-other item d = rw (ne_eqb item.kind apc d)

pub unworked-kind : (item : Item) → (unworked item).kind ≡ item.kind
unfolding unworked
unworked-kind item = go (eqb item.kind apc)
  where
    go : (t : Bool) → (cond t (option_of item.kind []) item).kind ≡ item.kind
    go true = refl
    go false = refl

-- ---- an option that was found is valid

module _ (l : List ℕ) (kind h s : ℕ) (e : step_of l ≡ Found kind h s) (d : kind ≡ frag → ⊥) (b : Octets l) where
  pub found-length : length (part h (s - h) l) ≡ s - h
  found-length = let f = (step-found l kind h s e).sized in length_part h (s - h) l (omega (arith, f.head, f.fits))

  pub found-valid : ValidOption (unworked (item_of kind h s l))
  unfolding unworked shape_of total fields_on_wire
  found-valid = go (eqb kind apc) refl
    where
      shaped : (shape : Shape) → shape_of kind ≡ shape → eqb kind apc ≡ false → Fitting kind shape (s - h) → Shaped shape (part h (s - h) l)
      shaped barred q f g = g
      shaped raw q f g = omega (arith, found-length)
      shaped (fields widths) q f g =
          found-length ∙ g ∙ ap (λ (t : Bool). cond t crc_width (total (widths_of (shape_of kind)))) f ∙ ap (λ (x : Shape). total (widths_of x)) q

      go : (t : Bool) → eqb kind apc ≡ t → ValidOption (cond t (option_of kind []) (item_of kind h s l))
      go true q = record { shaped = rw (eqb-true kind apc q) refl; bytes = λ i. omega arith }
      go false q = record { shaped = shaped (shape_of kind) refl q (found-fits l kind h s e d b); bytes = part_bytes h (s - h) l b }

-- ---- a walk's options are valid, and no more than there is room for

record Fine (room : ℕ) (items : List Item) : Type 0 where
  few : length items ≤ room
  each : Each (unworked_all items)

walk_fine : (l : List ℕ) (room skip : ℕ) (options : List Located) (fill : ℕ) → Octets l → walk_from room skip l ≡ listed options fill
    → Fine room (items_in options)
unfolding unworked_all
walk_fine l room skip options fill b q =
    walk-all (λ room skip l options fill. Octets l → Fine room (items_in options))
    (λ room skip b. record { few = omega arith; each = tt })
    (λ room fill l f b. record { few = omega arith; each = tt })
    (λ room skip x xs options fill ih b. ih (λ i. b (suc i)))
    (λ room l options fill some ih b. ih b)
    (λ room l options fill kind h s e d ih b.
    let m = ih b in
    record { few = omega (arith, m.few); each = (found-valid l kind h s e d b, m.each) })
    l room skip options fill q b

pub length-unworked : (items : List Item) → length (unworked_all items) ≡ length items
unfolding unworked_all
length-unworked [] = refl
length-unworked (item ∷ items) = ap suc (length-unworked items)

pub length-items : (options : List Located) → length (items_in options) ≡ length options
length-items [] = refl
length-items (option ∷ options) = ap suc (length-items options)

-- What a walk lists has an encoding.
pub walk-valid : (l : List ℕ) → Octets l → Valid (unworked_all (items_of (walk_from option_limit 0 l)))
unfolding unworked_all
walk-valid l b = go (walk_from option_limit 0 l) refl
  where
    go : (w : Walked) → walk_from option_limit 0 l ≡ w → Valid (unworked_all (items_of w))
    go (faulty f n) e = record { few = omega arith; each = tt }
    go (listed options fill) e =
        let f = walk_fine l option_limit 0 options fill b e in
        record { few = omega (arith, f.few, length-unworked (items_in options)); each = f.each }

-- ---- how long an encoding can be

fields-short : (widths body : List ℕ) → length (encoded_fields widths body) ≤ 10 * length widths
unfolding encoded_fields
fields-short [] body = omega arith
fields-short (width ∷ widths) body =
    simp length-append (omega (arith, encoded-short (number (take width body)), fields-short widths (drop width body)))

abbrev longest_option : ℕ
longest_option = 65551

option-short : (item : Item) → ValidOption item → length (encoded_option item) ≤ longest_option
unfolding encoded_option encoded_body
option-short item v = go (shape_of item.kind) (shape-few item.kind) v.shaped
  where
    go : (shape : Shape) → length (widths_of shape) ≤ 2 → Shaped shape item.body
        → length (encoded item.kind ++ encoded_body shape item.body) ≤ longest_option
    go (fields widths) f s = simp length-append (omega (arith, encoded-short item.kind, fields-short widths item.body))
    go raw f s = simp length-append (omega (arith, encoded-short item.kind, encoded-short (length item.body)))
    go barred f s = absurd s

options-short : (items : List Item) → Each items → length (encoded_options items) ≤ longest_option * length items
unfolding encoded_options
options-short [] v = omega arith
options-short (item ∷ items) v = simp length-append (omega (arith, option-short item v.0, options-short items v.1))

-- The encoded options of a walk are fewer bytes than 2 ^ 32.
pub walk-short : (l : List ℕ) → Octets l → length (encoded_options (unworked_all (items_of (walk_from option_limit 0 l)))) < 4294967296
unfolding option_limit
walk-short l b =
    let v = walk-valid l b in
    omega (arith, v.few, options-short (unworked_all (items_of (walk_from option_limit 0 l))) v.each)
