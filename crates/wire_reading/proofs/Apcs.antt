-- What a list's APCs say of the user data, by what the walk tells of them.
-- Assumes nothing.
use mathlib.Core.Path.{◌≡◌, refl, sym, ap, ◌∙◌}
use mathlib.Core.Bool.{Bool, true, false, cond, ◌&&◌, and-true, and-false}
use mathlib.Core.List.{List, [], ◌∷◌}
use Prim.Native.Nat.{ℕ}
use borrow.Author.Tests.{eq-eqb, eqb-true, eqb-false}
use lib.Dec.{eqb}
use Rattle.number_octets.specs.Octets.{number}
use Rattle.number_crc32c.specs.Crc.{crc_of}
use Rattle.wire_step.specs.Kinds.{apc}
use Rattle.wire_options.specs.Walk.{Item, joined, apcs_of}
use Rattle.wire_options.specs.declared.walk.Apcs.{Apcs}
use Rattle.wire_options.specs.declared.walk.Apcs.TheVariants.{Absent as absent, Same, Different}
use Rattle.wire_reading.specs.Reading.{apc_values, all_are, apc_of}
use Rattle.wire_reading.specs.ByWalk.{apc_by}
use Rattle.wire_reading.specs.declared.Apc.TheVariants.{Right, Wrong}

-- values joined, as the walk joins them
joined_values : List ℕ → Apcs
joined_values [] = absent
joined_values (v ∷ vs) = joined (Same v) (joined_values vs)

values-joined : (items : List Item) → apcs_of items ≡ joined_values (apc_values items)
unfolding apcs_of apc_values joined_values
values-joined [] = refl
values-joined (item ∷ items) = go (eqb item.kind apc) (values-joined items)
  where
    go : (t : Bool) → apcs_of items ≡ joined_values (apc_values items) → joined (cond t (Same (number item.body)) absent) (apcs_of items)
        ≡ joined_values (cond t (number item.body ∷ apc_values items) (apc_values items))
    go true e = ap (joined (Same (number item.body))) e
    go false e = e

-- all values are n exactly if joined they are n
abbrev are_all : ℕ → Apcs → Bool
are_all n absent = true
are_all n (Same v) = eqb v n
are_all n Different = false

same-both : (t : Bool) (v w n : ℕ) → eqb v w ≡ t → are_all n (cond t (Same v) Different) ≡ (eqb v n && eqb w n)
same-both true v w n e = go (eqb v n) refl
  where
    same : v ≡ w
    same = eqb-true v w e

    go : (s : Bool) → eqb v n ≡ s → s ≡ (s && eqb w n)
    go true p = sym (eq-eqb w n (sym same ∙ eqb-true v n p))
    go false p = refl
same-both false v w n e = go (eqb v n) (eqb w n) refl refl
  where
    go : (s t : Bool) → eqb v n ≡ s → eqb w n ≡ t → false ≡ (s && t)
    go false t p q = refl
    go true false p q = refl
    go true true p q = absurd (eqb-false v w e (eqb-true v n p ∙ sym (eqb-true w n q)))

join-all : (v : ℕ) (b : Apcs) (n : ℕ) → are_all n (joined (Same v) b) ≡ (eqb v n && are_all n b)
join-all v absent n = sym (and-true (eqb v n))
join-all v (Same w) n = same-both (eqb v w) v w n refl
join-all v Different n = sym (and-false (eqb v n))

all-joined : (n : ℕ) (vs : List ℕ) → all_are n vs ≡ are_all n (joined_values vs)
unfolding all_are joined_values
all-joined n [] = refl
all-joined n (v ∷ vs) = ap (λ (t : Bool). eqb v n && t) (all-joined n vs) ∙ sym (join-all v (joined_values vs) n)

-- values that are there do not join to none
by_values : (user : List ℕ) (v : ℕ) (b : Apcs) → apc_by user (joined (Same v) b) ≡ cond (are_all (crc_of user) (joined (Same v) b)) Right Wrong
by_values user v absent = refl
by_values user v Different = refl
by_values user v (Same w) = go (eqb v w)
  where
    go : (t : Bool) → apc_by user (cond t (Same v) Different) ≡ cond (are_all (crc_of user) (cond t (Same v) Different)) Right Wrong
    go true = refl
    go false = refl

pub apc-by-answer : (user : List ℕ) (items : List Item) → apc_by user (apcs_of items) ≡ apc_of user (apc_values items)
unfolding joined_values
apc-by-answer user items = ap (apc_by user) (values-joined items) ∙ go (apc_values items)
  where
    go : (vs : List ℕ) → apc_by user (joined_values vs) ≡ apc_of user vs
    go [] = refl
    go (v ∷ vs) = by_values user v (joined_values vs) ∙ ap (λ (t : Bool). cond t Right Wrong) (sym (all-joined (crc_of user) (v ∷ vs)))
