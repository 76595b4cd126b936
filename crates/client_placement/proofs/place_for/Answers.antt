-- `client_placement::place_for` meets its contract: an assembly has the key exactly where the search for it finds a place (`found-at`).
use Prim.Native.Nat.{ℕ}
use mathlib.Core.Bool.{Bool, true, false, not, cond}
use mathlib.Core.List.{List}
use mathlib.Core.Path.{◌≡◌, refl, sym, ap, ap₂, ◌∙◌}
use native.Mathlib.Omega.{arith}
use lib.Dec.{ltb}
use lib.ListN.{length}
use borrow.Author.Tests.{ltb-false}
use Rattle.std.specs.List.{position}
use Rattle.std.specs.Option.{unwrap_or, option_or}
use Rattle.std.specs.Prelude.{Option, Some, None}
use Rattle.std.proofs.lemmas.List.Recursion.{is_position_or_len}
use Rattle.client_record.proofs.Shapes.{places}
use Rattle.client_record.specs.Limits.{assembly_limit}
use Rattle.client_record.specs.Lists.{any}
use Rattle.client_record.specs.Record.{live}
use Rattle.client_record.specs.declared.Assembly.{Assembly}
use Rattle.client_reassembly.proofs.Places.{any-first, first-le}
use Rattle.client_reassembly.specs.Offer.{matches, first_index, place_for}
use Rattle.client_placement.proofs.place_for.Goals as goal

-- the first index is where a search ends
found-at : {A : Type 0} (p : A → Bool) (xs : List A) → position p xs ≡ cond (any p xs) (Some (first_index p xs)) None
unfolding first_index
found-at p xs =
    ap (λ (n : ℕ). cond (ltb n (length xs)) (Some n) None) (sym (is_position_or_len (first_index p) p refl (λ x ys. ap (cond (p x) 0) (omega arith)) xs))
    ∙ ap (λ (b : Bool). cond b (Some (first_index p xs)) None) (sym (any-first p xs))

-- the first of two places that there is
either-place : (a b : Bool) (i j n : ℕ) → (b ≡ false → n ≡ j)
    → unwrap_or (option_or (cond a (Some i) None) (cond b (Some j) None)) n ≡ cond a i j
either-place true b i j n h = refl
either-place false true i j n h = refl
either-place false false i j n h = h refl

pub returns : goal.returns
unfolding place_for assembly_limit
returns c = let xs = c.args.c.assemblies in
    let o = c.args.o in
    let len : length xs ≡ assembly_limit = places c.args.c _ c.well_formed.0 in
    let free = λ (a : Assembly). not (live a) in
    c.unwrap_or.ensures
    ∙ ap (λ (r : Option ℕ). unwrap_or r assembly_limit)
    (c.or.ensures ∙ ap₂ option_or (c.find.ensures ∙ found-at (matches o) xs) (c.lowest_free.ensures ∙ found-at free xs))
    ∙ either-place (any (matches o) xs) (any free xs) (first_index (matches o) xs) (first_index free xs) assembly_limit
    (λ e. omega (arith, len, first-le free xs, ltb-false (first_index free xs) (length xs) (sym (any-first free xs) ∙ e)))
