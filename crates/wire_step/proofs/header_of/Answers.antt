-- `wire_step::header_of` meets its contract: the code's tests are the definition's, and what is too short for its length byte is too short for the extended form.
use mathlib.Core.Path.{◌≡◌, refl, sym, ap, ◌∙◌}
use mathlib.Core.Bool.{Bool, true, false, cond}
use mathlib.Core.List.{List}
use Prim.Native.Nat.{ℕ, ◌≤◌, ◌<◌}
use native.Mathlib.Omega.{arith}
use borrow.Author.Tests.{le-leb, lt-leb, eq-eqb, ne_eqb, eqb-true}
use lib.Dec.{eqb, leb}
use lib.ListN.{length, get_or}
use Rattle.wire_step.specs.Step.{sound, within, extended, header_of}
use Rattle.wire_step.specs.declared.Header.{Header}
use Rattle.std.proofs.Common.{Option, None}
use Rattle.wire_step.proofs.Steps.{extended-short}
use Rattle.wire_step.proofs.header_of.Goals as goal

-- a list shorter than its length byte says
short-list : (l : List ℕ) → 2 ≤ length l → 2 ≤ get_or l 1 0 → length l < get_or l 1 0 → header_of l ≡ None
unfolding header_of
short-list l two least short = go (eqb (get_or l 1 0) 255) refl
  where
    rest : Option Header
    rest = cond (leb 2 (get_or l 1 0)) (within (length l) 2 (get_or l 1 0)) None

    go : (t : Bool) → eqb (get_or l 1 0) 255 ≡ t → cond (leb 2 (length l)) (cond t (extended l) rest) None ≡ None
    go true e = simp (le-leb 2 (length l) two, extended-short l (omega (arith, eqb-true (get_or l 1 0) 255 e)))
    go false e = simp (le-leb 2 (length l) two, le-leb 2 (get_or l 1 0) least, lt-leb (get_or l 1 0) (length l) short)

pub returns-then-rest-lt2 : goal.returns-then-rest-lt2
unfolding header_of
returns-then-rest-lt2 c = simp (lt-leb _ _ c.if-rest-lt2.true)

pub returns-then-short-lt2 : goal.returns-then-short-lt2
unfolding header_of
returns-then-short-lt2 c = let l = c.args.rest.now in
    let byte : ℕ = get_or l 1 0 in
    simp (le-leb 2 (length l) (omega arith), ne_eqb byte 255 (λ e. omega arith), lt-leb 2 byte (omega arith))

pub returns-then-rest-short : goal.returns-then-rest-short
returns-then-rest-short c = let l = c.args.rest.now in
    sym (short-list l (omega arith) (omega arith) (omega arith))

pub returns-then-short-eq255 : goal.returns-then-short-eq255
unfolding header_of
returns-then-short-eq255 c = let l = c.args.rest.now in
    c.extended.ensures ∙ sym (simp (le-leb 2 (length l) (omega arith), eq-eqb (get_or l 1 0) 255 (omega arith)))

pub returns : goal.returns
unfolding header_of
returns c = let l = c.args.rest.now in
    let byte : ℕ = get_or l 1 0 in
    ap (sound 2) c.from-short.ensures
    ∙ sym (simp (le-leb 2 (length l) (omega arith), ne_eqb byte 255 (λ e. c.if-short-eq255.false (c.from-short.ensures ∙ e)), le-leb 2 byte (omega arith), le-leb byte (length l) (omega arith)))
