-- `wire_step::next` meets its contract: the arm of the match knows the class of the first byte, at which `step_of` computes.
use mathlib.Core.Path.{◌≡◌, refl, sym, ap, ◌∙◌}
use mathlib.Core.List.{List, [], ◌∷◌}
use Prim.Native.Nat.{ℕ, ◌<◌}
use native.Mathlib.Omega.{arith}
use lib.ListN.{length, get_or}
use Rattle.wire_step.specs.Kinds.{class_of}
use Rattle.wire_step.specs.Step.{step_in, step_of}
use Rattle.wire_step.specs.Sizes.{sized_step}
use Rattle.wire_step.specs.declared.Class.{Class}
use Rattle.wire_step.proofs.Classes.{class-unsafe}
use Rattle.wire_step.proofs.Steps.{step-sized}
use Rattle.wire_step.proofs.next.Goals as goal

empty : (l : List ℕ) → length l ≡ 0 → l ≡ []
empty [] e = refl
empty (x ∷ l) e = absurd (omega arith)

-- a list that is not empty is stepped over by the class of its first byte
step-class : (l : List ℕ) (class : Class) → 0 < length l → class_of (get_or l 0 0) ≡ class → step_of l ≡ step_in class l
unfolding step_of
step-class [] class h e = absurd (omega arith)
step-class (k ∷ l) class h e = ap (λ (x : Class). step_in x (k ∷ l)) e

pub returns-then-rest-eq0 : goal.returns-then-rest-eq0
unfolding step_of
returns-then-rest-eq0 c = ap step_of (sym (empty c.args.rest.now c.if-rest-eq0.true))

pub returns-in-0 : goal.returns-in-0
unfolding class_of
returns-in-0 c = let l = c.args.rest.now in
    sym (step-class l _ (omega arith) (ap class_of c.in-0.is))

pub returns-in-1 : goal.returns-in-1
unfolding class_of
returns-in-1 c = let l = c.args.rest.now in
    sym (step-class l _ (omega arith) (ap class_of c.in-1.is))

pub returns-in-2-to-191 : goal.returns-in-2-to-191
returns-in-2-to-191 c = let l = c.args.rest.now in
    let k : ℕ = get_or l 0 0 in
    c.sized_step.ensures ∙ ap (sized_step (class_of k) k) c.header_of.ensures
    ∙ sym (step-class l _ (omega arith) refl ∙ step-sized l k (omega arith) (omega arith))

pub returns-in-192-to-255 : goal.returns-in-192-to-255
returns-in-192-to-255 c = let l = c.args.rest.now in
    sym (step-class l _ (omega arith) (class-unsafe (get_or l 0 0) (omega arith)))
