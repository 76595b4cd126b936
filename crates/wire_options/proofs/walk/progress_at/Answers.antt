-- `wire_options::walk::progress_at` meets its contract: the arm of the match is the step at the front, at which `progress_in` computes.
use mathlib.Core.Path.{◌≡◌, refl, sym, ap, ◌∙◌}
use mathlib.Core.List.{List}
use Prim.Native.Nat.{ℕ, zero, suc, ◌-◌, ◌≤◌}
use native.Mathlib.Omega.{arith}
use borrow.Author.Tests.{eq-eqb, ne_eqb}
use lib.ListN.{length}
use Rattle.number_octets.specs.Octets.{number, part}
use Rattle.wire_nops.specs.declared.Strictness.{Strictness}
use Rattle.wire_step.specs.Kinds.{apc}
use Rattle.wire_step.specs.Step.{step_of}
use Rattle.wire_step.specs.declared.Step.{Step}
use Rattle.wire_step.specs.declared.Step.TheVariants.{Found}
use Rattle.wire_step.proofs.Steps.{apc-found}
use Rattle.wire_options.specs.Progress.{failed, room_progress, progress_in, progress_of}
use Rattle.wire_options.specs.Walk.{Item, item_of}
use Rattle.wire_options.specs.declared.walk.Fault.TheVariants.{Crowded}
use Rattle.wire_options.specs.declared.walk.Progress.TheVariants.{On, Apc}
use Rattle.std.proofs.Common.{Ok}
use Rattle.wire_options.proofs.walk.progress_at.Goals as goal

turn_is : (s : Strictness) (room : ℕ) (l : List ℕ) (step : Step) → step_of l ≡ step → progress_of s room l ≡ progress_in s room l step
unfolding progress_of
turn_is s room l step e = ap (progress_in s room l) e

an-apc : (l : List ℕ) (kind header size : ℕ) → step_of l ≡ Found kind header size → kind ≡ apc → (header ≡ 2) × (size ≡ 6) × (6 ≤ length l)
an-apc l kind header size f e = apc-found l header size (f ∙ ap (λ (k : ℕ). Found k header size) e)

no_room : (room size : ℕ) (item : Item) → room ≡ 0 → room_progress room size item ≡ failed Crowded 0
no_room room size item e = ap (λ (r : ℕ). room_progress r size item) e

-- an APC, and another option
apc-room : (room size : ℕ) (item : Item) → (room ≡ 0 → ⊥) → item.kind ≡ apc → room_progress room size item ≡ Ok (Apc (room - 1) size (number item.body))
apc-room zero size item e k = absurd (e refl)
apc-room (suc room) size item e k = simp (eq-eqb item.kind apc k) (ap (λ (r : ℕ). Ok (Apc r size (number item.body))) (omega arith))

other-room : (room size : ℕ) (item : Item) → (room ≡ 0 → ⊥) → (item.kind ≡ apc → ⊥) → room_progress room size item ≡ Ok (On (room - 1) size)
other-room zero size item e k = absurd (e refl)
other-room (suc room) size item e k = simp (ne_eqb item.kind apc k) (ap (λ (r : ℕ). Ok (On r size)) (omega arith))

pub returns-then-kind-eq-FRAG : goal.returns-then-kind-eq-FRAG
returns-then-kind-eq-FRAG c = let a = c.args in sym
    (turn_is a.strictness a.room a.rest.now _ (sym c.next-step.ensures ∙ c.in-Found.is) ∙ simp (eq-eqb _ _ c.if-kind-eq-FRAG.true))

pub returns-then-room-eq0 : goal.returns-then-room-eq0
returns-then-room-eq0 c = let a = c.args in sym
    (turn_is a.strictness a.room a.rest.now _ (sym c.next-step.ensures ∙ c.in-Found.is) ∙ simp (ne_eqb _ _ c.if-kind-eq-FRAG.false) (no_room _ _ _ c.if-room-eq0.true))

pub get_u32-value-requires : goal.get_u32-value-requires
get_u32-value-requires c = let f = an-apc c.args.rest.now c.in-Found.kind c.in-Found.header c.in-Found.size (sym c.next-step.ensures ∙ c.in-Found.is) c.if-kind-eq-APC.true in omega arith

pub returns-then-kind-eq-APC : goal.returns-then-kind-eq-APC
returns-then-kind-eq-APC c = let a = c.args in
    let f = an-apc c.args.rest.now c.in-Found.kind c.in-Found.header c.in-Found.size (sym c.next-step.ensures ∙ c.in-Found.is) c.if-kind-eq-APC.true in
    let four : c.in-Found.size - c.in-Found.header ≡ 4 = omega arith in
    let item : Item = item_of c.in-Found.kind c.in-Found.header c.in-Found.size a.rest.now in
    let value : number item.body ≡ c.get_u32-value.result =
    ap (λ (n : ℕ). number (part c.in-Found.header n a.rest.now)) four ∙ sym c.get_u32-value.ensures in
    ap (λ (n : ℕ). Ok (Apc (a.room - 1) c.in-Found.size n)) (sym value)
    ∙ sym (turn_is a.strictness a.room a.rest.now _ (sym c.next-step.ensures ∙ c.in-Found.is)
    ∙ simp (ne_eqb _ _ c.if-kind-eq-FRAG.false)
    (apc-room a.room c.in-Found.size item c.if-room-eq0.false c.if-kind-eq-APC.true))

pub returns-in-End : goal.returns-in-End
returns-in-End c = let a = c.args in sym
    (turn_is a.strictness a.room a.rest.now _ (sym c.next-step.ensures ∙ c.in-End.is))

pub returns-in-Eol : goal.returns-in-Eol
returns-in-Eol c = let a = c.args in c.end_at.ensures
    ∙ sym (turn_is a.strictness a.room a.rest.now _ (sym c.next-step.ensures ∙ c.in-Eol.is))

pub returns-in-Nop : goal.returns-in-Nop
returns-in-Nop c = let a = c.args in c.nops_at.ensures
    ∙ sym (turn_is a.strictness a.room a.rest.now _ (sym c.next-step.ensures ∙ c.in-Nop.is))

pub returns-else-kind-eq-APC : goal.returns-else-kind-eq-APC
returns-else-kind-eq-APC c = let a = c.args in
    let item : Item = item_of c.in-Found.kind c.in-Found.header c.in-Found.size a.rest.now in
    sym (turn_is a.strictness a.room a.rest.now _ (sym c.next-step.ensures ∙ c.in-Found.is)
    ∙ simp (ne_eqb _ _ c.if-kind-eq-FRAG.false)
    (other-room a.room c.in-Found.size item c.if-room-eq0.false c.if-kind-eq-APC.false))

pub returns-in-Malformed : goal.returns-in-Malformed
returns-in-Malformed c = let a = c.args in sym
    (turn_is a.strictness a.room a.rest.now _ (sym c.next-step.ensures ∙ c.in-Malformed.is))

pub returns-in-Outlawed : goal.returns-in-Outlawed
returns-in-Outlawed c = let a = c.args in sym
    (turn_is a.strictness a.room a.rest.now _ (sym c.next-step.ensures ∙ c.in-Outlawed.is))
