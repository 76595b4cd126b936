-- `wire_area::led` meets its contract: a FRAG that was found is whole, and lies in the list.
use mathlib.Core.Path.{◌≡◌, sym, ap, ◌∙◌}
use mathlib.Core.List.{List}
use Prim.Native.Nat.{ℕ, ◌≤◌}
use native.Mathlib.Nat.{add-zero}
use native.Mathlib.Omega.{arith}
use lib.ListN.{length, drop, get_or, length-drop}
use lib.Seq.{get_or-drop}
use Rattle.number_octets.proofs.Laws.{part-rest}
use Rattle.wire_step.specs.Kinds.{frag}
use Rattle.wire_step.specs.Step.{step_of}
use Rattle.wire_step.specs.declared.Step.TheVariants.{Found}
use Rattle.wire_area.proofs.Areas.{frag-found}
use borrow.Author.Rules.{rules}
use Rattle.wire_area.proofs.led.Goals as goal

-- the FRAG behind `nops` bytes is whole
whole : (l : List ℕ) (nops kind header size : ℕ) → step_of (drop nops l) ≡ Found kind header size → get_or l nops 0 ≡ frag
    → (10 ≤ length (drop nops l)) × (size ≤ length (drop nops l))
whole l nops kind header size f k =
    frag-found (drop nops l) kind header size f (get_or-drop nops l 0 0 ∙ ap (λ (n : ℕ). get_or l n 0) (add-zero nops) ∙ k)

pub fields_of-fields-requires : goal.fields_of-fields-requires
fields_of-fields-requires c = let a = c.args in
    let same = part-rest a.nops a.list.now in
    let w = whole a.list.now a.nops _ _ _ (sym (ap step_of same) ∙ sym c.next.ensures ∙ c.in-Found.is) c.requires.1 in
    rw same w

pub overflow_add-nops : goal.overflow_add-nops
overflow_add-nops c = let a = c.args in
    let w = whole a.list.now a.nops _ _ _ (sym (ap step_of (part-rest a.nops a.list.now)) ∙ sym c.next.ensures ∙ c.in-Found.is) c.requires.1 in
    omega (arith, simp length-drop at w.1)

pub behind_frag-requires : goal.behind_frag-requires
behind_frag-requires c = let a = c.args in
    let w = whole a.list.now a.nops _ _ _ (sym (ap step_of (part-rest a.nops a.list.now)) ∙ sym c.next.ensures ∙ c.in-Found.is) c.requires.1 in
    (omega arith, omega (arith, simp length-drop at w.1), c.fields_of-fields.ensures.1, search rules)
