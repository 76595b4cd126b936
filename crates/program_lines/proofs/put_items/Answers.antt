-- `program_lines::put_items` meets its contract. The loop's invariant: what is put, with the lines of the rest, are the lines of the list (`Saying`).
use Rattle.std.proofs.Common.{Option, Some}
use mathlib.Core.Path.{◌≡◌, sym, ap, ◌∙◌}
use mathlib.Core.List.{List}
use Prim.Native.Nat.{ℕ, ◌+◌, ◌-◌, ◌≤◌}
use native.Mathlib.Omega.{arith}
use lib.ListN.{length, drop}
use lib.Seq.{drop-drop}
use Rattle.number_octets.specs.Octets.{part}
use Rattle.number_octets.proofs.Laws.{part-rest}
use Rattle.wire_step.specs.Step.{step_of}
use Rattle.wire_step.specs.declared.Step.TheVariants.{Found as OptionStep}
use Rattle.wire_options.specs.Walk.{Located, item_of}
use Rattle.wire_options.proofs.Rests.{Rest}
use Rattle.wire_offsets.specs.Next.{next_of}
use Rattle.wire_offsets.specs.declared.Found.{Found}
use Rattle.wire_offsets.proofs.Nexts.{next-step}
use Rattle.wire_offsets.proofs.Turns.{Turned, TurnBy, turn_by}
use Rattle.program_lines.specs.Lines.{option_line}
use Rattle.program_text.proofs.Puts.{put_as, put-length, put-room}
use Rattle.program_lines.proofs.Items.{saying-first, saying-last, saying-found}
use Rattle.program_lines.proofs.put_items.Goals as goal

-- what the option that comes next, over the rest of the list, leaves to come
to-come : {list : List ℕ} {from : ℕ} {options : List Located} {met next : Option Found} → Rest list from options → from ≤ length list
    → met ≡ next_of (part from (length list - from) list) → met ≡ next → TurnBy list from options next
to-come {list} {from} r h e q = turn_by r h (sym (e ∙ ap next_of (part-rest from list)) ∙ q)

-- an option that was found
module _ (list : List ℕ) (from : ℕ) {options : List Located} {met : Option Found} {found : Found} (r : Rest list from options) (h : from ≤ length list)
    (e : met ≡ next_of (part from (length list - from) list)) (q : met ≡ Some found) where
  turned : Turned list from options found.at found.kind found.header found.size
  turned = to-come r h e q

  stands : step_of (drop (from + found.at) list) ≡ OptionStep found.kind found.header found.size
  stands =
      ap step_of (sym (drop-drop found.at from list))
      ∙ next-step (drop from list) found.at found.kind found.header found.size (sym (e ∙ ap next_of (part-rest from list)) ∙ q)

pub loop-found-init : goal.loop-found-init
loop-found-init c = saying-first c.args.base.0 c.args.list.now c.args.text.now c.args.at c.requires.1

pub overflow_add-from : goal.overflow_add-from
overflow_add-from c = omega (arith, (turned c.args.list.now c.loop-found.from c.loop-found.invariant.rest c.loop-found.invariant.within c.next_option.ensures c.in-Some.is).got.fits)

pub overflow_add-offset : goal.overflow_add-offset
overflow_add-offset c = omega (arith, (turned c.args.list.now c.loop-found.from c.loop-found.invariant.rest c.loop-found.invariant.within c.next_option.ensures c.in-Some.is).got.fits, c.requires.2)

pub slice_bounds-put_item-count : goal.slice_bounds-put_item-count
slice_bounds-put_item-count c = omega (arith, (turned c.args.list.now c.loop-found.from c.loop-found.invariant.rest c.loop-found.invariant.within c.next_option.ensures c.in-Some.is).got.fits)

pub slice_bounds-put_item-start : goal.slice_bounds-put_item-start
slice_bounds-put_item-start c = omega (arith, (turned c.args.list.now c.loop-found.from c.loop-found.invariant.rest c.loop-found.invariant.within c.next_option.ensures c.in-Some.is).got.fits)

pub put_item-end-requires : goal.put_item-end-requires
put_item-end-requires c =
    let there : ℕ = c.loop-found.from + c.in-Some.found.at in
    (put-room c.requires.0 c.loop-found.invariant.put, ap step_of (part-rest there c.args.list.now) ∙ stands c.args.list.now c.loop-found.from c.loop-found.invariant.rest c.loop-found.invariant.within c.next_option.ensures c.in-Some.is)

pub overflow_add-from-in-Some : goal.overflow_add-from-in-Some
overflow_add-from-in-Some c = omega (arith, (turned c.args.list.now c.loop-found.from c.loop-found.invariant.rest c.loop-found.invariant.within c.next_option.ensures c.in-Some.is).got.fits)

pub loop-found-smaller : goal.loop-found-smaller
loop-found-smaller c = let t = (turned c.args.list.now c.loop-found.from c.loop-found.invariant.rest c.loop-found.invariant.within c.next_option.ensures c.in-Some.is).got in omega (arith, t.some, t.fits)

pub loop-found-preserved : goal.loop-found-preserved
loop-found-preserved c =
    let there : ℕ = c.loop-found.from + c.in-Some.found.at in
    let f = c.in-Some.found in
    saying-found c.loop-found.invariant c.requires.0 (turned c.args.list.now c.loop-found.from c.loop-found.invariant.rest c.loop-found.invariant.within c.next_option.ensures c.in-Some.is)
    (put_as
    (ap (λ (l : List ℕ). option_line (record { 0 = c.args.base.0 + there }) (item_of f.kind f.header f.size l)) (part-rest there c.args.list.now))
    c.put_item-end.ensures)

pub shape_of-text : goal.shape_of-text
shape_of-text c = put-length c.requires.0 c.loop-found.invariant.put

pub returns : goal.returns
returns c = let i = c.loop-found.invariant in saying-last i (to-come i.rest i.within c.next_option.ensures c.in_default.is)
