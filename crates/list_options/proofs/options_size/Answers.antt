-- `list_options::options_size` meets its contract. The loop's invariant: what was counted and the options still to come make up the whole
-- (`Counted`). Assumes nothing.
use mathlib.Core.Path.{◌≡◌, sym, ap, ◌∙◌}
use mathlib.Core.List.{List, []}
use Prim.Native.Nat.{ℕ, ◌+◌, ◌-◌}
use native.Mathlib.Omega.{arith}
use lib.ListN.{length, drop, length-append}
use Rattle.number_octets.specs.Octets.{part}
use Rattle.number_octets.proofs.Laws.{part-rest, part_bytes}
use Rattle.wire_step.specs.Step.{step_of}
use Rattle.wire_options.specs.Walk.{Located, item_of, walk_from, option_limit, options_of}
use Rattle.wire_options.proofs.Runs.{run-some}
use Rattle.wire_options.proofs.Rests.{Taken, rest_over, rest-nops}
use Rattle.list_entry.specs.Option.{encoded_option}
use Rattle.list_options.specs.Listing.{unworked}
use Rattle.list_options.proofs.Listings.{walk-short}
use Rattle.list_options.proofs.Rests.{whole, code, code-none, code-first, rest-sound, taken, none-left}
use Rattle.list_options.proofs.options_size.Goals as goal
use Rattle.list_options.proofs.options_size.Invariants.{Counted}

-- nothing more to count
ended : {all : List ℕ} {at total : ℕ} (i : Counted all at total) → [] ≡ i.options → total ≡ length (whole all)
ended i e = omega (arith, i.sum, ap length (code-none e))

-- the sum so far and one option more
counted : {all : List ℕ} {at total kind header size n : ℕ} (i : Counted all at total) (t : Taken all at i.options kind header size)
    → n ≡ length (encoded_option (unworked (item_of kind header size (part at (length all - at) all))))
    → total + n + length (code t.later) ≡ length (whole all)
counted {all} {at} {total} {kind} {header} {size} {n} i t e =
    let one : List ℕ = encoded_option (unworked (item_of kind header size (drop at all))) in
    let this : n ≡ length one =
    e ∙ ap (λ (r : List ℕ). length (encoded_option (unworked (item_of kind header size r)))) (part-rest at all) in
    omega (arith, this, i.sum, ap length (code-first t.splits), length-append one (code t.later))

pub loop-at-init : goal.loop-at-init
loop-at-init c = let options : List Located = options_of (walk_from option_limit 0 c.args.options.now) in
    (omega arith, record { options = options; rest = rest-sound c.args.options.now c.requires; sum = omega arith })

pub loop-at-smaller-in-Nop : goal.loop-at-smaller-in-Nop
loop-at-smaller-in-Nop c =
    let at = c.loop-at.at in
    let all : List ℕ = c.args.options.now in
    omega (arith, c.behind_nops-at.ensures, run-some (drop at all) (sym (c.next-met.ensures ∙ ap step_of (part-rest at all)) ∙ c.in-Nop.is))

pub loop-at-preserved-in-Nop : goal.loop-at-preserved-in-Nop
loop-at-preserved-in-Nop c = let i = c.loop-at.invariant.1 in (
  c.behind_nops-at.ensures.1,
  record { options = i.options; rest = rw c.behind_nops-at.ensures.0 (rest-nops i.rest); sum = i.sum },
)

pub invariant_of-option : goal.invariant_of-option
invariant_of-option c = record {
  stands = sym c.next-met.ensures ∙ c.in-Found.is;
  listed = (taken c.loop-at.invariant.1.rest c.loop-at-test.true c.next-met.ensures c.in-Found.is).other;
  bytes = part_bytes c.loop-at.at _ c.args.options.now (λ i. omega (arith, c.type_inv.options i));
}

pub overflow_add-total : goal.overflow_add-total
overflow_add-total c =
    let t = taken c.loop-at.invariant.1.rest c.loop-at-test.true c.next-met.ensures c.in-Found.is in
    omega (arith, counted c.loop-at.invariant.1 t c.encoded_size-total.ensures, walk-short c.args.options.now (λ i. omega (arith, c.type_inv.options i)))

pub overflow_add-at : goal.overflow_add-at
overflow_add-at c = let t = taken c.loop-at.invariant.1.rest c.loop-at-test.true c.next-met.ensures c.in-Found.is in omega (arith, t.some, t.fits)

pub loop-at-smaller : goal.loop-at-smaller
loop-at-smaller c = let t = taken c.loop-at.invariant.1.rest c.loop-at-test.true c.next-met.ensures c.in-Found.is in omega (arith, t.some, t.fits)

pub loop-at-preserved : goal.loop-at-preserved
loop-at-preserved c =
    let t = taken c.loop-at.invariant.1.rest c.loop-at-test.true c.next-met.ensures c.in-Found.is in
    (t.fits, record { options = t.later; rest = t.rest; sum = counted c.loop-at.invariant.1 t c.encoded_size-total.ensures })

pub returns-in_default : goal.returns-in_default
returns-in_default c = let i = c.loop-at.invariant.1 in
    ended i (none-left i.rest c.loop-at-test.true _ c.next-met.ensures c.in_default.not-Nop c.in_default.not-Found)

pub returns : goal.returns
returns c = let i = c.loop-at.invariant.1 in ended i (rest_over i.rest c.loop-at-test.false)
