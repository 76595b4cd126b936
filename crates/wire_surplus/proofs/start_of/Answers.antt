-- `wire_surplus::start_of` meets its contract: the code's tests are the definition's, at either parity.
use mathlib.Core.Path.{◌≡◌, sym, ap, ◌∙◌}
use mathlib.Core.Bool.{Bool, true, false}
use native.Mathlib.Omega.{arith}
use lib.ListN.{length}
use Rattle.wire_surplus.specs.Surplus.{start_of, summed_of}
use Rattle.wire_surplus.proofs.Starts.{start-short, start-pad, start-odd, start-even}
use Rattle.wire_surplus.proofs.start_of.Goals as goal
use Rattle.wire_surplus.proofs.start_of.Goals.{Then-area-lt2, Then-area-lt3}

-- the area is not empty
some : (c : Then-area-lt3) → length c.args.area.now ≡ 0 → ⊥
some c e = omega (arith, c.requires)

-- the area is not empty
some-2 : (c : Then-area-lt2) → length c.args.area.now ≡ 0 → ⊥
some-2 c e = omega (arith, c.requires)

pub returns-then-area-lt3 : goal.returns-then-area-lt3
returns-then-area-lt3 c = let a = c.args in
    sym (ap (λ (o : Bool). start_of o a.unused a.area.now) c.if-odd.true
    ∙ start-short a.unused a.area.now true (some c) c.if-area-lt3.true)

pub returns-then-area-ne0 : goal.returns-then-area-ne0
returns-then-area-ne0 c = let a = c.args in
    sym (ap (λ (o : Bool). start_of o a.unused a.area.now) c.if-odd.true
    ∙ start-pad a.unused a.area.now c.if-area-lt3.false c.if-area-ne0.true)

pub returns-then-odd : goal.returns-then-odd
returns-then-odd c = let a = c.args in
    let odd = c.if-odd.true in
    c.summed.ensures ∙ ap (λ (o : Bool). summed_of o a.unused a.area.now) odd
    ∙ sym (ap (λ (o : Bool). start_of o a.unused a.area.now) odd
    ∙ start-odd a.unused a.area.now c.if-area-lt3.false c.if-area-ne0.false)

pub returns-then-area-lt2 : goal.returns-then-area-lt2
returns-then-area-lt2 c = let a = c.args in
    sym (ap (λ (o : Bool). start_of o a.unused a.area.now) c.if-odd.false
    ∙ start-short a.unused a.area.now false (some-2 c) c.if-area-lt2.true)

pub returns : goal.returns
returns c = let a = c.args in
    let even = c.if-odd.false in
    c.summed-2.ensures ∙ ap (λ (o : Bool). summed_of o a.unused a.area.now) even
    ∙ sym (ap (λ (o : Bool). start_of o a.unused a.area.now) even ∙ start-even a.unused a.area.now c.if-area-lt2.false)
