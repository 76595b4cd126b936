-- `client_record_test::live_tested` meets its contract: the tests are the definition's, in its order.
use mathlib.Core.Bool.{and-true, and-false}
use mathlib.Core.Path.{sym, ◌∙◌}
use native.Mathlib.Omega.{arith}
use lib.ListN.{length-take}
use borrow.Author.Tests.{lt-leb, le-leb}
use Rattle.client_record.specs.Limits.{fragment_limit}
use Rattle.client_record.specs.Record.{held_fragments}
use Rattle.client_record.proofs.Shapes.{slots}
use Rattle.client_record_test.specs.Parts.{sound_fields}
use Rattle.client_record_test.proofs.live_tested.Goals as goal

pub returns-then-count-gt-FRAGMENT_LIMIT : goal.returns-then-count-gt-FRAGMENT_LIMIT
unfolding sound_fields fragment_limit
returns-then-count-gt-FRAGMENT_LIMIT c = simp (lt-leb _ _ c.if-count-gt-FRAGMENT_LIMIT.true)

pub returns-then-not-opened_within : goal.returns-then-not-opened_within
unfolding sound_fields
returns-then-not-opened_within c = let e = sym c.opened_within.ensures ∙ c.if-not-opened_within.true in
    simp (e, and-false)

pub held_tested-requires : goal.held_tested-requires
unfolding held_fragments fragment_limit
held_tested-requires c = let a = c.args.a in
    let front = length-take a.count a.fragments in
    let all_slots = slots a _ c.well_formed.0 in
    record { count = omega arith; within = omega arith }

pub returns : goal.returns
unfolding sound_fields fragment_limit
returns c =
    let e = sym c.opened_within.ensures ∙ c.if-not-opened_within.false in
    c.held_tested.ensures ∙ simp (le-leb _ _ c.if-count-gt-FRAGMENT_LIMIT.false, e, and-true)
