-- `client_fragments::held_count` meets its contract: a front of an array that has enough elements is as long as it says, and else it is the array.
use Rattle.client_record.specs.Record.{held_fragments}
use Rattle.client_record.specs.Limits.{fragment_limit}
use native.Mathlib.Omega.{arith}
use lib.ListN.{length, length-take}
use Rattle.client_record.proofs.Shapes.{slots}
use mathlib.Core.Path.{◌≡◌}
use Rattle.client_fragments.proofs.held_count.Goals as goal

pub returns : goal.returns
unfolding held_fragments fragment_limit
returns c = let a = c.args.a in
    let h : length a.fragments ≡ fragment_limit = slots a _ c.well_formed.0 in
    let k = length-take a.count a.fragments in
    record { count = omega arith; within = omega arith }
