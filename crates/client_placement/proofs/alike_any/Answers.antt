-- `client_placement::alike_any` meets its contract: the loop's invariant says that `found` is the test of the first `i` fragments (`any_next`).
use Rattle.client_record.proofs.Held.{held_at}
use Rattle.client_record.proofs.Lists.{any_next}
use Rattle.client_reassembly.specs.Offer.{alike}
use Rattle.client_record.specs.Record.{held_fragments}
use Rattle.client_record.specs.Lists.{any}
use lib.ListN.{length}
use Prim.Native.Nat.{◌<◌}
use mathlib.Core.Bool.{◌||◌}
use mathlib.Core.Path.{refl, sym, ap, ap₂, ◌∙◌}
use native.Mathlib.Omega.{arith}
use Rattle.client_placement.proofs.alike_any.Goals as goal

pub loop-i-init : goal.loop-i-init
unfolding any
loop-i-init c = refl

pub loop-i-preserved : goal.loop-i-preserved
loop-i-preserved c = let s = c.args in
    let h : c.loop-i.i < length (held_fragments s.a) = omega (arith, c.held_count-i-end.ensures.count) in
    ap₂ ◌||◌ c.loop-i.invariant (c.alike-found.ensures ∙ ap (alike s.f) (held_at s.a c.loop-i.i _ h))
    ∙ sym (any_next (held_fragments s.a) c.loop-i.i _ h (alike s.f))
