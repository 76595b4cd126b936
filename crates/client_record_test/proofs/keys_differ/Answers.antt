-- `client_record_test::keys_differ` meets its contract: the loop's invariant says that `ok` is the test of the first `i` assemblies (`pairs_next`).
use Rattle.client_record.proofs.Shapes.{places}
use Rattle.client_record.proofs.Lists.{pairs_next, all-not}
use Rattle.client_record.specs.Record.{same_live_key, keys_differ}
use Rattle.client_record.specs.Lists.{pairs}
use Rattle.client_record.specs.Limits.{assembly_limit}
use lib.Seq.{take-length}
use lib.ListN.{length, take, get_or}
use Prim.Native.Nat.{ℕ, ◌<◌}
use mathlib.Core.Bool.{not, ◌&&◌}
use mathlib.Core.Path.{◌≡◌, refl, sym, ap, ap₂, ◌∙◌}
use native.Mathlib.Omega.{arith}
use Rattle.client_record_test.proofs.keys_differ.Goals as goal

pub loop-i-init : goal.loop-i-init
unfolding keys_differ pairs
loop-i-init c = refl

pub loop-i-preserved : goal.loop-i-preserved
unfolding keys_differ assembly_limit
loop-i-preserved c = let xs = c.args.c.assemblies in
    let i = c.loop-i.i in
    let len : length xs ≡ assembly_limit = places c.args.c _ c.well_formed.0 in
    let h : i < length xs = omega arith in
    ap₂ ◌&&◌ c.loop-i.invariant (ap not c.key_among.ensures ∙ sym (all-not (λ b. same_live_key b (get_or xs i _)) (take i xs)))
    ∙ sym (pairs_next xs i _ h (λ a b. not (same_live_key a b)))

pub returns : goal.returns
unfolding assembly_limit
returns c = let xs = c.args.c.assemblies in
    let len : length xs ≡ assembly_limit = places c.args.c _ c.well_formed.0 in
    let e : c.loop-i.i ≡ length xs = omega arith in
    c.loop-i.invariant ∙ ap (λ (k : ℕ). keys_differ (take k xs)) e ∙ ap keys_differ (take-length xs)
