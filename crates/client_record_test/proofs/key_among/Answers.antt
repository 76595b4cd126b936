-- `client_record_test::key_among` meets its contract: the loop's invariant says that `found` is the test of the first `i` assemblies (`any_next`).
use Rattle.client_record.proofs.Shapes.{places}
use Rattle.client_record.proofs.Lists.{any_next}
use Rattle.client_record.specs.Record.{same_live_key}
use Rattle.client_record.specs.Lists.{any}
use Rattle.client_record.specs.Limits.{assembly_limit}
use Rattle.client_record.specs.declared.Assembly.{Assembly}
use lib.ListN.{length}
use Prim.Native.Nat.{◌<◌}
use mathlib.Core.Bool.{Bool, ◌||◌}
use mathlib.Core.Path.{◌≡◌, refl, sym, ap₂, ◌∙◌}
use native.Mathlib.Omega.{arith}
use Rattle.client_record_test.proofs.key_among.Goals as goal

pub loop-i-init : goal.loop-i-init
unfolding any
loop-i-init c = refl

pub loop-i-preserved : goal.loop-i-preserved
loop-i-preserved c = let s = c.args in
    let test : Assembly → Bool = λ b. same_live_key b s.a in
    let len : length s.c.assemblies ≡ assembly_limit = places s.c _ c.well_formed.0 in
    let h : c.loop-i.i < length s.c.assemblies = omega (arith, c.requires) in
    ap₂ ◌||◌ c.loop-i.invariant c.same_live_key-found.ensures ∙ sym (any_next s.c.assemblies c.loop-i.i _ h test)
