-- `client_placement::assembly_for` meets its contract: what stands at the place is live exactly where the key has an assembly (`live_at`).
use Rattle.number_tests.proofs.Tests.{cond_yes, cond_no}
use Rattle.client_reassembly.proofs.Laws.{get_d_any}
use Rattle.client_record.proofs.Shapes.{places}
use Rattle.client_reassembly.proofs.Places.{live_at}
use Rattle.client_reassembly.specs.Offer.{matches, opening, assembly_for}
use Rattle.client_record.specs.Record.{fresh_assembly}
use Rattle.client_record.specs.Lists.{any}
use Rattle.client_record.specs.Limits.{assembly_limit}
use lib.ListN.{length, get_or}
use Prim.Native.Nat.{◌<◌}
use mathlib.Core.Bool.{true, false}
use mathlib.Core.Path.{◌≡◌, sym, ◌∙◌}
use native.Mathlib.Omega.{arith}
use Rattle.client_placement.proofs.assembly_for.Goals as goal

pub returns-then-live : goal.returns-then-live
unfolding assembly_for assembly_limit
returns-then-live c = let s = c.args in
    let xs = s.c.assemblies in
    let len : length xs ≡ assembly_limit = places c.args.c _ c.well_formed.0 in
    let h : s.p < length xs = omega (arith, c.requires.within) in
    let e : any (matches s.o) xs ≡ true = sym (live_at s.o xs s.p _ c.requires.place h) ∙ sym c.live.ensures ∙ c.if-live.true in
    get_d_any xs s.p _ fresh_assembly h ∙ sym (cond_yes (any (matches s.o) xs) (get_or xs s.p fresh_assembly) (opening s.o) e)

pub returns-else-live : goal.returns-else-live
unfolding assembly_for assembly_limit
returns-else-live c = let s = c.args in
    let xs = s.c.assemblies in
    let len : length xs ≡ assembly_limit = places c.args.c _ c.well_formed.0 in
    let h : s.p < length xs = omega (arith, c.requires.within) in
    let e : any (matches s.o) xs ≡ false = sym (live_at s.o xs s.p _ c.requires.place h) ∙ sym c.live.ensures
    ∙ c.if-live.false in
    c.opening.ensures ∙ sym (cond_no (any (matches s.o) xs) (get_or xs s.p fresh_assembly) (opening s.o) e)
