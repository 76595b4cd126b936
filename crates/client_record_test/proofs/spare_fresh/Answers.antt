-- `client_record_test::spare_fresh` meets its contract: the loop's invariant says that no bit in `stray`
-- and the test of the slots from `i` on make the test of all (`all_left`, `or-zero`).
use Rattle.client_record.proofs.Shapes.{slots}
use Rattle.client_record.proofs.Lists.{all_left}
use Rattle.client_record.proofs.Held.{spare-from}
use Rattle.client_record.specs.Record.{is_fresh_fragment}
use Rattle.client_record.specs.Lists.{all}
use Rattle.client_record.specs.declared.Fragment.{Fragment}
use mathlib.Core.List.{List}
use Rattle.client_record.specs.Limits.{fragment_limit}
use lib.Seq.{drop-length}
use lib.Dec.{eqb}
use lib.ListN.{length, drop}
use Rattle.number_octets.proofs.ZeroBytes.{or-zero}
use Prim.Native.Nat.{ℕ, ◌+◌, ◌<◌}
use mathlib.Core.Bool.{Bool, ◌&&◌, and_assoc, and-true}
use mathlib.Core.Path.{◌≡◌, sym, ap, ◌∙◌}
use native.Mathlib.Omega.{arith}
use Rattle.client_record_test.proofs.spare_fresh.Goals as goal

pub loop-i-init : goal.loop-i-init
loop-i-init c = let a = c.args.a in
    ap (λ (k : ℕ). all is_fresh_fragment (drop k a.fragments)) (omega (arith, c.held_count-i.ensures.count)) ∙ ap (all is_fresh_fragment) (spare-from a)

pub loop-i-preserved : goal.loop-i-preserved
unfolding fragment_limit
loop-i-preserved c = let a = c.args.a in
    let i = c.loop-i.i in
    let len : length a.fragments ≡ fragment_limit = slots a _ c.well_formed.0 in
    let h : i < length a.fragments = omega arith in
    ap (λ (b : Bool). b && all is_fresh_fragment (drop (i + 1) a.fragments)) (or-zero c.loop-i.stray c.slot_word-stray.result
    ∙ ap (λ (b : Bool). eqb c.loop-i.stray 0 && b) c.slot_word-stray.ensures)
    ∙ and_assoc (eqb c.loop-i.stray 0) _ _ ∙ ap (λ (b : Bool). eqb c.loop-i.stray 0 && b) (sym (all_left a.fragments i _ h is_fresh_fragment))
    ∙ c.loop-i.invariant

pub returns : goal.returns
unfolding all fragment_limit
returns c = let a = c.args.a in
    let len : length a.fragments ≡ fragment_limit = slots a _ c.well_formed.0 in
    let e : c.loop-i.i ≡ length a.fragments = omega (arith, c.held_count-i.ensures.within) in
    sym (ap (λ (s : List Fragment). eqb c.loop-i.stray 0 && all is_fresh_fragment s) (ap (λ (k : ℕ). drop k a.fragments) e ∙ drop-length a.fragments)
    ∙ and-true (eqb c.loop-i.stray 0)) ∙ c.loop-i.invariant
