-- `client_fragments::bytes_held` meets its contract: `total` is the sum over the first `i` fragments (`sum-next`), each of a 16-bit length.
use Rattle.client_record.proofs.Lists.{sum-next}
use Rattle.client_record.specs.Record.{held_fragments, bytes_held}
use Rattle.client_record.specs.declared.Fragment.{Fragment}
use Rattle.client_record.specs.Lists.{sum}
use Rattle.client_record.proofs.Held.{held_at}
use lib.Seq.{take-length}
use lib.ListN.{length, take}
use Prim.Native.Nat.{ℕ, ◌+◌, ◌<◌}
use mathlib.Core.Path.{◌≡◌, refl, sym, ap, ap₂, ◌∙◌}
use borrow.Author.Rules.{rules}
use native.Mathlib.Omega.{arith}
use Rattle.client_fragments.proofs.bytes_held.Goals as goal

pub loop-i-init : goal.loop-i-init
unfolding sum
loop-i-init c = (refl, search rules)

pub loop-i-preserved : goal.loop-i-preserved
loop-i-preserved c = let a = c.args.a in
    let h : c.loop-i.i < length (held_fragments a) = omega (arith, c.held_count-i-end.ensures.count) in (
      ap₂ ◌+◌ c.loop-i.invariant.0 (c.from-total.ensures ∙ ap (λ (f : Fragment). f.length) (held_at a c.loop-i.i _ h))
          ∙ sym (sum-next (held_fragments a) c.loop-i.i _ h (λ f. f.length)),
      omega arith,
    )

pub returns : goal.returns
unfolding bytes_held
returns c = let a = c.args.a in
    let e : c.loop-i.i ≡ length (held_fragments a) = omega (arith, c.held_count-i-end.ensures.count) in
    c.loop-i.invariant.0 ∙ ap (λ (k : ℕ). sum (λ (f : Fragment). f.length) (take k (held_fragments a))) e
    ∙ ap (sum (λ (f : Fragment). f.length)) (take-length (held_fragments a))
