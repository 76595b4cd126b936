-- `client_offer::fragment_of` meets its contract: the numbers fit, and the branches are the definition's.
use Rattle.client_reassembly.specs.Offer.{fragment_of}
use Rattle.client_record.specs.Limits.{datagram_limit}
use Rattle.client_record.specs.declared.Fragment.{Fragment}
use borrow.Author.Tests.{ltb-false}
use lib.Dec.{ltb}
use native.Mathlib.Omega.{arith}
use Prim.Native.Nat.{ℕ, ◌+◌}
use mathlib.Core.Bool.{Bool, false, ◌&&◌, cond}
use mathlib.Core.Path.{◌≡◌, sym, ap, ap₂, ◌∙◌}
use Rattle.client_offer.proofs.fragment_of.Goals as goal
use Rattle.client_offer.proofs.fragment_of.Goals.{then-o, else-o}

pub overflow_cast-result : goal.overflow_cast-result
unfolding datagram_limit
overflow_cast-result c = omega (arith, c.requires.ends)

pub overflow_cast-result-2 : goal.overflow_cast-result-2
unfolding datagram_limit
overflow_cast-result-2 c = omega (arith, c.requires.ends)

pub overflow_cast-result-then-o : goal.overflow_cast-result-then-o
unfolding datagram_limit
overflow_cast-result-then-o c = let o = c.args.o in
    let e : ltb (o.offset.0 + c.args.n) o.option_start.0 ≡ false =
    sym (ap (λ (b : Bool). b && ltb (o.offset.0 + c.args.n) o.option_start.0) c.if-o.true) ∙ c.requires.starts in
    omega (arith, ltb-false (o.offset.0 + c.args.n) o.option_start.0 e, c.requires.ends)

pub returns : goal.returns
unfolding fragment_of
returns c =
    let o = c.args.o in
    let start : c.if-o.result ≡ cond o.last o.option_start.0 0 =
    elim c.if-o.branch [
      | then-o w ↦ w.result-is ∙ sym (ap (λ (b : Bool). cond b o.option_start.0 0) w.if-o.true)
      | else-o w ↦ w.result-is ∙ sym (ap (λ (b : Bool). cond b o.option_start.0 0) w.if-o.false)
    ] in
    let frag : ℕ → ℕ → Fragment = λ start last. record { offset = o.offset.0; length = c.args.n; option_start = start; last = last } in
    ap₂ frag start c.from.ensures
