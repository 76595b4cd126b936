-- `number_octets::copy` meets its contract. The loop's invariant: the first `i` bytes of the source stand in the target from `at` on (`paste`).
use mathlib.Core.Path.{◌≡◌, sym, ap, ◌∙◌}
use mathlib.Core.List.{List, ◌++◌, append_assoc}
use Prim.Native.Nat.{ℕ, ◌+◌, ◌<◌}
use native.Mathlib.Numerals.{add-one}
use native.Mathlib.Omega.{arith}
use borrow.Author.Rules.{rules}
use lib.ListN.{length, set, get_or, take, drop, length-set}
use lib.Seq.{paste, paste-zero, paste-suc, take-length}
use Rattle.number_octets.proofs.copy.Goals as goal

pub loop-i-init : goal.loop-i-init
loop-i-init c = (paste-zero c.args.target.now c.args.at c.args.source.now, search rules)

pub loop-i-preserved : goal.loop-i-preserved
loop-i-preserved c = let a = c.args in
    let here : a.at + c.loop-i.i < length a.target.now = omega arith in (
      ap (λ (t : List ℕ). set t (a.at + c.loop-i.i) (get_or a.source.now c.loop-i.i 0)) c.loop-i.invariant.0
          ∙ paste-suc a.target.now a.at a.source.now c.loop-i.i 0 here (omega arith)
          ∙ ap (paste a.target.now a.at a.source.now) (sym (add-one c.loop-i.i)),
      simp length-set (search rules),
    )

pub returns : goal.returns
returns c = let a = c.args in
    let all : c.loop-i.i ≡ length a.source.now = omega arith in
    c.loop-i.invariant.0 ∙ ap (paste a.target.now a.at a.source.now) all
    ∙ ap (λ (s : List ℕ). take a.at a.target.now ++ s ++ drop (a.at + length a.source.now) a.target.now) (take-length a.source.now)
    ∙ append_assoc (take a.at a.target.now) a.source.now (drop (a.at + length a.source.now) a.target.now)
