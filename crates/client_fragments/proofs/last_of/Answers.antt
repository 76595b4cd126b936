-- `client_fragments::last_of` meets its contract: the loop's invariant says that the one marked last is looked for among those from `i` on (`last-left`).
use Rattle.client_record.proofs.Held.{none, held_at, last-left}
use Rattle.client_record.specs.Record.{is_last, held_fragments, last_of}
use Rattle.client_record.specs.declared.Assembly.{Assembly}
use lib.Seq.{drop-length}
use lib.ListN.{length, drop, get_or}
use Prim.Native.Nat.{ℕ, ◌+◌, ◌<◌}
use mathlib.Core.Bool.{Bool, true, false, cond}
use mathlib.Core.Path.{◌≡◌, sym, ap, ◌∙◌}
use native.Mathlib.Omega.{arith}
use Rattle.client_fragments.proofs.last_of.Goals as goal

-- the element at i is marked last, or it is passed over
step : (a : Assembly) (i : ℕ) → i < length (held_fragments a) → is_last (get_or (held_fragments a) i none) ≡ true
    → last_of (drop i (held_fragments a)) ≡ get_or (held_fragments a) i none
step a i h t = last-left (held_fragments a) i none h ∙ ap (λ (b : Bool). cond b (get_or (held_fragments a) i none) (last_of (drop (i + 1) (held_fragments a)))) t

skip : (a : Assembly) (i : ℕ) → i < length (held_fragments a) → is_last (get_or (held_fragments a) i none) ≡ false
    → last_of (drop i (held_fragments a)) ≡ last_of (drop (i + 1) (held_fragments a))
skip a i h t = last-left (held_fragments a) i none h ∙ ap (λ (b : Bool). cond b (get_or (held_fragments a) i none) (last_of (drop (i + 1) (held_fragments a)))) t

pub returns-then-is_last : goal.returns-then-is_last
returns-then-is_last c = let a = c.args.a in
    let h : c.loop-i.i < length (held_fragments a) = omega (arith, c.held_count-i-end.ensures.count) in
    held_at a c.loop-i.i _ h ∙ sym (step a c.loop-i.i h (ap is_last (sym (held_at a c.loop-i.i _ h)) ∙ sym c.is_last.ensures ∙ c.if-is_last.true))
    ∙ c.loop-i.invariant

pub loop-i-preserved : goal.loop-i-preserved
loop-i-preserved c = let a = c.args.a in
    let h : c.loop-i.i < length (held_fragments a) = omega (arith, c.held_count-i-end.ensures.count) in
    sym (skip a c.loop-i.i h (ap is_last (sym (held_at a c.loop-i.i _ h)) ∙ sym c.is_last.ensures ∙ c.if-is_last.false)) ∙ c.loop-i.invariant

pub returns : goal.returns
unfolding last_of
returns c = let a = c.args.a in
    let e : c.loop-i.i ≡ length (held_fragments a) = omega (arith, c.held_count-i-end.ensures.count) in
    c.fresh_fragment.ensures ∙ sym (ap last_of (ap (λ (k : ℕ). drop k (held_fragments a)) e ∙ drop-length (held_fragments a))) ∙ c.loop-i.invariant
