-- `wire_options::walk::walk_list` meets its contract. The loop's invariant: what the walk tells of the whole list is what it tells of the rest
-- with the options passed before it (`behind`); each turn carries it on (`turn_on`).
use mathlib.Core.Path.{◌≡◌, sym, ap, ap₂, ◌∙◌}
use mathlib.Core.List.{List}
use Prim.Native.Nat.{ℕ, ◌+◌, ◌-◌, ◌≤◌, ◌<◌}
use native.Mathlib.Nat.{add-zero}
use native.Mathlib.Omega.{arith}
use borrow.Author.Rules.{rules}
use lib.ListN.{length, drop, length-drop, drop_of_length-le}
use Rattle.number_octets.specs.Octets.{part}
use Rattle.number_octets.proofs.Laws.{part-rest}
use Rattle.wire_options.specs.Progress.{progress_of}
use Rattle.wire_options.specs.Walk.{walk_answer}
use Rattle.wire_options.specs.Strict.{walk_by}
use Rattle.wire_nops.specs.declared.Strictness.{Strictness}
use Rattle.wire_options.specs.declared.walk.Progress.{Progress}
use Rattle.wire_options.specs.declared.walk.Apcs.{Apcs}
use Rattle.wire_options.specs.declared.walk.Apcs.TheVariants.{Absent, Same}
use Rattle.wire_options.specs.declared.walk.Progress.TheVariants.{On, Apc, Ended}
use Rattle.wire_options.specs.declared.walk.Ahead.{Ahead}
use Rattle.std.proofs.Common.{Result, Ok, Err}
use Rattle.wire_options.proofs.Walks.{Answer, readable, Tells, behind, behind-none, turn_on, joined-absent, tells, answer-none, answer-ended, answer-failed}
use Rattle.wire_options.proofs.walk.walk_list.Goals as goal

-- the turn that was made, over the rest of the list
turn : (s : Strictness) (left : ℕ) (list : List ℕ) (at : ℕ) (p q : Result Progress Ahead) → at < length list
    → q ≡ progress_of s left (part at (length list - at) list) → q ≡ p → Tells s left (drop at list) p
turn s left list at p q h e d =
    tells s left (drop at list) p (simp length-drop (omega arith)) (sym (e ∙ ap (progress_of s left) (part-rest at list)) ∙ d)

-- what a turn passes stays within the list
bound : (list : List ℕ) (at size : ℕ) → at < length list → size ≤ length (drop at list) → at + size ≤ length list
bound list at size h f = omega (arith, simp length-drop at f)

pub loop-at-init : goal.loop-at-init
loop-at-init c = let a = c.args in
    let none : a.room - a.room ≡ 0 = omega arith in
    let whole : Answer = walk_answer (a.base.0 + length a.list.now) (walk_by a.strictness a.room 0 a.list.now) in
    (omega arith, omega arith, sym (ap (λ (n : ℕ). behind n Absent whole) none ∙ behind-none whole))

pub overflow_add-at : goal.overflow_add-at
overflow_add-at c =
    let a = c.args in
    let w = c.loop-at in
    let is : c.progress_at-turn.result ≡ Ok (On c.in-Ok-On.room c.in-Ok-On.size) = search rules in
    let g = turn a.strictness w.left a.list.now w.at (Ok (On c.in-Ok-On.room c.in-Ok-On.size)) _ c.loop-at-test.true c.progress_at-turn.ensures is in
    let b = bound a.list.now w.at c.in-Ok-On.size c.loop-at-test.true g.fits in
    omega arith

pub loop-at-smaller-in-Ok-On : goal.loop-at-smaller-in-Ok-On
loop-at-smaller-in-Ok-On c =
    let a = c.args in
    let w = c.loop-at in
    let is : c.progress_at-turn.result ≡ Ok (On c.in-Ok-On.room c.in-Ok-On.size) = search rules in
    let g = turn a.strictness w.left a.list.now w.at (Ok (On c.in-Ok-On.room c.in-Ok-On.size)) _ c.loop-at-test.true c.progress_at-turn.ensures is in
    let b = bound a.list.now w.at c.in-Ok-On.size c.loop-at-test.true g.fits in
    omega (arith, g.some)

pub loop-at-preserved-in-Ok-On : goal.loop-at-preserved-in-Ok-On
loop-at-preserved-in-Ok-On c =
    let a = c.args in
    let w = c.loop-at in
    let is : c.progress_at-turn.result ≡ Ok (On c.in-Ok-On.room c.in-Ok-On.size) = search rules in
    let g = turn a.strictness w.left a.list.now w.at (Ok (On c.in-Ok-On.room c.in-Ok-On.size)) _ c.loop-at-test.true c.progress_at-turn.ensures is in
    let b = bound a.list.now w.at c.in-Ok-On.size c.loop-at-test.true g.fits in (
      omega arith,
      omega (arith, g.less, w.invariant.1),
      turn_on a.strictness (a.base.0 + length a.list.now) _ a.list.now a.room w.left c.in-Ok-On.room w.at c.in-Ok-On.size w.apcs Absent w.apcs w.invariant.1 w.invariant.2 g (sym (joined-absent w.apcs)),
    )

pub overflow_add-at-in-Ok-Apc : goal.overflow_add-at-in-Ok-Apc
overflow_add-at-in-Ok-Apc c =
    let a = c.args in
    let w = c.loop-at in
    let is : c.progress_at-turn.result ≡ Ok (Apc c.in-Ok-Apc.room c.in-Ok-Apc.size c.in-Ok-Apc.value) = search rules in
    let g = turn a.strictness w.left a.list.now w.at (Ok (Apc c.in-Ok-Apc.room c.in-Ok-Apc.size c.in-Ok-Apc.value)) _ c.loop-at-test.true c.progress_at-turn.ensures is in
    let b = bound a.list.now w.at c.in-Ok-Apc.size c.loop-at-test.true g.fits in
    omega arith

pub loop-at-smaller : goal.loop-at-smaller
loop-at-smaller c =
    let a = c.args in
    let w = c.loop-at in
    let is : c.progress_at-turn.result ≡ Ok (Apc c.in-Ok-Apc.room c.in-Ok-Apc.size c.in-Ok-Apc.value) = search rules in
    let g = turn a.strictness w.left a.list.now w.at (Ok (Apc c.in-Ok-Apc.room c.in-Ok-Apc.size c.in-Ok-Apc.value)) _ c.loop-at-test.true c.progress_at-turn.ensures is in
    let b = bound a.list.now w.at c.in-Ok-Apc.size c.loop-at-test.true g.fits in
    omega (arith, g.some)

pub loop-at-preserved : goal.loop-at-preserved
loop-at-preserved c =
    let a = c.args in
    let w = c.loop-at in
    let is : c.progress_at-turn.result ≡ Ok (Apc c.in-Ok-Apc.room c.in-Ok-Apc.size c.in-Ok-Apc.value) = search rules in
    let g = turn a.strictness w.left a.list.now w.at (Ok (Apc c.in-Ok-Apc.room c.in-Ok-Apc.size c.in-Ok-Apc.value)) _ c.loop-at-test.true c.progress_at-turn.ensures is in
    let b = bound a.list.now w.at c.in-Ok-Apc.size c.loop-at-test.true g.fits in (
      omega arith,
      omega (arith, g.less, w.invariant.1),
      turn_on a.strictness (a.base.0 + length a.list.now) _ a.list.now a.room w.left c.in-Ok-Apc.room w.at c.in-Ok-Apc.size w.apcs (Same c.in-Ok-Apc.value) c.join-apcs.result w.invariant.1 w.invariant.2 g c.join-apcs.ensures,
    )

pub returns-in-Ok-Ended : goal.returns-in-Ok-Ended
returns-in-Ok-Ended c =
    let a = c.args in
    let w = c.loop-at in
    let is : c.progress_at-turn.result ≡ Ok (Ended c.in-Ok-Ended.fill) = search rules in
    let g = turn a.strictness w.left a.list.now w.at (Ok (Ended c.in-Ok-Ended.fill)) _ c.loop-at-test.true c.progress_at-turn.ensures is in
    let n : ℕ = a.room - w.left in
    sym (w.invariant.2
    ∙ ap (behind n w.apcs) (answer-ended a.strictness (a.base.0 + length a.list.now) w.left (drop w.at a.list.now) _ g)
    ∙ ap₂ (λ (k : ℕ) (x : Apcs). readable k c.in-Ok-Ended.fill x) (add-zero n) (joined-absent w.apcs))

pub overflow_add-result-in-Err : goal.overflow_add-result-in-Err
overflow_add-result-in-Err c =
    let a = c.args in
    let w = c.loop-at in
    let g = turn a.strictness w.left a.list.now w.at (Err c.in-Err.field-0) _ c.loop-at-test.true c.progress_at-turn.ensures c.in-Err.is in
    let b = bound a.list.now w.at c.in-Err.field-0.1 c.loop-at-test.true g.0 in
    omega arith

pub overflow_add-result : goal.overflow_add-result
overflow_add-result c =
    let a = c.args in
    let w = c.loop-at in
    let g = turn a.strictness w.left a.list.now w.at (Err c.in-Err.field-0) _ c.loop-at-test.true c.progress_at-turn.ensures c.in-Err.is in
    let b = bound a.list.now w.at c.in-Err.field-0.1 c.loop-at-test.true g.0 in
    omega arith

pub returns-in-Err : goal.returns-in-Err
returns-in-Err c =
    let a = c.args in
    let w = c.loop-at in
    let g = turn a.strictness w.left a.list.now w.at (Err c.in-Err.field-0) _ c.loop-at-test.true c.progress_at-turn.ensures c.in-Err.is in
    sym (w.invariant.2
    ∙ ap (behind (a.room - w.left) w.apcs)
    (answer-failed a.strictness a.base.0 w.left a.list.now w.at _ _ w.invariant.0 g))

pub returns : goal.returns
returns c = let a = c.args in
    let n : ℕ = a.room - c.loop-at.left in
    sym (c.loop-at.invariant.2
    ∙ ap (λ (l : List ℕ). behind n c.loop-at.apcs (walk_answer (a.base.0 + length a.list.now) (walk_by a.strictness c.loop-at.left 0 l))) (drop_of_length-le a.list.now c.loop-at-test.false)
    ∙ ap (behind n c.loop-at.apcs) (answer-none a.strictness (a.base.0 + length a.list.now) c.loop-at.left 0)
    ∙ ap₂ (λ (k : ℕ) (x : Apcs). readable k 0 x) (add-zero n) (joined-absent c.loop-at.apcs))
