-- `client_fragments::whole` meets its contract: the loop's invariant says that `total` is the sum over the first `i` fragments, and `known` whether one
-- of them is the last one, which `past` is the end of (`Passed`). Of all of them the sum decides (`by-sum`).
use Prim.Native.Nat.{ℕ, ◌+◌, ◌<◌}
use mathlib.Core.Bool.{Bool, true, false, ◌&&◌, ◌||◌, or-true, or-false}
use Rattle.client_fragments.proofs.whole.Goals.{After-loop-i, then-is_last, else-is_last}
use mathlib.Core.Path.{◌≡◌, refl, sym, ap, ap₂, subst, ◌∙◌}
use mathlib.Core.List.{List}
use native.Mathlib.Omega.{arith}
use borrow.Author.Rules.{rules}
use lib.Dec.{eqb}
use lib.ListN.{length, take, get_or}
use lib.Seq.{take-length}
use Rattle.client_record.specs.declared.Fragment.{Fragment}
use Rattle.client_record.specs.Lists.{any, sum}
use Rattle.client_record.specs.Limits.{fragment_limit}
use Rattle.client_record.specs.Record.{is_last, end, compatible, last_of, whole, held_fragments}
use Rattle.client_record.proofs.Completion.{only-last, by-sum}
use Rattle.client_record.proofs.Held.{none, held_at}
use Rattle.client_record.proofs.Lists.{any_next, sum-next}
use Rattle.client_fragments.proofs.whole.Goals as goal
use Rattle.client_fragments.proofs.whole.Invariants.{Passed}

-- ---- what is known of the first i fragments

-- one more, of n bytes
module _ (fs : List Fragment) (i total : ℕ) (known : Bool) (past : ℕ) (p : Passed fs i total known past) (h : i < length fs)
    (n : ℕ) (size : n ≡ (get_or fs i none).length) where
  longer : total + n ≡ sum (λ f. f.length) (take (i + 1) fs)
  longer = ap₂ ◌+◌ p.sum_is size ∙ sym (sum-next fs i none h (λ f. f.length))

  passed-last : compatible fs ≡ true → is_last (get_or fs i none) ≡ true → (next : Bool) (behind : ℕ) → next ≡ true → behind ≡ end (get_or fs i none)
      → Passed fs (i + 1) (total + n) next behind
  passed-last apart e next behind k q = record {
    sum_is = longer;
    marked = k ∙ sym (any_next fs i none h is_last ∙ ap (λ (b : Bool). any is_last (take i fs) || b) e ∙ or-true (any is_last (take i fs)));
    ends = λ known. q ∙ ap end (sym (only-last fs i none apart h e));
  }

  passed-other : is_last (get_or fs i none) ≡ false → (next : Bool) (behind : ℕ) → next ≡ known → behind ≡ past → Passed fs (i + 1) (total + n) next behind
  passed-other e next behind k q = record {
    sum_is = longer;
    marked =
        k ∙ p.marked
        ∙ sym (any_next fs i none h is_last ∙ ap (λ (b : Bool). any is_last (take i fs) || b) e ∙ or-false (any is_last (take i fs)));
    ends = λ marked. q ∙ p.ends (sym k ∙ marked);
  }

-- all of them
passed-all : (fs : List Fragment) (total : ℕ) (known : Bool) (past : ℕ) → compatible fs ≡ true → Passed fs (length fs) total known past
    → known && eqb total past ≡ whole fs
passed-all fs total known past apart p = go known (p.marked ∙ ap (any is_last) (take-length fs)) p.ends
  where
    go : (b : Bool) → b ≡ any is_last fs → (b ≡ true → past ≡ end (last_of fs)) → b && eqb total past ≡ whole fs
    go true e ends =
        ap₂ eqb (p.sum_is ∙ ap (sum (λ g. g.length)) (take-length fs)) (ends refl) ∙ sym ((by-sum fs apart).known_end (sym e))
    go false e ends = sym ((by-sum fs apart).no_last (sym e))

pub loop-i-init : goal.loop-i-init
unfolding sum any
loop-i-init c = (record { sum_is = refl; marked = refl; ends = λ k. absurd (let z : ◌≡◌ {A = ℕ} 0 1 = cc in omega arith) }, search rules)

pub overflow_add-total : goal.overflow_add-total
unfolding fragment_limit
overflow_add-total c = omega (arith, c.held_count-held.ensures.within)

pub loop-i-preserved : goal.loop-i-preserved
loop-i-preserved c = let a = c.args.a in
    let h : c.loop-i.i < length (held_fragments a) = omega (arith, c.held_count-held.ensures.count) in
    let same = held_at a c.loop-i.i _ h in
    let size = ap (λ (f : Fragment). f.length) same in
    let mark = ap is_last (sym same) ∙ sym c.is_last.ensures in (
      elim c.if-is_last.branch [
        | then-is_last w ↦
            passed-last _ _ _ _ _ c.loop-i.invariant.0 h _ size c.requires (mark ∙ w.if-is_last.true) _ _ w.known-is
            (w.past-is ∙ w.end_of-past.ensures ∙ ap end same)
        | else-is_last w ↦ passed-other _ _ _ _ _ c.loop-i.invariant.0 h _ size (mark ∙ w.if-is_last.false) _ _ w.known-is w.past-is
      ],
      omega arith,
    )

-- the loop is through
passed-through : (c : After-loop-i) → c.loop-i.known && eqb c.loop-i.total c.loop-i.past ≡ whole (held_fragments c.args.a)
passed-through c = let a = c.args.a in
    let e : c.loop-i.i ≡ length (held_fragments a) = omega (arith, c.held_count-held.ensures.count) in
    passed-all (held_fragments a) _ _ _ c.requires
    (subst (λ (k : ℕ). Passed (held_fragments a) k c.loop-i.total c.loop-i.known c.loop-i.past) e c.loop-i.invariant.0)

pub returns-then-known : goal.returns-then-known
returns-then-known c =
    ap (λ (b : Bool). b && eqb c.loop-i.total c.loop-i.past) (sym c.if-known.true) ∙ passed-through (goal.at.returns-then-known c).After-loop-i

pub returns-else-known : goal.returns-else-known
returns-else-known c =
    c.if-known.false ∙ ap (λ (b : Bool). b && eqb c.loop-i.total c.loop-i.past) (sym c.if-known.false)
    ∙ passed-through (goal.at.returns-else-known c).After-loop-i
