-- Lists of events: what client k's calls answer and leave in out is what its book says, and after the list every record and share stands for
-- its client's book. By induction, one event at a time.
-- Assumes nothing.
use Prim.Native.Nat.{ℕ}
use mathlib.Core.Path.{◌≡◌, refl, sym, ap, ap₂, subst, ◌∙◌}
use mathlib.Core.Bool.{Bool, true, false, cond}
use mathlib.Core.List.{List, [], ◌∷◌}
use mathlib.Core.Option.{Option, none, some}
use lib.Dec.{eqb}
use borrow.Author.Tests.{eqb-true}
use Rattle.number_tests.specs.Tests.{first_of}
use Rattle.client_reassembly.specs.Answer.{ready}
use Rattle.client_ledger.specs.Lent.{Past, answered, book_of}
use Rattle.client_ledger.specs.History.{Lent, Given}
use Rattle.table_rules.specs.Table.{Table, lent_of, size_tests, refuse_or, cleared, reset_on, ask_on}
use Rattle.table_rules.specs.Events.{Lending, current, another, Event, resetting, asking, table_for, next, final, given_by, gives, Keeps}
use Rattle.table_rules.specs.Owed.{sizes_for, own_call, past_after, history, given_in, reset_reply, reset_owes, owes}
use Rattle.table_rules.proofs.Tests.{size-tests-agree}
use Rattle.table_rules.proofs.Steps.{Holds, call-answer, event-next}

-- a set-up's answer
pub reset-answer : (u : Table) → given_by (reset_on u) ≡ reset_owes (lent_of u)
unfolding reset_on
reset-answer u = go (first_of (size_tests (lent_of u))) ∙ ap (λ (r : Option ℕ). answer r) (sym (ap first_of (size-tests-agree (lent_of u))))
  where
    answer : Option ℕ → Given
    answer r = record { reply = reset_reply r; out = [] }

    go : (r : Option ℕ) → given_by (refuse_or u [] r (record { table = cleared u; out = []; reply = ready })) ≡ answer r
    go none = refl
    go (some n) = refl

sizes-lent : (g : Lending) (t : Table) → lent_of (table_for g t) ≡ sizes_for g (lent_of t)
sizes-lent current t = refl
sizes-lent (another u) t = refl

pub answers-all : (k : ℕ) (es : List Event) (t : Table) (past : ℕ → Past) → Holds t (λ j. book_of (past j)) → Keeps es
    → gives k t es ≡ owes k (lent_of t) (past k) es
unfolding gives owes
answers-all k [] t past h keeps = refl
answers-all k (resetting g ∷ es) t past h keeps =
    let n = event-next t past h (resetting g) keeps.0 in
    ap₂ ◌∷◌ (reset-answer (table_for g t) ∙ ap reset_owes (sizes-lent g t))
    (answers-all k es (next t (resetting g)) (λ j. past_after j (lent_of t) (past j) (resetting g)) n.holds keeps.1
    ∙ ap (λ (l : Lent). owes k l (past_after k (lent_of t) (past k) (resetting g)) es) n.sizes)
answers-all k (asking g j a ∷ es) t past h keeps =
    let n = event-next t past h (asking g j a) keeps.0 in
    go (eqb j k) refl
    (answers-all k es (next t (asking g j a)) (λ i. past_after i (lent_of t) (past i) (asking g j a)) n.holds keeps.1
    ∙ ap (λ (l : Lent). owes k l (past_after k (lent_of t) (past k) (asking g j a)) es) n.sizes)
  where
    first : j ≡ k → given_by (ask_on j a (table_for g t)) ≡ given_in (answered (own_call g (lent_of t) k a) (book_of (past k)))
    first e =
        call-answer t (λ i. book_of (past i)) h g j a keeps.0
        ∙ ap (λ (i : ℕ). given_in (answered (own_call g (lent_of t) i a) (book_of (past i)))) e

    go : (x : Bool) → eqb j k ≡ x
        → gives k (next t (asking g j a)) es ≡ owes k (lent_of t) (past_after k (lent_of t) (past k) (asking g j a)) es
        → cond x (given_by (ask_on j a (table_for g t)) ∷ gives k (next t (asking g j a)) es) (gives k (next t (asking g j a)) es)
        ≡ cond x
        (given_in (answered (own_call g (lent_of t) k a) (book_of (past k))) ∷ owes k (lent_of t) (past_after k (lent_of t) (past k) (asking g j a)) es)
        (owes k (lent_of t) (past_after k (lent_of t) (past k) (asking g j a)) es)
    go true e rest = ap₂ ◌∷◌ (first (eqb-true j k e)) rest
    go false e rest = rest

-- after the list
pub final-holds : (es : List Event) (t : Table) (past : ℕ → Past) → Holds t (λ j. book_of (past j)) → Keeps es
    → Holds (final t es) (λ j. book_of (history j (lent_of t) (past j) es))
unfolding final history
final-holds [] t past h keeps = h
final-holds (e ∷ es) t past h keeps =
    let n = event-next t past h e keeps.0 in
    subst (λ (l : Lent). Holds (final (next t e) es) (λ j. book_of (history j l (past_after j (lent_of t) (past j) e) es))) n.sizes
    (final-holds es (next t e) (λ j. past_after j (lent_of t) (past j) e) n.holds keeps.1)
