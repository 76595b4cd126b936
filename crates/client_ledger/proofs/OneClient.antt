-- The one-client theorem: its parts put together. 22 never comes because the book, whose answers these are, never gives it.
-- Assumes nothing.
use Prim.Native.Nat.{ℕ}
use mathlib.Core.Path.{◌≡◌, refl, sym, ◌∙◌}
use mathlib.Core.Bool.{Bool, true, false, not, cond}
use mathlib.Core.List.{List, [], ◌∷◌}
use mathlib.Core.Option.{Option, none, some}
use native.Mathlib.Omega.{arith}
use lib.Dec.{eqb}
use lib.ListN.{length}
use borrow.Author.Tests.{eqb-false, not-true}
use Rattle.number_tests.proofs.Tests.{both_true, cond_either}
use Rattle.number_tests.specs.Tests.{first_of}
use Rattle.client_record.specs.declared.Client.{Client}
use Rattle.client_record.specs.Lists.{all}
use Rattle.client_reassembly.specs.Answer.{Reply, refused, advanced}
use Rattle.client_ledger.specs.Book.{
  Content,
  Entry,
  Book,
  end_of,
  complete,
  last_one,
  Result,
  leaving,
  with,
  finished,
  taking,
  no_room,
  is_repeat,
  is_conflict,
  is_full,
  fate,
  entry,
  advance,
  offer_tests,
  clock_tests,
  refuse_or,
  Call,
  fragment,
  clock,
  bill,
  call,
}
use Rattle.client_ledger.specs.Stands.{Stands, Fulfils}
use Rattle.client_ledger.specs.History.{Ask, offering, advancing, accounting, call_on}
use Rattle.client_ledger.specs.Bookkeeping.{call_of}
use Rattle.client_ledger.specs.OneClient.{Lasts, OneClient}
use Rattle.client_ledger.proofs.Clock.{stands-fresh, account-stands, advance-stands}
use Rattle.client_ledger.proofs.Taken.{fragment-stands}

-- ---- the book never gives 22

abbrev Other : Reply → Type 0
Other r = r ≡ refused 22 → ⊥

other-number : (n : ℕ) → (n ≡ 22 → ⊥) → Other (refused n)
other-number n h e = let z : n ≡ 22 = cc in h z

finished-other : (e : Entry) (out : List ℕ) (b : Book) (l : Option Content) → Other (finished e out b l).reply
finished-other e out b none = λ q. let z : ◌≡◌ {A = ℕ} 0 1 = cc in omega arith
finished-other e out b (some l) =
    cond_either (λ (r : Result). Other r.reply) (complete (end_of l) (with e b)) _ _ (λ q. let z : ◌≡◌ {A = ℕ} 0 1 = cc in omega arith)
    (λ q. let z : ◌≡◌ {A = ℕ} 0 1 = cc in omega arith)

fate-other : (e : Entry) (out : List ℕ) (b : Book) → Other (fate e out b).reply
unfolding fate taking
fate-other e out b =
    cond_either (λ (r : Result). Other r.reply) (no_room e b) _ _ (other-number 29 (λ q. omega arith))
    (cond_either (λ (r : Result). Other r.reply) (is_repeat e b) _ _ (λ q. let z : ◌≡◌ {A = ℕ} 0 1 = cc in omega arith)
    (cond_either (λ (r : Result). Other r.reply) (is_conflict e b) _ _ (λ q. let z : ◌≡◌ {A = ℕ} 0 1 = cc in omega arith)
    (cond_either (λ (r : Result). Other r.reply) (is_full e b) _ _ (other-number 30 (λ q. omega arith)) (finished-other e out b (last_one (with e b))))))

-- none of the tests has the number 22
first-other : (xs : List (Bool × ℕ)) → all (λ x. not (eqb x.1 22)) xs ≡ true → (n : ℕ) → first_of xs ≡ some n → n ≡ 22 → ⊥
unfolding first_of all
first-other [] a n e = let z : ◌≡◌ {A = ℕ} 0 1 = cc in absurd (omega arith)
first-other (x ∷ xs) a n e = go x.0 (first-other xs (both_true (not (eqb x.1 22)) (all (λ y. not (eqb y.1 22)) xs) a).1 n) e
  where
    go : (t : Bool) → (first_of xs ≡ some n → n ≡ 22 → ⊥) → cond t (some x.1) (first_of xs) ≡ some n → n ≡ 22 → ⊥
    go true ih e q =
        let z : x.1 ≡ n = cc in
        eqb-false x.1 22 (not-true (eqb x.1 22) (both_true (not (eqb x.1 22)) (all (λ y. not (eqb y.1 22)) xs) a).0) (z ∙ q)
    go false ih e q = ih e q

refuse-other : (out : List ℕ) (b : Book) (xs : List (Bool × ℕ)) (r : Result) → all (λ x. not (eqb x.1 22)) xs ≡ true → Other r.reply
    → Other (refuse_or out b (first_of xs) r).reply
refuse-other out b xs r a h = go (first_of xs) refl
  where
    go : (o : Option ℕ) → first_of xs ≡ o → Other (refuse_or out b o r).reply
    go none e = h
    go (some n) e = other-number n (first-other xs a n e)

book-other : (c : Call) (b : Book) → Other (call c b).reply
unfolding offer_tests clock_tests all
book-other (fragment o out) b =
    refuse-other out b (offer_tests o (length out) b) (fate (entry o) out (advance o.time b)) refl (fate-other (entry o) out (advance o.time b))
book-other (clock t) b =
    refuse-other [] b (clock_tests t b) (leaving advanced [] (advance t b)) refl (λ q. let z : ◌≡◌ {A = ℕ} 0 1 = cc in omega arith)
book-other bill b = λ q. let z : ◌≡◌ {A = ℕ} 0 1 = cc in omega arith

-- ---- the theorem

-- the clock lends no out buffer
clock-out : (t : ℕ) (b : Book) → [] ≡ (call (clock t) b).out
clock-out t b = go (first_of (clock_tests t b))
  where
    go : (o : Option ℕ) → [] ≡ (refuse_or [] b o (leaving advanced [] (advance t b))).out
    go none = refl
    go (some n) = refl

-- each call on the record does what the book does
each-call : Lasts → (c : Client) (share : List ℕ) (b : Book) → Stands c share b → (a : Ask) → Fulfils (call_on c share a) (call (call_of a) b)
unfolding Lasts
each-call lasts c share b st (offering o bytes out) = fragment-stands c share b st out o bytes (lasts c share out o bytes st.sound st.shape)
each-call lasts c share b st (advancing t) =
    let f = advance-stands t c share b st in record { reply = f.reply; out = clock-out t b; stands = f.stands }
each-call lasts c share b st accounting =
    let f = account-stands c share b st in record { reply = f.reply; out = refl; stands = f.stands }

pub one-client : Lasts → OneClient
one-client lasts = record {
  fresh = stands-fresh;
  each_call = each-call lasts;
  never_22 = λ c share b st a q. book-other (call_of a) b (sym (each-call lasts c share b st a).reply ∙ q);
}
