-- An own call in the book, by its tests: refused by 20 or 32, refused by 21, or the book's own rules. The book of a history with one call
-- more, its plan and its sum.
-- Assumes nothing.
use Prim.Native.Nat.{ℕ}
use mathlib.Core.Path.{◌≡◌, refl, ap, ◌∙◌}
use mathlib.Core.Bool.{true, false}
use mathlib.Core.List.{List, [], ◌∷◌, ◌++◌}
use mathlib.Core.Option.{Option, none, some}
use lib.ListN.{length, get_or}
use Rattle.number_tests.proofs.Tests.{first-front, first-behind, cond_yes, cond_no, cond_either}
use Rattle.number_tests.specs.Tests.{first_of}
use Rattle.client_reassembly.specs.Answer.{refused}
use Rattle.client_ledger.specs.Book.{
  Content,
  Entry,
  Book,
  empty,
  end_of,
  advance,
  complete,
  last_one,
  Result,
  rejecting,
  repeating,
  conflicting,
  storing,
  delivering,
  leaving,
  with,
  finished,
  taking,
  no_room,
  is_repeat,
  is_conflict,
  is_full,
  fate,
  Call,
  fragment,
  clock,
  bill,
  entry,
  offer_tests,
  clock_tests,
  refuse_or,
  call,
  Balanced,
}
use Rattle.client_ledger.specs.History.{Lent}
use Rattle.client_ledger.specs.Lent.{table_tests, no_client, lent_tests, Own, Past, since, more, out_of, answered, keeping, book_of}
use Rattle.client_ledger.proofs.Sum.{call-balanced, empty-balanced}

module _ (o : Own) (b : Book) where
  -- what is answered where this is the first test that applies
  abbrev met : Option ℕ → Result
  met n = refuse_or (out_of o.call) b n (call o.call b)

  -- the table is refused
  pub own-refused : (n : ℕ) → first_of (table_tests o.lent) ≡ some n → answered o b ≡ leaving (refused n) (out_of o.call) b
  unfolding answered lent_tests
  own-refused n e = ap met (first-front (table_tests o.lent) ((no_client o.lent o.client, 21) ∷ []) n e)

  pub own-unknown : first_of (table_tests o.lent) ≡ none → no_client o.lent o.client ≡ true
      → answered o b ≡ leaving (refused 21) (out_of o.call) b
  unfolding answered lent_tests first_of
  own-unknown e h =
      ap met
      (first-behind (table_tests o.lent) ((no_client o.lent o.client, 21) ∷ []) e ∙ cond_yes (no_client o.lent o.client) (some 21) none h)

  pub own_granted : first_of (table_tests o.lent) ≡ none → no_client o.lent o.client ≡ false → answered o b ≡ call o.call b
  unfolding answered lent_tests first_of
  own_granted e h =
      ap met
      (first-behind (table_tests o.lent) ((no_client o.lent o.client, 21) ∷ []) e ∙ cond_no (no_client o.lent o.client) (some 21) none h)

-- ---- histories

keeping-more : (os : List Own) (o : Own) (b : Book) → keeping (os ++ o ∷ []) b ≡ (answered o (keeping os b)).book
unfolding keeping
keeping-more [] o b = refl
keeping-more (p ∷ os) o b = keeping-more os o (answered p b).book

-- one call more
pub book-more : (h : Past) (o : Own) → book_of (more h o) ≡ (answered o (book_of h)).book
unfolding book_of
book-more h o = keeping-more h.calls o (empty h.plan)

-- no call since the set-up
pub book-none : (k : ℕ) (l : Lent) → book_of (since k l) ≡ empty (get_or l.plans k 0)
unfolding book_of keeping
book-none k l = refl

-- what holds of the book, and of the book that the call leaves, holds after an own call
pub own-either : (P : Book → Type 0) (o : Own) (b : Book) → P b → P (call o.call b).book → P (answered o b).book
unfolding answered
own-either P o b before after = go (first_of (lent_tests o.lent o.client))
  where
    go : (n : Option ℕ) → P (refuse_or (out_of o.call) b n (call o.call b)).book
    go none = after
    go (some n) = before

-- ---- the plan

-- the book after it has the same plan
abbrev Keeps : ℕ → Result → Type 0
Keeps plan r = r.book.plan ≡ plan

module _ (e : Entry) (out : List ℕ) (b : Book) where
  finished-plan : (o : Option Content) → Keeps b.plan (finished e out b o)
  unfolding storing delivering
  finished-plan none = refl
  finished-plan (some l) = cond_either (Keeps b.plan) (complete (end_of l) (with e b)) _ _ refl refl

  fate-plan : Keeps b.plan (fate e out b)
  unfolding fate taking rejecting repeating conflicting
  fate-plan =
      cond_either (Keeps b.plan) (no_room e b) _ _ refl
      (cond_either (Keeps b.plan) (is_repeat e b) _ _ refl
      (cond_either (Keeps b.plan) (is_conflict e b) _ _ refl
      (cond_either (Keeps b.plan) (is_full e b) _ _ refl (finished-plan (last_one (with e b))))))

advance-plan : (t : ℕ) (b : Book) → (advance t b).plan ≡ b.plan
unfolding advance
advance-plan t b = refl

refuse-plan : (out : List ℕ) (b : Book) (n : Option ℕ) (r : Result) → Keeps b.plan r → Keeps b.plan (refuse_or out b n r)
refuse-plan out b none r h = h
refuse-plan out b (some n) r h = refl

call-plan : (c : Call) (b : Book) → Keeps b.plan (call c b)
call-plan (fragment o out) b =
    refuse-plan out b (first_of (offer_tests o (length out) b)) _ (fate-plan (entry o) out (advance o.time b) ∙ advance-plan o.time b)
call-plan (clock t) b = refuse-plan [] b (first_of (clock_tests t b)) _ (advance-plan t b)
call-plan bill b = refl

keeping-plan : (os : List Own) (b : Book) → (keeping os b).plan ≡ b.plan
unfolding keeping
keeping-plan [] b = refl
keeping-plan (o ∷ os) b =
    keeping-plan os (answered o b).book ∙ own-either (λ c. c.plan ≡ b.plan) o b refl (call-plan o.call b)

-- no call changes the plan that the set-up read
pub book-plan : (h : Past) → (book_of h).plan ≡ h.plan
unfolding book_of empty
book-plan h = keeping-plan h.calls (empty h.plan)

-- ---- the sum

keeping-balanced : (os : List Own) (b : Book) → Balanced b → Balanced (keeping os b)
unfolding keeping
keeping-balanced [] b h = h
keeping-balanced (o ∷ os) b h = keeping-balanced os (answered o b).book (own-either Balanced o b h (call-balanced o.call b h))

-- every history of a client, refusals 20, 32 and 21 included
pub book-balanced : (h : Past) → Balanced (book_of h)
unfolding book_of
book-balanced h = keeping-balanced h.calls (empty h.plan) (empty-balanced h.plan)
