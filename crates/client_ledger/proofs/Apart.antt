-- No open fragment of a key contradicts an earlier one, over every history: a fragment that would is a conflict, and ends its assembly.
-- Assumes nothing.
use Prim.Native.Nat.{ℕ}
use mathlib.Core.Path.{◌≡◌, refl, sym, ap, subst, ◌∙◌}
use mathlib.Core.Bool.{Bool, true, false, not, ◌&&◌, cond}
use mathlib.Core.List.{List, [], ◌∷◌, ◌++◌}
use mathlib.Core.Option.{Option, none, some}
use lib.ListN.{length}
use Rattle.number_tests.proofs.Tests.{both_true, cond_either}
use Rattle.number_tests.specs.Tests.{first_of}
use Rattle.client_record.specs.Lists.{all, any, pairs}
use Rattle.client_record.proofs.Lists.{pairs-append, all-not}
use Rattle.client_reassembly.specs.Answer as Answer
use Rattle.client_ledger.specs.Book.{Key, Content, Entry, Book, Result, empty, size, end_of, of, mine, keep, others}
use Rattle.client_ledger.specs.Book.{
  outdated,
  advance,
  contradicts,
  last_one,
  rejecting,
  repeating,
  conflicting,
  storing,
  delivering,
  leaving,
  with,
  finished,
}
use Rattle.client_ledger.specs.Book.{taking, no_room, is_repeat, is_conflict, is_full, fate, Call, fragment, clock, bill, entry, offer_tests}
use Rattle.client_ledger.specs.Book.{clock_tests, refuse_or, call, Offer}
use Rattle.client_ledger.specs.Book as Book
use Rattle.client_ledger.specs.Whole.{assembled}
use Rattle.client_ledger.specs.Lent.{Own, Past, answered, keeping, book_of}
use Rattle.client_ledger.proofs.Own.{own-either}
use Rattle.client_ledger.proofs.Keys.{of-key, mine-joined, mine-other}

-- a later fragment g does not contradict f
abbrev pub follows : Content → Content → Bool
follows f g = not (contradicts g f)

-- no fragment of any key contradicts an earlier one
abbrev pub Peaceful : List Entry → Type 0
Peaceful es = (k : Key) → pairs follows (mine k es) ≡ true

-- ---- entries that leave

-- a list of contents that is made from a front and a rest, as `mine` makes it
abbrev front : Bool → Content → List Content → List Content
front y c cs = cond y (c ∷ cs) cs

mine-front : (k : Key) (e : Entry) (es : List Entry) → mine k (e ∷ es) ≡ front (of k e) e.content (mine k es)
unfolding mine
mine-front k e es = refl

module _ (p : Entry → Bool) (k : Key) where
  kept-front : (e : Entry) (es : List Entry) → mine k (keep p (e ∷ es)) ≡ cond (p e) (front (of k e) e.content (mine k (keep p es))) (mine k (keep p es))
  unfolding mine keep
  kept-front e es = go (p e)
    where
      go : (x : Bool) → mine k (cond x (e ∷ keep p es) (keep p es)) ≡ cond x (front (of k e) e.content (mine k (keep p es))) (mine k (keep p es))
      go true = refl
      go false = refl

  all-kept : (q : Content → Bool) (es : List Entry) → all q (mine k es) ≡ true → all q (mine k (keep p es)) ≡ true
  unfolding all keep
  all-kept q [] h = h
  all-kept q (e ∷ es) h =
      subst (λ (l : List Content). all q l ≡ true) (sym (kept-front e es))
      (go (p e) (of k e) (all-kept q es) (subst (λ (l : List Content). all q l ≡ true) (mine-front k e es) h))
    where
      go : (x y : Bool) → (all q (mine k es) ≡ true → all q (mine k (keep p es)) ≡ true) → all q (front y e.content (mine k es)) ≡ true
          → all q (cond x (front y e.content (mine k (keep p es))) (mine k (keep p es))) ≡ true
      go true true ih h =
          let b = both_true (q e.content) (all q (mine k es)) h in ap (λ (z : Bool). z && all q (mine k (keep p es))) b.0 ∙ ih b.1
      go true false ih h = ih h
      go false true ih h = ih (both_true (q e.content) (all q (mine k es)) h).1
      go false false ih h = ih h

  pairs-kept : (q : Content → Content → Bool) (es : List Entry) → pairs q (mine k es) ≡ true → pairs q (mine k (keep p es)) ≡ true
  unfolding pairs keep
  pairs-kept q [] h = h
  pairs-kept q (e ∷ es) h =
      subst (λ (l : List Content). pairs q l ≡ true) (sym (kept-front e es))
      (go (p e) (of k e) (pairs-kept q es) (subst (λ (l : List Content). pairs q l ≡ true) (mine-front k e es) h))
    where
      go : (x y : Bool) → (pairs q (mine k es) ≡ true → pairs q (mine k (keep p es)) ≡ true) → pairs q (front y e.content (mine k es)) ≡ true
          → pairs q (cond x (front y e.content (mine k (keep p es))) (mine k (keep p es))) ≡ true
      go true true ih h =
          let b = both_true (all (q e.content) (mine k es)) (pairs q (mine k es)) h in
          ap (λ (z : Bool). z && pairs q (mine k (keep p es))) (all-kept (q e.content) es b.0) ∙ ih b.1
      go true false ih h = ih h
      go false true ih h = ih (both_true (all (q e.content) (mine k es)) (pairs q (mine k es)) h).1
      go false false ih h = ih h

kept-peaceful : (p : Entry → Bool) (es : List Entry) → Peaceful es → Peaceful (keep p es)
kept-peaceful p es h k = pairs-kept p k follows es (h k)

-- ---- an entry that joins

-- a fragment that contradicts none of its key
pub joined-pairs : (cs : List Content) (c : Content) → pairs follows cs ≡ true → any (contradicts c) cs ≡ false → pairs follows (cs ++ c ∷ []) ≡ true
joined-pairs cs c h n =
    pairs-append follows cs c
    ∙ ap (λ (z : Bool). z && all (λ y. not (contradicts c y)) cs) h
    ∙ all-not (contradicts c) cs ∙ ap not n

joined-peaceful : (e : Entry) (es : List Entry) → Peaceful es → any (contradicts e.content) (mine e.key es) ≡ false → Peaceful (es ++ e ∷ [])
joined-peaceful e es h n k = go (of k e) refl
  where
    go : (x : Bool) → of k e ≡ x → pairs follows (mine k (es ++ e ∷ [])) ≡ true
    go true q =
        ap (pairs follows) (mine-joined k e es q)
        ∙ joined-pairs (mine k es) e.content (h k)
        (subst (λ (j : Key). any (contradicts e.content) (mine j es) ≡ false) (sym (of-key k e q)) n)
    go false q = ap (pairs follows) (mine-other k e es q) ∙ h k

-- ---- every history

pub advance-peaceful : (t : ℕ) (b : Book) → Peaceful b.open_ones → Peaceful (advance t b).open_ones
unfolding advance
advance-peaceful t b h = kept-peaceful (λ e. not (outdated t b.open_ones e)) b.open_ones h

cond-peaceful : (x : Bool) (r s : Result) → Peaceful r.book.open_ones → Peaceful s.book.open_ones → Peaceful (cond x r s).book.open_ones
cond-peaceful = cond_either (λ (z : Result). Peaceful z.book.open_ones)

module _ (e : Entry) (out : List ℕ) (b : Book) (h : Peaceful b.open_ones) where
  left-peaceful : Peaceful (others e.key b.open_ones)
  unfolding others
  left-peaceful = kept-peaceful (λ x. not (of e.key x)) b.open_ones h

  finished-peaceful : is_conflict e b ≡ false → (o : Option Content) → Peaceful (finished e out b o).book.open_ones
  unfolding storing delivering is_conflict
  finished-peaceful n none = joined-peaceful e b.open_ones h n
  finished-peaceful n (some l) =
      cond-peaceful (Book.complete (end_of l) (with e b)) _ _ left-peaceful (joined-peaceful e b.open_ones h n)

  fate-peaceful : Peaceful (fate e out b).book.open_ones
  unfolding fate rejecting repeating conflicting taking
  fate-peaceful =
      cond-peaceful (no_room e b) _ _ h (cond-peaceful (is_repeat e b) _ _ h (go (is_conflict e b) refl))
    where
      go : (x : Bool) → is_conflict e b ≡ x
          → Peaceful (cond x (leaving Answer.conflict out (conflicting e.key (size e.content) b))
          (cond (is_full e b) (leaving (Answer.refused 30) out (rejecting (size e.content) b)) (taking e out b))).book.open_ones
      go true n = left-peaceful
      go false n = cond-peaceful (is_full e b) _ _ h (finished-peaceful n (last_one (with e b)))

refused-peaceful : (out : List ℕ) (b : Book) (n : Option ℕ) (r : Result) → Peaceful b.open_ones → Peaceful r.book.open_ones
    → Peaceful (refuse_or out b n r).book.open_ones
refused-peaceful out b none r h q = q
refused-peaceful out b (some n) r h q = h

call-peaceful : (c : Call) (b : Book) → Peaceful b.open_ones → Peaceful (call c b).book.open_ones
call-peaceful (fragment o out) b h =
    refused-peaceful out b (first_of (offer_tests o (length out) b)) _ h
    (fate-peaceful (entry o) out (advance o.time b) (advance-peaceful o.time b h))
call-peaceful (clock t) b h = refused-peaceful [] b (first_of (clock_tests t b)) _ h (advance-peaceful t b h)
call-peaceful bill b h = h

keeping-peaceful : (os : List Own) (b : Book) → Peaceful b.open_ones → Peaceful (keeping os b).open_ones
unfolding keeping
keeping-peaceful [] b h = h
keeping-peaceful (o ∷ os) b h =
    keeping-peaceful os (answered o b).book (own-either (λ c. Peaceful c.open_ones) o b h (call-peaceful o.call b h))

-- in the book of every history
pub peaceful : (h : Past) → Peaceful (book_of h).open_ones
unfolding book_of empty mine pairs
peaceful h = keeping-peaceful h.calls (empty h.plan) (λ k. refl)

-- with a fragment that is taken too
pub assembled-pairs : (h : Past) (o : Offer) → is_conflict (entry o) (advance o.time (book_of h)) ≡ false
    → pairs follows (assembled o (book_of h)) ≡ true
unfolding is_conflict
assembled-pairs h o n =
    let e = entry o in
    joined-pairs (mine e.key (advance o.time (book_of h)).open_ones) e.content (advance-peaceful o.time (book_of h) (peaceful h) e.key) n
