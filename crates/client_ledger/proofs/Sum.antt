-- Every byte offered is in one figure, after every list of calls: a call adds the fragment's bytes once, and the bytes that leave the
-- open fragments go to another figure.
-- Assumes nothing.
use Prim.Native.Nat.{ℕ, ◌+◌}
use mathlib.Core.Path.{◌≡◌, refl}
use mathlib.Core.Bool.{Bool, true, false, not, cond}
use mathlib.Core.List.{List, [], ◌∷◌, ◌++◌}
use mathlib.Core.Option.{Option, none, some}
use native.Mathlib.Omega.{arith}
use lib.ListN.{length}
use Rattle.number_tests.proofs.Tests.{cond_either}
use Rattle.number_tests.specs.Tests.{first_of}
use Rattle.client_record.specs.Lists.{sum}
use Rattle.client_record.proofs.Lists.{sum-append}
use Rattle.client_ledger.specs.Book.{
  Key,
  Content,
  Entry,
  Book,
  empty,
  size,
  total,
  held_bytes,
  held,
  of,
  mine,
  keep,
  others,
  outdated,
  advance,
  complete,
  end_of,
  last_one,
  Result,
  rejecting,
  repeating,
  conflicting,
  storing,
  delivering,
  with,
  finished,
  taking,
  no_room,
  is_repeat,
  is_conflict,
  is_full,
  fate,
  Call,
  fragment,
  clock,
  bill,
  entry,
  offer_tests,
  clock_tests,
  refuse_or,
  call,
  after,
  Balanced,
}

-- the bytes of the entries that pass and of those that do not
pub keep-bytes : (p : Entry → Bool) (es : List Entry) → held_bytes es ≡ held_bytes (keep p es) + held_bytes (keep (λ e. not (p e)) es)
unfolding keep held_bytes sum
keep-bytes p [] = refl
keep-bytes p (e ∷ es) = go (p e) (keep-bytes p es)
  where
    go : (b : Bool) → held_bytes es ≡ held_bytes (keep p es) + held_bytes (keep (λ x. not (p x)) es)
        → size e.content + held_bytes es
        ≡ held_bytes (cond b (e ∷ keep p es) (keep p es)) + held_bytes (cond (not b) (e ∷ keep (λ x. not (p x)) es) (keep (λ x. not (p x)) es))
    go true h = omega arith
    go false h = omega arith

pub append-bytes : (es : List Entry) (e : Entry) → held_bytes (es ++ e ∷ []) ≡ held_bytes es + size e.content
unfolding held_bytes sum
append-bytes es e = omega (arith, sum-append (λ (x : Entry). size x.content) es (e ∷ []))

-- the bytes of a key's fragments and of the others
pub mine-bytes : (k : Key) (es : List Entry) → held_bytes es ≡ total (mine k es) + held_bytes (others k es)
unfolding mine others keep held_bytes total sum
mine-bytes k [] = refl
mine-bytes k (e ∷ es) = go (of k e) (mine-bytes k es)
  where
    go : (b : Bool) → held_bytes es ≡ total (mine k es) + held_bytes (others k es)
        → size e.content + held_bytes es
        ≡ total (cond b (e.content ∷ mine k es) (mine k es)) + held_bytes (cond (not b) (e ∷ others k es) (others k es))
    go true h = omega arith
    go false h = omega arith

advance-balanced : (t : ℕ) (b : Book) → Balanced b → Balanced (advance t b)
unfolding Balanced advance held
advance-balanced t b h = omega (arith, keep-bytes (outdated t b.open_ones) b.open_ones)

module _ (b : Book) (h : Balanced b) where
  rejecting-balanced : (n : ℕ) → Balanced (rejecting n b)
  unfolding Balanced rejecting held
  rejecting-balanced n = omega arith

  repeating-balanced : (n : ℕ) → Balanced (repeating n b)
  unfolding Balanced repeating held
  repeating-balanced n = omega arith

  conflicting-balanced : (k : Key) (n : ℕ) → Balanced (conflicting k n b)
  unfolding Balanced conflicting held
  conflicting-balanced k n = omega (arith, mine-bytes k b.open_ones)

  delivering-balanced : (k : Key) (n : ℕ) → Balanced (delivering k n b)
  unfolding Balanced delivering held
  delivering-balanced k n = omega (arith, mine-bytes k b.open_ones)

  storing-balanced : (e : Entry) → Balanced (storing e b)
  unfolding Balanced storing held
  storing-balanced e = omega (arith, append-bytes b.open_ones e)

  finished-balanced : (e : Entry) (out : List ℕ) (o : Option Content) → Balanced (finished e out b o).book
  finished-balanced e out none = storing-balanced e
  finished-balanced e out (some l) =
      cond_either (λ (r : Result). Balanced r.book) (complete (end_of l) (with e b)) _ _ (delivering-balanced e.key (size e.content)) (storing-balanced e)

  fate-balanced : (e : Entry) (out : List ℕ) → Balanced (fate e out b).book
  unfolding fate taking
  fate-balanced e out =
      let n = size e.content in
      cond_either (λ (r : Result). Balanced r.book) (no_room e b) _ _ (rejecting-balanced n)
      (cond_either (λ (r : Result). Balanced r.book) (is_repeat e b) _ _ (repeating-balanced n)
      (cond_either (λ (r : Result). Balanced r.book) (is_conflict e b) _ _ (conflicting-balanced e.key n)
      (cond_either (λ (r : Result). Balanced r.book) (is_full e b) _ _ (rejecting-balanced n) (finished-balanced e out (last_one (with e b))))))

refuse-balanced : (out : List ℕ) (b : Book) (o : Option ℕ) (r : Result) → Balanced b → Balanced r.book → Balanced (refuse_or out b o r).book
refuse-balanced out b none r h k = k
refuse-balanced out b (some n) r h k = h

-- the sum law, for one call and for a history
pub call-balanced : (c : Call) (b : Book) → Balanced b → Balanced (call c b).book
call-balanced (fragment o out) b h =
    refuse-balanced out b (first_of (offer_tests o (length out) b)) _ h (fate-balanced (advance o.time b) (advance-balanced o.time b h) (entry o) out)
call-balanced (clock t) b h = refuse-balanced [] b (first_of (clock_tests t b)) _ h (advance-balanced t b h)
call-balanced bill b h = h

pub after-balanced : (cs : List Call) (b : Book) → Balanced b → Balanced (after cs b)
unfolding after
after-balanced [] b h = h
after-balanced (c ∷ cs) b h = after-balanced cs (call c b).book (call-balanced c b h)

pub empty-balanced : (plan : ℕ) → Balanced (empty plan)
unfolding Balanced empty held held_bytes sum
empty-balanced plan = refl

-- every history of a client
pub sum-law : (plan : ℕ) (cs : List Call) → Balanced (after cs (empty plan))
sum-law plan cs = after-balanced cs (empty plan) (empty-balanced plan)
