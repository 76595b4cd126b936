-- An own fragment call of a client is delivered exactly when it is taken and its original is then whole; then the original stands at the front of
-- out, and otherwise out is as it was.
-- Assumes nothing.
use Prim.Native.Nat.{ℕ}
use mathlib.Core.Path.{◌≡◌, refl, sym, ap, subst, ◌∙◌}
use mathlib.Core.Bool.{Bool, true, false, cond}
use mathlib.Core.List.{List}
use mathlib.Core.Option.{Option, none, some}
use mathlib.Core.Logic.{◌↔◌}
use native.Mathlib.Omega.{arith}
use lib.ListN.{length}
use Rattle.number_tests.specs.Tests.{first_of}
use Rattle.client_reassembly.specs.Answer.{refused, repeated, conflict, delivered}
use Rattle.client_ledger.specs.Book.{Entry, Book, Result, Offer, leaving, size, advance, rejecting, repeating, conflicting, taking, no_room, is_repeat}
use Rattle.client_ledger.specs.Book.{is_conflict, is_full, fate, fragment, entry, offer_tests, refuse_or, call}
use Rattle.client_ledger.specs.Book as Book
use Rattle.client_ledger.specs.History.{Lent}
use Rattle.client_ledger.specs.Lent.{lent_tests, answered}
use Rattle.client_ledger.specs.Whole.{Whole, handed, Taken, assembled}
use Rattle.client_ledger.proofs.Whole.{delivered-whole, whole-delivered, untouched}

-- a delivery has passed the four tests
record Passes (e : Entry) (b : Book) : Type 0 where
  room : no_room e b ≡ false
  fresh : is_repeat e b ≡ false
  fitting : is_conflict e b ≡ false
  slot : is_full e b ≡ false

module _ (e : Entry) (out : List ℕ) (b : Book) (n r : ℕ) where
  passes : (fate e out b).reply ≡ delivered n r → Passes e b
  unfolding fate
  passes = go (no_room e b) (is_repeat e b) (is_conflict e b) (is_full e b) refl refl refl refl
    where
      go : (w x y z : Bool) → no_room e b ≡ w → is_repeat e b ≡ x → is_conflict e b ≡ y → is_full e b ≡ z
          → (cond w (leaving (refused 29) out (rejecting (size e.content) b))
          (cond x (leaving repeated out (repeating (size e.content) b))
          (cond y (leaving conflict out (conflicting e.key (size e.content) b))
          (cond z (leaving (refused 30) out (rejecting (size e.content) b)) (taking e out b))))).reply ≡ delivered n r
          → Passes e b
      go true x y z p q s t d = absurd (let w : ◌≡◌ {A = ℕ} 0 1 = cc in omega arith)
      go false true y z p q s t d = absurd (let w : ◌≡◌ {A = ℕ} 0 1 = cc in omega arith)
      go false false true z p q s t d = absurd (let w : ◌≡◌ {A = ℕ} 0 1 = cc in omega arith)
      go false false false true p q s t d = absurd (let w : ◌≡◌ {A = ℕ} 0 1 = cc in omega arith)
      go false false false false p q s t d = record { room = p; fresh = q; fitting = s; slot = t }

module _ (l : Lent) (k : ℕ) (o : Offer) (out : List ℕ) (b : Book) where
  -- after 20 to 28
  admitted : first_of (lent_tests l k) ≡ none → first_of (offer_tests o (length out) b) ≡ none
      → answered (record { lent = l; client = k; call = fragment o out }) b ≡ fate (entry o) out (advance o.time b)
  unfolding answered
  admitted p q =
      ap (λ (x : Option ℕ). refuse_or out b x (call (fragment o out) b)) p
      ∙ ap (λ (x : Option ℕ). refuse_or out b x (fate (entry o) out (advance o.time b))) q

  -- a property of every result: of refusals, and of what 20 to 28 let pass
  by_tests : (P : Result → Type 0) → ((m : ℕ) → P (leaving (refused m) out b))
      → (first_of (lent_tests l k) ≡ none → first_of (offer_tests o (length out) b) ≡ none → P (fate (entry o) out (advance o.time b)))
      → P (answered (record { lent = l; client = k; call = fragment o out }) b)
  unfolding answered
  by_tests P f g = go (first_of (lent_tests l k)) (first_of (offer_tests o (length out) b)) refl refl
    where
      go : (x y : Option ℕ) → first_of (lent_tests l k) ≡ x → first_of (offer_tests o (length out) b) ≡ y
          → P (refuse_or out b x (refuse_or out b y (fate (entry o) out (advance o.time b))))
      go (some m) y p q = f m
      go none (some m) p q = f m
      go none none p q = g p q

  module _ (n r : ℕ) where
    delivery : (answered (record { lent = l; client = k; call = fragment o out }) b).reply ≡ delivered n r
        → Taken l k o (length out) b
        × (Whole (assembled o b) n r × ((answered (record { lent = l; client = k; call = fragment o out }) b).out ≡ handed (assembled o b) n out))
    delivery =
        by_tests
        (λ x. x.reply ≡ delivered n r → Taken l k o (length out) b × (Whole (assembled o b) n r × (x.out ≡ handed (assembled o b) n out)))
        (λ m d. absurd (let w : ◌≡◌ {A = ℕ} 0 1 = cc in omega arith))
        (λ p q d.
        let t = passes (entry o) out (advance o.time b) n r d in (
          record { admitted = p; passed = q; room = t.room; fresh = t.fresh; fitting = t.fitting; slot = t.slot },
          delivered-whole (entry o) out (advance o.time b) n r d,
        ))

    whole_out : Taken l k o (length out) b → Whole (assembled o b) n r
        → (answered (record { lent = l; client = k; call = fragment o out }) b).reply ≡ delivered n r
    whole_out t w =
        ap (λ (x : Result). x.reply) (admitted t.admitted t.passed)
        ∙ whole-delivered (entry o) out (advance o.time b) t.room t.fresh t.fitting t.slot w.last w.found
        (subst (λ (m : ℕ). Book.complete m (assembled o b) ≡ true) (sym w.length_is) w.all_there)
        ∙ (λ i. delivered (w.length_is i) (w.start_is i))

    -- taken and whole, hence delivered, and the other way round
    pub own-delivery : ((answered (record { lent = l; client = k; call = fragment o out }) b).reply ≡ delivered n r)
        ↔ (Taken l k o (length out) b × Whole (assembled o b) n r)
    own-delivery = (λ d. let w = delivery d in (w.0, w.1.0), λ x. whole_out x.0 x.1)

    -- delivered, hence its bytes are in front of out
    pub own-bytes : (answered (record { lent = l; client = k; call = fragment o out }) b).reply ≡ delivered n r
        → (answered (record { lent = l; client = k; call = fragment o out }) b).out ≡ handed (assembled o b) n out
    own-bytes d = (delivery d).1.1

  pub own-untouched : ((n r : ℕ) → (answered (record { lent = l; client = k; call = fragment o out }) b).reply ≡ delivered n r → ⊥)
      → (answered (record { lent = l; client = k; call = fragment o out }) b).out ≡ out
  own-untouched =
      by_tests (λ x. ((n r : ℕ) → x.reply ≡ delivered n r → ⊥) → x.out ≡ out) (λ m h. refl)
      (λ p q. untouched (entry o) out (advance o.time b))
