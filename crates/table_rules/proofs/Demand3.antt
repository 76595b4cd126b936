-- Demand 3, with no premise: a set-up that is taken makes every record stand for the empty book; each call keeps that (`Steps`), over every
-- list (`Lists`); the book's own laws give the deliveries. The sum and isolation need no book (`Apart`).
-- Assumes nothing.
use Prim.Native.Nat.{ℕ, ◌<◌}
use mathlib.Core.Path.{◌≡◌, refl, sym, ap, ap₂, subst, ◌∙◌}
use mathlib.Core.Bool.{Bool, true, false}
use mathlib.Core.List.{List, ◌∷◌, ◌++◌}
use mathlib.Core.Option.{Option, some}
use mathlib.Core.Logic.{◌↔◌}
use native.Mathlib.Omega.{arith}
use lib.Dec.{ltb}
use lib.ListN.{length, drop}
use borrow.Author.Tests.{ltb-true, ltb-false}
use Rattle.number_octets.specs.Octets.{part}
use Rattle.client_record.specs.Lists.{pairs}
use Rattle.client_reassembly.specs.declared.Arrival.{Arrival}
use Rattle.client_reassembly.specs.Answer.{refused, delivered}
use Rattle.client_reassembly.specs.Advance.{figures}
use Rattle.client_ledger.specs.Book as Book
use Rattle.client_ledger.specs.Book.{Content, size, end_of, last_one, bytes_to, fragment}
use Rattle.client_ledger.specs.Lent.{Own, Past, since, answered, book_of}
use Rattle.client_ledger.specs.Stands.{Stands, offer_of}
use Rattle.client_ledger.specs.History.{Lent, Ask, offering, Given}
use Rattle.client_ledger.specs.Whole.{Whole, handed, Taken, assembled}
use Rattle.client_ledger.proofs.Theorem.{one-client-theorem}
use Rattle.client_ledger.proofs.Clock.{same-figures}
use Rattle.client_ledger.proofs.Apart.{follows, assembled-pairs}
use Rattle.client_ledger.proofs.Placed.{each_placed}
use Rattle.client_ledger.proofs.Delivered.{own-delivery, own-bytes, own-untouched}
use Rattle.table_rules.specs.Table.{Table, lent_of, sized, share_of, record_of, After, cleared, ask_on}
use Rattle.table_rules.specs.Events.{Event, current, resetting, final, given_by, gives, own_only}
use Rattle.table_rules.specs.Owed.{given_in, taken, history, owes, sizes_after, past_after}
use Rattle.table_rules.specs.Apart.{Sums, Same}
use Rattle.table_rules.specs.Demand3.{Terms, opening, table_after, book_after, Demand3}
use Rattle.table_rules.proofs.Facts.{unknown-is, granted-is}
use Rattle.table_rules.proofs.Apart.{cleared-sizes, cleared-formed, cleared-tested, opens, apart}
use Rattle.table_rules.proofs.Steps.{Holds, fits-too, call-answer, cleared-holds}
use Rattle.table_rules.proofs.Lists.{reset-answer, answers-all, final-holds}

-- ---- the set-up that opens the list

-- the book's side starts with the sizes and plans of that table and no call
opens-sizes : (t : Table) → sized (lent_of t) ≡ true → sizes_after (lent_of t) (resetting current) ≡ lent_of (cleared t)
opens-sizes t e = ap (λ (r : Option ℕ). taken r (lent_of t) (lent_of t)) (fits-too (lent_of t) e) ∙ sym (cleared-sizes t)

opens-past : (k : ℕ) (t : Table) → sized (lent_of t) ≡ true
    → past_after k (lent_of t) (since k (lent_of t)) (resetting current) ≡ since k (lent_of t)
opens-past k t e = ap (λ (r : Option ℕ). taken r (since k (lent_of t)) (since k (lent_of t))) (fits-too (lent_of t) e)

module _ (t : Table) (es : List Event) (terms : Terms t es) where
  start : Holds (cleared t) (λ k. book_of (since k (lent_of t)))
  start = cleared-holds t terms.fits

  table_is : table_after t es ≡ final (cleared t) es
  unfolding final
  table_is = ap (λ (u : Table). final u es) (opens t terms.fits)

  book-is : (k : ℕ) → book_after k t es ≡ book_of (history k (lent_of (cleared t)) (since k (lent_of t)) es)
  unfolding history
  book-is k = ap₂ (λ (l : Lent) (past : Past). book_of (history k l past es)) (opens-sizes t terms.fits) (opens-past k t terms.fits)

  -- after the list every record and share stands for its client's book
  pub stands-all : Holds (table_after t es) (λ k. book_after k t es)
  stands-all =
      let h = final-holds es (cleared t) (λ k. since k (lent_of t)) start terms.keeps in
      let each = h.each in
      record {
        fit = subst (λ (u : Table). sized (lent_of u) ≡ true) (sym table_is) h.fit;
        each = λ k in-it.
            subst (λ (u : Table). Stands (record_of k u) (share_of k u) (book_after k t es)) (sym table_is)
            (subst (Stands (record_of k (final (cleared t) es)) (share_of k (final (cleared t) es))) (sym (book-is k))
            (each k (subst (λ (u : Table). k < length u.records) table_is in-it)));
      }

  answers-given : (k : ℕ) → gives k t (opening es) ≡ owes k (lent_of t) (since k (lent_of t)) (opening es)
  unfolding gives owes
  answers-given k =
      ap₂ ◌∷◌ (reset-answer t)
      (ap (λ (u : Table). gives k u es) (opens t terms.fits) ∙ answers-all k es (cleared t) (λ j. since j (lent_of t)) start terms.keeps
      ∙ sym (ap₂ (λ (l : Lent) (past : Past). owes k l past es) (opens-sizes t terms.fits) (opens-past k t terms.fits)))

  -- a fragment call after the list
  module _ (k : ℕ) (o : Arrival) (bytes out : List ℕ) where
    own : Own
    own = record { lent = lent_of (table_after t es); client = k; call = fragment (offer_of o bytes) out }

    same : given_by (ask_on k (offering o bytes out) (table_after t es)) ≡ given_in (answered own (book_after k t es))
    unfolding own
    same = call-answer (table_after t es) (λ j. book_after j t es) stands-all current k (offering o bytes out) tt

    same-reply : (ask_on k (offering o bytes out) (table_after t es)).reply ≡ (answered own (book_after k t es)).reply
    same-reply = ap (λ (g : Given). g.reply) same

    same_out : (ask_on k (offering o bytes out) (table_after t es)).out ≡ (answered own (book_after k t es)).out
    same_out = ap (λ (g : Given). g.out) same

    delivered-when : (n r : ℕ)
        → ((ask_on k (offering o bytes out) (table_after t es)).reply ≡ delivered n r)
        ↔ (Taken (lent_of (table_after t es)) k (offer_of o bytes) (length out) (book_after k t es)
        × Whole (assembled (offer_of o bytes) (book_after k t es)) n r)
    unfolding own
    delivered-when n r =
        let both = own-delivery (lent_of (table_after t es)) k (offer_of o bytes) out (book_after k t es) n r in
        let there = both.0 in
        let back = both.1 in
        (λ d. there (sym same-reply ∙ d), λ w. same-reply ∙ back w)

    bytes-delivered : (n r : ℕ) → (ask_on k (offering o bytes out) (table_after t es)).reply ≡ delivered n r
        → (ask_on k (offering o bytes out) (table_after t es)).out ≡ handed (assembled (offer_of o bytes) (book_after k t es)) n out
    unfolding own
    bytes-delivered n r d =
        same_out ∙ own-bytes (lent_of (table_after t es)) k (offer_of o bytes) out (book_after k t es) n r (sym same-reply ∙ d)

    placed-each : (n r : ℕ) → (ask_on k (offering o bytes out) (table_after t es)).reply ≡ delivered n r
        → (before : List Content) (g : Content) (behind : List Content) → assembled (offer_of o bytes) (book_after k t es) ≡ before ++ g ∷ behind
        → part g.place (size g) (ask_on k (offering o bytes out) (table_after t es)).out ≡ g.bytes
    placed-each n r d before g behind same-list =
        let both = delivered-when n r in
        let there = both.0 in
        let w = there d in
        let fs : List Content = assembled (offer_of o bytes) (book_after k t es) in
        let calm : pairs follows fs ≡ true = assembled-pairs (history k (lent_of t) (since k (lent_of t)) (opening es)) (offer_of o bytes) w.0.fitting in
        let whole = w.1 in
        let out-is : (ask_on k (offering o bytes out) (table_after t es)).out ≡ bytes_to (end_of whole.last) (before ++ g ∷ behind) ++ drop n out =
        bytes-delivered n r d ∙ ap₂ (λ (m : ℕ) (l : List Content). bytes_to m l ++ drop n out) (sym whole.length_is) same-list in
        ap (part g.place (size g)) out-is
        ∙ each_placed before g behind whole.last (drop n out) (subst (λ (l : List Content). pairs follows l ≡ true) same-list calm)
        (subst (λ (l : List Content). last_one l ≡ some whole.last) same-list whole.found)

    left_alone : ((n r : ℕ) → (ask_on k (offering o bytes out) (table_after t es)).reply ≡ delivered n r → ⊥)
        → (ask_on k (offering o bytes out) (table_after t es)).out ≡ out
    unfolding own
    left_alone never =
        same_out
        ∙ own-untouched (lent_of (table_after t es)) k (offer_of o bytes) out (book_after k t es) (λ n r d. never n r (same-reply ∙ d))

  figures-same : (k : ℕ) → k < length (table_after t es).records → figures (record_of k (table_after t es)) ≡ Book.figures (book_after k t es)
  figures-same k in-it =
      let each = stands-all.each in
      same-figures (record_of k (table_after t es)) (share_of k (table_after t es)) (book_after k t es) (each k in-it)

  -- the record test has it
  sums : (k : ℕ) → k < length (table_after t es).records → Sums (record_of k (table_after t es))
  sums k in-it =
      subst (λ (u : Table). Sums (record_of k u)) (sym table_is)
      (apart.sum k (cleared t) es (cleared-formed t terms.fits) (cleared-tested k t) terms.keeps
      (subst (λ (u : Table). k < length u.records) table_is in-it))

  -- refusal 22
  never-22 : (k : ℕ) (a : Ask) → (ask_on k a (table_after t es)).reply ≡ refused 22 → ⊥
  never-22 k a = go (ltb k (length (table_after t es).records)) refl
    where
      go : (x : Bool) → ltb k (length (table_after t es).records) ≡ x → (ask_on k a (table_after t es)).reply ≡ refused 22 → ⊥
      go true e q =
          let in-it = ltb-true k (length (table_after t es).records) e in
          let each = stands-all.each in
          one-client-theorem.never_22 (record_of k (table_after t es)) (share_of k (table_after t es)) (book_after k t es) (each k in-it) a
          (sym (ap (λ (x : After). x.reply) (granted-is k a (table_after t es) stands-all.fit in-it)) ∙ q)
      go false e q =
          let out = ltb-false k (length (table_after t es).records) e in
          let p : refused 21 ≡ refused 22 = sym (ap (λ (x : After). x.reply) (unknown-is k a (table_after t es) stands-all.fit out)) ∙ q in
          let z : ◌≡◌ {A = ℕ} 21 22 = cc in
          omega arith

-- ---- isolation

isolated : (t : Table) (es es' : List Event) → Terms t es → Terms t es' → (k : ℕ) → own_only k es ≡ own_only k es'
    → (gives k t (opening es) ≡ gives k t (opening es'))
    × (record_of k (table_after t es) ≡ record_of k (table_after t es'))
    × (share_of k (table_after t es) ≡ share_of k (table_after t es'))
unfolding gives final
isolated t es es' terms terms' k same =
    let formed = cleared-formed t terms.fits in
    let self : Same k (cleared t) (cleared t) = record { count = refl; client = refl; share = refl } in
    let i = apart.isolation k (cleared t) (cleared t) es es' formed formed self terms.keeps terms'.keeps same in
    let start = opens t terms.fits in (
      ap₂ ◌∷◌ refl (ap (λ (u : Table). gives k u es) start ∙ i.0 ∙ sym (ap (λ (u : Table). gives k u es') start)),
      ap (record_of k) (table_is t es terms) ∙ i.1.client ∙ sym (ap (record_of k) (table_is t es' terms')),
      ap (share_of k) (table_is t es terms) ∙ i.1.share ∙ sym (ap (share_of k) (table_is t es' terms')),
    )

-- ---- the claim

pub demand-3 : Demand3
demand-3 = record {
  answers = answers-given;
  accounts = figures-same;
  sum = sums;
  delivery = delivered-when;
  delivered_bytes = bytes-delivered;
  placed = placed-each;
  untouched = left_alone;
  isolation = isolated;
  sound = never-22;
}
