-- A fragment repeats or contradicts what an assembly holds exactly where it repeats or contradicts what the book has open: the tests look
-- at places, lengths, marks and the bytes in the share, and a fragment that fits has as many bytes there as it says.
-- Assumes nothing.
use Prim.Native.Nat.{ℕ, zero, suc, ◌+◌, ◌<◌}
use mathlib.Core.Path.{◌≡◌, refl, sym, ap, ap₂, ◌∙◌}
use mathlib.Core.Bool.{Bool, true, false, not, ◌&&◌, ◌||◌, cond, and-true, and-false, and_comm, or_comm}
use mathlib.Core.List.{List, [], ◌∷◌, map}
use lib.Dec.{eqb, ltb, leb}
use lib.ListN.{length, length-map}
use borrow.Author.Tests.{eqb-true, eqb-false, eq-eqb}
use Rattle.number_tests.proofs.Tests.{true-false, both_true}
use Rattle.number_octets.specs.Octets.{part}
use Rattle.client_record.specs.declared.Fragment.{Fragment}
use Rattle.client_record.specs.declared.Assembly.{Assembly}
use Rattle.client_record.specs.declared.Client.{Client}
use Rattle.client_record.specs.Limits.{fragment_limit, share_size}
use Rattle.client_record.specs.Lists.{same_mark, same_bytes, all, any}
use Rattle.client_record.specs.Record.{is_last, end, fits, overlaps, both_last, outruns, conflicts, covers, covered_to, held_fragments}
use Rattle.client_record.proofs.Held.{marks-last}
use Rattle.client_reassembly.specs.declared.Arrival.{Arrival}
use Rattle.client_reassembly.specs.Offer
use Rattle.client_reassembly.specs.Offer.{fragment_of, alike, base, start_of}
use Rattle.client_ledger.specs.Book
use Rattle.client_ledger.specs.Book.{Book, size, end_of, overlap, contradicts, within, complete, entry}
use Rattle.client_ledger.specs.Stands.{content_of, offer_of}
use Rattle.client_ledger.proofs.Keys.{same_bytes_lem}
use Rattle.client_ledger.proofs.Agreement.{content-size}
use Rattle.client_ledger.proofs.Home.{Home, held-length}

-- ---- tests over lists

module _ {ℓ} {A : Type ℓ} where
  any-map : {B : Type 0} (q : B → Bool) (g : A → B) (l : List A) → any q (map g l) ≡ any (λ x. q (g x)) l
  unfolding any
  any-map q g [] = refl
  any-map q g (x ∷ l) = ap (λ (b : Bool). q (g x) || b) (any-map q g l)

  -- two tests that agree on what passes a third
  pub any_same : (r q s : A → Bool) → ((x : A) → r x ≡ true → q x ≡ s x) → (l : List A) → all r l ≡ true → any q l ≡ any s l
  unfolding any all
  any_same r q s h [] e = refl
  any_same r q s h (x ∷ l) e = let t = both_true (r x) (all r l) e in ap₂ ◌||◌ (h x t.0) (any_same r q s h l t.1)

  any-and : (q : A → Bool) (b : Bool) (l : List A) → any (λ x. q x && b) l ≡ any q l && b
  unfolding any
  any-and q b [] = refl
  any-and q b (x ∷ l) = ap (λ (t : Bool). (q x && b) || t) (any-and q b l) ∙ go (q x) (any q l) b
    where
      go : (s t u : Bool) → (s && u) || (t && u) ≡ (s || t) && u
      go true true true = refl
      go true true false = refl
      go true false true = refl
      go true false false = refl
      go false t u = refl

-- ---- numbers and marks

-- a test moves behind two others, of which the second may change where the first passes
swap : (s m t u : Bool) → (m ≡ true → t ≡ u) → s && (m && t) ≡ (m && u) && s
swap true true t u h = h refl ∙ sym (and-true u)
swap true false t u h = refl
swap false true t u h = sym (and-false u)
swap false false t u h = refl

-- r counts only where the marks are those of a last one
starts : (f g : Bool) (r s : ℕ) → same_mark f g ≡ true → eqb (cond f r 0) (cond g s 0) ≡ not f || eqb (cond f r 0) s
starts true true r s e = refl
starts true false r s e = absurd (true-false (sym e))
starts false true r s e = absurd (true-false (sym e))
starts false false r s e = eq-eqb 0 0 refl

module _ {plan : ℕ} (share : List ℕ) (p : ℕ) (type_size : length share ≡ share_size plan) (h : p < plan) where
  pub same_end : (g : Fragment) → fits g ≡ true → end_of (content_of share p g) ≡ end g
  unfolding end_of end content_of
  same_end g e = ap (λ (n : ℕ). g.offset + n) (content-size share p type_size h g e)

  -- ---- coverage

  pub same-within : (i : ℕ) (g : Fragment) → fits g ≡ true → within i (content_of share p g) ≡ covers i g
  unfolding within covers content_of
  same-within i g e = ap (λ (n : ℕ). leb g.offset i && ltb i n) (same_end g e)

  pub same-any-within : (i : ℕ) (fs : List Fragment) → all fits fs ≡ true → any (within i) (map (content_of share p) fs) ≡ any (covers i) fs
  same-any-within i fs e =
      any-map (within i) (content_of share p) fs ∙ any_same fits (λ g. within i (content_of share p g)) (covers i) (same-within i) fs e

  pub same-cover : (n : ℕ) (fs : List Fragment) → all fits fs ≡ true → complete n (map (content_of share p) fs) ≡ covered_to n fs
  unfolding complete covered_to
  same-cover zero fs e = refl
  same-cover (suc n) fs e = ap₂ ◌&&◌ (same-cover n fs e) (same-any-within n fs e)

  module _ (o : Arrival) (bytes : List ℕ) where
    -- the mark that is stored
    mark-is : is_last (fragment_of o (length bytes)) ≡ o.last
    unfolding fragment_of
    mark-is = marks-last (fragment_of o (length bytes)) o.last refl

    -- ---- a repeat

    same-repeat : (g : Fragment) → fits g ≡ true
        → Book.repeats (entry (offer_of o bytes)).content (content_of share p g)
        ≡ alike (fragment_of o (length bytes)) g && same_bytes bytes (part (start_of p (fragment_of o (length bytes))) (length bytes) share)
    unfolding Book.repeats alike fragment_of entry offer_of content_of start_of size
    same-repeat g e =
        go (eqb o.offset.0 g.offset) (eqb (length bytes) g.length) refl refl
        ∙ ap
        (λ (m : Bool). (eqb o.offset.0 g.offset && (eqb (length bytes) g.length && (same_mark m (is_last g) && (not m || starting)))) && here)
        (sym mark-is)
      where
        marks : Bool
        marks = same_mark o.last (is_last g)

        left : Bool
        left = eqb (cond o.last o.option_start.0 0) (cond (is_last g) g.option_start 0)

        starting : Bool
        starting = eqb (cond o.last o.option_start.0 0) g.option_start

        right : Bool
        right = not o.last || starting

        there : Bool
        there = same_bytes bytes (part (base p + g.offset) g.length share)

        here : Bool
        here = same_bytes bytes (part (base p + o.offset.0) (length bytes) share)

        unlike : eqb (length bytes) g.length ≡ false → (t : Bool) → same_bytes bytes (part (base p + g.offset) g.length share) ≡ t → t ≡ false
        unlike n true t =
            absurd
            (eqb-false (length bytes) g.length n
            (ap length (same_bytes_lem bytes (part (base p + g.offset) g.length share) t) ∙ content-size share p type_size h g e))
        unlike n false t = refl

        go : (x y : Bool) → eqb o.offset.0 g.offset ≡ x → eqb (length bytes) g.length ≡ y
            → x && (there && (marks && left)) ≡ (x && (y && (marks && right))) && here
        go false y ex ey = refl
        go true true ex ey =
            ap₂ (λ (i n : ℕ). same_bytes bytes (part (base p + i) n share) && (marks && left))
            (sym (eqb-true o.offset.0 g.offset ex)) (sym (eqb-true (length bytes) g.length ey))
            ∙ swap here marks left right (starts o.last (is_last g) o.option_start.0 g.option_start)
        go true false ex ey = ap (λ (b : Bool). b && (marks && left)) (unlike ey there refl)

    -- ---- a conflict

    same-conflict : (g : Fragment) → fits g ≡ true
        → contradicts (entry (offer_of o bytes)).content (content_of share p g) ≡ conflicts g (fragment_of o (length bytes))
    unfolding contradicts conflicts overlap overlaps both_last outruns fragment_of entry offer_of content_of size end end_of
    same-conflict g e =
        let f : ℕ = o.offset.0 + length bytes in
        ap (λ (n : ℕ). (ltb o.offset.0 n && ltb g.offset f) || ((o.last && is_last g) || ((is_last g && ltb n f) || (o.last && ltb f n)))) (same_end g e)
        ∙ ap₂ ◌||◌ (and_comm (ltb o.offset.0 (end g)) (ltb g.offset f))
        (ap₂ ◌||◌ (and_comm o.last (is_last g)) (or_comm (is_last g && ltb (end g) f) (o.last && ltb f (end g))))
        ∙ ap
        (λ (m : Bool). (ltb g.offset f && ltb o.offset.0 (end g)) || ((is_last g && m) || ((m && ltb f (end g)) || (is_last g && ltb (end g) f))))
        (sym mark-is)

-- ---- the tests of the record and of the book

module _ (c : Client) (share : List ℕ) (b : Book) (o : Arrival) (bytes : List ℕ) (p : ℕ) (a : Assembly)
    (type_size : length share ≡ share_size c.plan) (at_home : Home c share b (entry (offer_of o bytes)) p a) where
  pub repeat-same : Offer.repeats a (fragment_of o (length bytes)) (part (start_of p (fragment_of o (length bytes))) (length bytes) share) bytes
      ≡ Book.is_repeat (entry (offer_of o bytes)) b
  unfolding Offer.repeats Book.is_repeat
  repeat-same =
      let f = fragment_of o (length bytes) in
      let e = entry (offer_of o bytes) in
      let here : Bool = same_bytes bytes (part (start_of p f) (length bytes) share) in
      sym
      (ap (any (Book.repeats e.content)) at_home.fragments ∙ any-map (Book.repeats e.content) (content_of share p) (held_fragments a)
      ∙ any_same fits (λ g. Book.repeats e.content (content_of share p g)) (λ g. alike f g && here)
      (same-repeat share p type_size at_home.inside o bytes) (held_fragments a) at_home.fitting
      ∙ any-and (alike f) here (held_fragments a))

  pub conflict-same : Offer.is_conflict a (fragment_of o (length bytes)) ≡ Book.is_conflict (entry (offer_of o bytes)) b
  unfolding Offer.is_conflict Book.is_conflict
  conflict-same =
      let f = fragment_of o (length bytes) in
      let e = entry (offer_of o bytes) in
      sym
      (ap (any (contradicts e.content)) at_home.fragments ∙ any-map (contradicts e.content) (content_of share p) (held_fragments a)
      ∙ any_same fits (λ g. contradicts e.content (content_of share p g)) (λ g. conflicts g f)
      (same-conflict share p type_size at_home.inside o bytes) (held_fragments a) at_home.fitting)

  pub full-same : Offer.is_full a ≡ Book.is_full (entry (offer_of o bytes)) b
  unfolding Offer.is_full Book.is_full
  full-same =
      ap (λ (n : ℕ). eqb n fragment_limit)
      (sym (ap length at_home.fragments ∙ length-map (held_fragments a) (content_of share p) ∙ held-length a at_home.slots at_home.count))
