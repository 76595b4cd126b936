-- What is handed out has the bytes of each fragment at its place: no two of them overlap, and none ends past the last one.
-- Assumes nothing.
use Prim.Native.Nat.{ℕ, ◌+◌, ◌-◌, ◌<◌, ◌≤◌}
use mathlib.Core.Path.{◌≡◌, refl, sym, ap, subst, ◌∙◌}
use mathlib.Core.Bool.{Bool, true, false, ◌&&◌, cond}
use mathlib.Core.List.{List, [], ◌∷◌, ◌++◌}
use mathlib.Core.Option.{some}
use native.Mathlib.Omega.{arith}
use lib.Dec.{leb, ltb}
use lib.ListN.{length, drop, get_or, length-append, get_or-append}
use lib.Seq.{get_or-take, get_or-drop, ext_get_or}
use borrow.Author.Tests.{leb-true, lt-ltb, le-leb, not-true}
use Rattle.number_tests.proofs.Tests.{true-false, both_true, cond_yes}
use Rattle.number_octets.specs.Octets.{part}
use Rattle.number_octets.proofs.Laws.{length_part}
use Rattle.client_record.specs.Lists.{all, pairs}
use Rattle.client_record.specs.Ranges.{holds, meets}
use Rattle.client_record.proofs.Ranges
use Rattle.client_record.proofs.Ranges.{Agree}
use Rattle.client_record.proofs.SoundParts.{all_weaker}
use Rattle.client_ledger.specs.Book.{Content, size, end_of, overlap, contradicts, within, last_one, byte_at, bytes_to}
use Rattle.client_ledger.proofs.Apart.{follows}
use Rattle.client_ledger.proofs.Whole.{bytes-length, byte-placed}

-- ---- what it means for two fragments

agree : (f g : Content) → follows f g ≡ true → Agree (λ c. c.place) size (λ c. c.last) g f
unfolding contradicts overlap end_of meets
agree f g h = Ranges.agree (λ c. c.place) size (λ c. c.last) g f (not-true (contradicts g f) h)

-- no place is in both
pub no_place : (f g : Content) → follows f g ≡ true → (i : ℕ) → within i f ≡ true → within i g ≡ true → ⊥
unfolding within end_of holds
no_place f g h i p q = true-false (sym (Ranges.held-meets (λ c. c.place) size i g f q p) ∙ (agree f g h).apart)

-- ---- lists of fragments

-- one element of a list that passes
in_all : (q : Content → Bool) (before : List Content) (g : Content) (behind : List Content) → all q (before ++ g ∷ behind) ≡ true → q g ≡ true
unfolding all
in_all q [] g behind h = (both_true (q g) (all q behind) h).0
in_all q (f ∷ before) g behind h = in_all q before g behind (both_true (q f) (all q (before ++ g ∷ behind)) h).1

last-marked : (cs : List Content) (l : Content) → last_one cs ≡ some l → l.last ≡ true
unfolding last_one
last-marked [] l e = absurd (let z : ◌≡◌ {A = ℕ} 0 1 = cc in omega arith)
last-marked (f ∷ cs) l e = go f.last refl (last-marked cs l) e
  where
    go : (x : Bool) → f.last ≡ x → (last_one cs ≡ some l → l.last ≡ true) → cond x (some f) (last_one cs) ≡ some l → l.last ≡ true
    go true p ih e = let same : f ≡ l = cc in ap (λ (c : Content). c.last) (sym same) ∙ p
    go false p ih e = ih e

last-in : (q : Content → Bool) (cs : List Content) (l : Content) → all q cs ≡ true → last_one cs ≡ some l → q l ≡ true
unfolding last_one all
last-in q [] l h e = absurd (let z : ◌≡◌ {A = ℕ} 0 1 = cc in omega arith)
last-in q (f ∷ cs) l h e = go f.last (last-in q cs l b.1) e
  where
    b : (q f ≡ true) × (all q cs ≡ true)
    b = both_true (q f) (all q cs) h

    go : (x : Bool) → (last_one cs ≡ some l → q l ≡ true) → cond x (some f) (last_one cs) ≡ some l → q l ≡ true
    go true ih e = let same : f ≡ l = cc in ap q (sym same) ∙ b.0
    go false ih e = ih e

-- none ends past the last one
last-ends : (cs : List Content) (l : Content) → pairs follows cs ≡ true → last_one cs ≡ some l → all (λ c. leb (end_of c) (end_of l)) cs ≡ true
unfolding pairs last_one all end_of
last-ends [] l h e = refl
last-ends (f ∷ cs) l h e = go f.last refl (last-ends cs l b.1) e
  where
    b : (all (follows f) cs ≡ true) × (pairs follows cs ≡ true)
    b = both_true (all (follows f) cs) (pairs follows cs) h

    go : (x : Bool) → f.last ≡ x → (last_one cs ≡ some l → all (λ c. leb (end_of c) (end_of l)) cs ≡ true) → cond x (some f) (last_one cs) ≡ some l
        → leb (end_of f) (end_of l) && all (λ c. leb (end_of c) (end_of l)) cs ≡ true
    go true p ih e =
        let same : f ≡ l = cc in
        let rest : all (λ c. leb (end_of c) (end_of f)) cs ≡ true =
        all_weaker (follows f) (λ c. leb (end_of c) (end_of f)) (λ c q. le-leb (end_of c) (end_of f) ((agree f c q).first_ends p)) cs b.0 in
        subst (λ (m : Content). leb (end_of f) (end_of m) && all (λ c. leb (end_of c) (end_of m)) cs ≡ true) same
        (ap (λ (z : Bool). z && all (λ c. leb (end_of c) (end_of f)) cs) (le-leb (end_of f) (end_of f) (omega arith)) ∙ rest)
    go false p ih e =
        ap (λ (z : Bool). z && all (λ c. leb (end_of c) (end_of l)) cs)
        (le-leb (end_of f) (end_of l) ((agree f l (last-in (follows f) cs l b.0 e)).second-ends (last-marked cs l e)))
        ∙ ih e

-- the byte at a place of g is g's
byte_of : (before : List Content) (g : Content) (behind : List Content) → pairs follows (before ++ g ∷ behind) ≡ true → (i : ℕ) → within i g ≡ true
    → byte_at (before ++ g ∷ behind) i ≡ get_or g.bytes (i - g.place) 0
unfolding byte_at pairs
byte_of [] g behind h i w = cond_yes (within i g) _ _ w
byte_of (f ∷ before) g behind h i w = go (within i f) refl (byte_of before g behind b.1 i w)
  where
    b : (all (follows f) (before ++ g ∷ behind) ≡ true) × (pairs follows (before ++ g ∷ behind) ≡ true)
    b = both_true (all (follows f) (before ++ g ∷ behind)) (pairs follows (before ++ g ∷ behind)) h

    go : (x : Bool) → within i f ≡ x → byte_at (before ++ g ∷ behind) i ≡ get_or g.bytes (i - g.place) 0
        → cond x (get_or f.bytes (i - f.place) 0) (byte_at (before ++ g ∷ behind) i) ≡ get_or g.bytes (i - g.place) 0
    go true p ih = absurd (no_place f g (in_all (follows f) before g behind b.0) i p w)
    go false p ih = ih

-- what is handed out has each fragment's bytes at its place
pub each_placed : (before : List Content) (g : Content) (behind : List Content) (l : Content) (rest : List ℕ)
    → pairs follows (before ++ g ∷ behind) ≡ true → last_one (before ++ g ∷ behind) ≡ some l
    → part g.place (size g) (bytes_to (end_of l) (before ++ g ∷ behind) ++ rest) ≡ g.bytes
unfolding size end_of within
each_placed before g behind l rest h e = ext_get_or 0 _ _ lengths bytes
  where
    ends : g.place + length g.bytes ≤ end_of l
    ends = leb-true (end_of g) (end_of l) (in_all (λ c. leb (end_of c) (end_of l)) before g behind (last-ends (before ++ g ∷ behind) l h e))

    whole : length (bytes_to (end_of l) (before ++ g ∷ behind)) ≡ end_of l
    whole = bytes-length (end_of l) (before ++ g ∷ behind)

    lengths : length (part g.place (length g.bytes) (bytes_to (end_of l) (before ++ g ∷ behind) ++ rest)) ≡ length g.bytes
    lengths =
        length_part g.place (length g.bytes) (bytes_to (end_of l) (before ++ g ∷ behind) ++ rest)
        (omega (arith, ends, whole, length-append (bytes_to (end_of l) (before ++ g ∷ behind)) rest))

    bytes : (i : ℕ) → i < length (part g.place (length g.bytes) (bytes_to (end_of l) (before ++ g ∷ behind) ++ rest))
        → get_or (part g.place (length g.bytes) (bytes_to (end_of l) (before ++ g ∷ behind) ++ rest)) i 0 ≡ get_or g.bytes i 0
    bytes i less =
        let low : i < length g.bytes = subst (λ (n : ℕ). i < n) lengths less in
        let within_all : g.place + i < end_of l = omega (arith, ends) in
        let there : g.place + i < length (bytes_to (end_of l) (before ++ g ∷ behind)) = omega (arith, whole) in
        let at : leb g.place (g.place + i) ≡ true = le-leb g.place (g.place + i) (omega arith) in
        let below : ltb (g.place + i) (g.place + length g.bytes) ≡ true = lt-ltb (g.place + i) (g.place + length g.bytes) (omega arith) in
        let back : g.place + i - g.place ≡ i = omega arith in
        get_or-take (length g.bytes) (drop g.place (bytes_to (end_of l) (before ++ g ∷ behind) ++ rest)) i 0 low
        ∙ get_or-drop g.place (bytes_to (end_of l) (before ++ g ∷ behind) ++ rest) i 0
        ∙ get_or-append (bytes_to (end_of l) (before ++ g ∷ behind)) rest 0 (g.place + i) there
        ∙ byte-placed (end_of l) (g.place + i) (before ++ g ∷ behind) within_all
        ∙ byte_of before g behind h (g.place + i) (ap (λ (z : Bool). z && ltb (g.place + i) (g.place + length g.bytes)) at ∙ below)
        ∙ ap (λ (j : ℕ). get_or g.bytes j 0) back
