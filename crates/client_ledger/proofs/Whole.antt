-- What the book hands out: exactly the original of a whole list of fragments, each byte at its place; otherwise out is as it was.
-- Assumes nothing.
use Prim.Native.Nat.{ℕ, zero, suc, ◌<◌}
use mathlib.Core.Path.{◌≡◌, refl, ap, ◌∙◌, subst}
use mathlib.Core.Bool.{Bool, true, false, cond}
use mathlib.Core.List.{List, [], ◌∷◌, ◌++◌}
use mathlib.Core.Option.{Option, none, some}
use native.Mathlib.Omega.{arith}
use native.Mathlib.Nat.{not-suc-le-zero}
use lib.Dec.{ltb}
use lib.ListN.{length, drop, get_or, length-append, get_or-append}
use lib.Seq.{get_or_at}
use borrow.Author.Tests.{ltb-true, ltb-false}
use Rattle.number_tests.proofs.Tests.{cond_yes, cond_either}
use Rattle.client_reassembly.specs.Answer.{stored, delivered}
use Rattle.client_ledger.specs.Book.{Content, Entry, Book, size, end_of, complete, last_one, byte_at, bytes_to, Result, storing, delivering}
use Rattle.client_ledger.specs.Book.{leaving, with, finished, taking, no_room, is_repeat, is_conflict, is_full, fate}
use Rattle.client_ledger.specs.Whole.{Whole, handed}
use Rattle.client_ledger.proofs.Taken.{book-taken}

taken-reply : (e : Entry) (out : List ℕ) (b : Book) (l : Content) → last_one (with e b) ≡ some l → complete (end_of l) (with e b) ≡ true
    → (taking e out b).reply ≡ delivered (end_of l) l.start
unfolding taking
taken-reply e out b l f c =
    ap (λ (x : Result). x.reply) (ap (finished e out b) f ∙ cond_yes (complete (end_of l) (with e b)) _ _ c)

module _ (e : Entry) (out : List ℕ) (b : Book) where
  -- a delivery is of a whole original
  module _ (n r : ℕ) where
    abbrev Owed : Result → Type 0
    Owed x = x.reply ≡ delivered n r → Whole (with e b) n r × (x.out ≡ handed (with e b) n out)

    handed_out : (l : Content) → last_one (with e b) ≡ some l → (t : Bool) → complete (end_of l) (with e b) ≡ t
        → Owed
        (cond t
        (leaving (delivered (end_of l) l.start) (bytes_to (end_of l) (with e b) ++ drop (end_of l) out) (delivering e.key (size e.content) b))
        (leaving stored out (storing e b)))
    handed_out l f true c q =
        let i : end_of l ≡ n = cc in
        let j : l.start ≡ r = cc in (
          record {
            last = l;
            found = f;
            length_is = i;
            start_is = j;
            all_there = subst (λ (m : ℕ). complete m (with e b) ≡ true) i c;
          },
          ap (λ (m : ℕ). bytes_to m (with e b) ++ drop m out) i,
        )
    handed_out l f false c q = let z : ◌≡◌ {A = ℕ} 0 1 = cc in absurd (omega arith)

    finished-whole : (o : Option Content) → last_one (with e b) ≡ o → Owed (finished e out b o)
    finished-whole none f = λ q. let z : ◌≡◌ {A = ℕ} 0 1 = cc in absurd (omega arith)
    finished-whole (some l) f = handed_out l f (complete (end_of l) (with e b)) refl

    pub delivered-whole : (fate e out b).reply ≡ delivered n r → Whole (with e b) n r × ((fate e out b).out ≡ handed (with e b) n out)
    unfolding fate taking
    delivered-whole =
        cond_either Owed (no_room e b) _ _ (λ q. let z : ◌≡◌ {A = ℕ} 0 1 = cc in absurd (omega arith))
        (cond_either Owed (is_repeat e b) _ _ (λ q. let z : ◌≡◌ {A = ℕ} 0 1 = cc in absurd (omega arith))
        (cond_either Owed (is_conflict e b) _ _ (λ q. let z : ◌≡◌ {A = ℕ} 0 1 = cc in absurd (omega arith))
        (cond_either Owed (is_full e b) _ _ (λ q. let z : ◌≡◌ {A = ℕ} 0 1 = cc in absurd (omega arith))
        (finished-whole (last_one (with e b)) refl))))

  -- a fragment that is taken and makes its original whole is delivered
  pub whole-delivered : no_room e b ≡ false → is_repeat e b ≡ false → is_conflict e b ≡ false → is_full e b ≡ false → (l : Content)
      → last_one (with e b) ≡ some l → complete (end_of l) (with e b) ≡ true → (fate e out b).reply ≡ delivered (end_of l) l.start
  whole-delivered r k q m l f c = ap (λ (x : Result). x.reply) (book-taken e out b r k q m) ∙ taken-reply e out b l f c

  -- in every other case out is as it was
  pub untouched : ((n r : ℕ) → (fate e out b).reply ≡ delivered n r → ⊥) → (fate e out b).out ≡ out
  unfolding fate taking
  untouched =
      cond_either (λ (x : Result). ((n r : ℕ) → x.reply ≡ delivered n r → ⊥) → x.out ≡ out) (no_room e b) _ _ (λ h. refl)
      (cond_either (λ (x : Result). ((n r : ℕ) → x.reply ≡ delivered n r → ⊥) → x.out ≡ out) (is_repeat e b) _ _ (λ h. refl)
      (cond_either (λ (x : Result). ((n r : ℕ) → x.reply ≡ delivered n r → ⊥) → x.out ≡ out) (is_conflict e b) _ _ (λ h. refl)
      (cond_either (λ (x : Result). ((n r : ℕ) → x.reply ≡ delivered n r → ⊥) → x.out ≡ out) (is_full e b) _ _ (λ h. refl)
      (go (last_one (with e b))))))
    where
      go : (o : Option Content) → ((n r : ℕ) → (finished e out b o).reply ≡ delivered n r → ⊥) → (finished e out b o).out ≡ out
      go none = λ h. refl
      go (some l) =
          cond_either (λ (x : Result). ((n r : ℕ) → x.reply ≡ delivered n r → ⊥) → x.out ≡ out) (complete (end_of l) (with e b)) _ _
          (λ h. absurd (h (end_of l) l.start refl)) (λ h. refl)

-- ---- each byte at its place

pub bytes-length : (n : ℕ) (fs : List Content) → length (bytes_to n fs) ≡ n
unfolding bytes_to
bytes-length zero fs = refl
bytes-length (suc n) fs = omega (arith, length-append (bytes_to n fs) (byte_at fs n ∷ []), bytes-length n fs)

pub byte-placed : (n i : ℕ) (fs : List Content) → i < n → get_or (bytes_to n fs) i 0 ≡ byte_at fs i
unfolding bytes_to
byte-placed zero i fs h = absurd (not-suc-le-zero h)
byte-placed (suc n) i fs h = go (ltb i n) refl (byte-placed n i fs)
  where
    go : (t : Bool) → ltb i n ≡ t → (i < n → get_or (bytes_to n fs) i 0 ≡ byte_at fs i) → get_or (bytes_to n fs ++ byte_at fs n ∷ []) i 0 ≡ byte_at fs i
    go true t ih =
        let k : i < n = ltb-true i n t in
        let k' : i < length (bytes_to n fs) = omega (arith, bytes-length n fs) in
        get_or-append (bytes_to n fs) (byte_at fs n ∷ []) 0 i k' ∙ ih k
    go false t ih =
        let same : n ≡ i = omega (arith, ltb-false i n t) in
        get_or_at (bytes_to n fs) (byte_at fs n) [] 0 i (bytes-length n fs ∙ same) ∙ ap (byte_at fs) same
