-- A fresh record of a plan stands for that plan's empty book, and the account and the clock do what the book does: what is old in the
-- record is what is outdated in the book, because an assembly was opened when its first fragment came.
-- Assumes nothing.
use Prim.Native.Nat.{ℕ, zero, suc, ◌+◌, ◌<◌, ◌≤◌}
use mathlib.Core.Path.{◌≡◌, refl, sym, ap, ◌∙◌, subst}
use mathlib.Core.Bool.{Bool, true, false, not, ◌&&◌, cond}
use mathlib.Core.List.{List, [], ◌∷◌, map}
use mathlib.Core.Option.{none, some}
use native.Mathlib.Omega.{arith}
use lib.Dec.{leb, ltb}
use lib.ListN.{length, get_or, replicate, length-map, get_or-map}
use borrow.Author.Tests.{ltb-true, ltb-false}
use Rattle.number_tests.proofs.Tests.{true-false, both_true}
use Rattle.number_tests.specs.Tests.{first_of}
use Rattle.client_record.specs.declared.Assembly.{Assembly}
use Rattle.client_record.specs.declared.Client.{Client}
use Rattle.client_record.specs.Limits.{assembly_limit, lifetime, share_size}
use Rattle.client_record.specs.Lists.{any, sum}
use Rattle.client_record.specs.Record.{fresh_assembly, fresh_client, live, sound_record}
use Rattle.client_record.proofs.SoundParts.{sound-parts}
use Rattle.client_reassembly.specs.Answer.{advanced, account}
use Rattle.client_reassembly.specs.Advance
use Rattle.client_reassembly.specs.Advance.{old, expire, elapse, CallResult, advance_on, account_on}
use Rattle.client_reassembly.specs.Offer.{first_index}
use Rattle.client_reassembly.proofs.Expiry.{gone}
use Rattle.client_reassembly.proofs.Kept.{any_at, elapse-sound}
use Rattle.client_reassembly.proofs.Lasting.{elapse-shaped as elapse-lists, fresh-client-sound, fresh-client-shaped}
use Rattle.client_reassembly.proofs.Places.{any-first, first_passes}
use Rattle.client_ledger.specs.Book
use Rattle.client_ledger.specs.Book.{
  Key,
  Entry,
  Book,
  empty,
  held_bytes,
  held,
  same_key,
  of,
  mine,
  keep,
  opened_at,
  due,
  outdated,
  advance,
  Result,
  clock,
  bill,
  clock_tests,
  figures,
  call,
}
use Rattle.client_ledger.specs.Stands.{key_of, owns, at, Shows, Agrees, Shaped, Stands, Follows}
use Rattle.client_ledger.proofs.Keys.{same_key_lem, of-key, mine-kept, opened-kept, mine-dropped, mine-none}
use Rattle.client_ledger.proofs.Sum.{keep-bytes}
use Rattle.client_ledger.proofs.Agreement.{held-sum}

-- held is the live fragments' bytes, in the record and in the book
pub held-stands : (c : Client) (share : List ℕ) (es : List Entry) → Shaped c share → sound_record c ≡ true → Agrees share es c.assemblies
    → c.held ≡ held_bytes es
held-stands c share es shape sound agree =
    let s = sound-parts c sound in
    s.held ∙ sym (held-sum c.plan c.time share es c.assemblies shape.size s.planned s.each s.keys agree)

-- ---- a fresh record

get_d-alike {ℓ} : {A : Type ℓ} (n : ℕ) (x : A) (i : ℕ) → get_or (replicate n x) i x ≡ x
get_d-alike zero x i = refl
get_d-alike (suc n) x zero = refl
get_d-alike (suc n) x (suc i) = get_d-alike n x i

pub fresh-not-live : live fresh_assembly ≡ false
unfolding live fresh_assembly
fresh-not-live = refl

fresh-agrees : (plan : ℕ) (share : List ℕ) → Agrees share [] (fresh_client plan).assemblies
unfolding fresh_client mine
fresh-agrees plan share = record {
  each = λ p h l. absurd (true-false (sym l ∙ ap live (get_d-alike assembly_limit fresh_assembly p) ∙ fresh-not-live));
  known = λ k e. refl;
}

fresh-shaped : (plan : ℕ) (share : List ℕ) → plan ≤ assembly_limit → length share ≡ share_size plan → Shaped (fresh_client plan) share
unfolding fresh_client
fresh-shaped plan share le h = record { lists = fresh-client-shaped plan le; size = h }

pub stands-fresh : (plan : ℕ) (share : List ℕ) → plan ≤ assembly_limit → length share ≡ share_size plan
    → Stands (fresh_client plan) share (empty plan)
unfolding fresh_client empty held held_bytes sum
stands-fresh plan share le h = record {
  shape = fresh-shaped plan share le h;
  sound = fresh-client-sound plan;
  plan = refl;
  time = refl;
  offered = refl;
  held_bytes = refl;
  delivered = refl;
  expired = refl;
  conflicted = refl;
  repeated = refl;
  rejected = refl;
  agrees = fresh-agrees plan share;
}

-- ---- the account

module _ (c : Client) (share : List ℕ) (b : Book) (st : Stands c share b) where
  pub same-figures : Advance.figures c ≡ figures b
  unfolding Advance.figures figures
  same-figures =
      λ i.
      st.offered i
      ∷ st.held_bytes i ∷ st.delivered i ∷ st.expired i ∷ st.conflicted i ∷ st.repeated i ∷ st.rejected i ∷ []

  account-is : account_on c ≡ record { client = c; reply = account (Advance.figures c) }
  unfolding account_on first_of
  account-is = ap (λ (t : Bool). Advance.refuse_or c (first_of ((not t, 22) ∷ [])) (record { client = c; reply = account (Advance.figures c) })) st.sound

  pub account-stands : Follows (account_on c) share (call bill b)
  account-stands =
      subst (λ (t : CallResult). Follows t share (call bill b)) (sym account-is) (record { reply = ap account same-figures; stands = st })

-- ---- the clock

-- the assembly is not live, or it is and its age is looked at
old-live : (t : ℕ) (a : Assembly) → live a ≡ true → old t a ≡ leb (a.opened + lifetime) t
unfolding old
old-live t a l = ap (λ (b : Bool). b && leb (a.opened + lifetime) t) l

module _ (t : ℕ) (share : List ℕ) (es : List Entry) (xs : List Assembly) (agree : Agrees share es xs) where
  -- a live assembly is old exactly where its key's entries are outdated
  same-age : (p : ℕ) → p < length xs → live (at xs p) ≡ true → (e : Entry) → of (key_of (at xs p)) e ≡ true → outdated t es e ≡ old t (at xs p)
  unfolding outdated due
  same-age p h l e m =
      let opened : opened_at e.key es ≡ (at xs p).opened =
      ap (λ (k : Key). opened_at k es) (sym (of-key (key_of (at xs p)) e m)) ∙ (agree.each p h l).opened in
      ap (λ (n : ℕ). leb (n + lifetime) t) opened ∙ sym (old-live t (at xs p) l)

  expire-at : (p : ℕ) → at (map (expire t) xs) p ≡ expire t (at xs p)
  unfolding expire
  expire-at p = ap (get_or (map (expire t) xs) p) (sym fresh-stays) ∙ get_or-map (expire t) xs p fresh_assembly
    where
      fresh-stays : expire t fresh_assembly ≡ fresh_assembly
      fresh-stays = go (old t fresh_assembly)
        where
          go : (b : Bool) → cond b fresh_assembly fresh_assembly ≡ fresh_assembly
          go true = refl
          go false = refl

  young : (p : ℕ) → p < length xs → live (at xs p) ≡ true → old t (at xs p) ≡ false
      → Shows share (keep (λ e. not (outdated t es e)) es) p (at xs p)
  young p h l o =
      let stays : (e : Entry) → of (key_of (at xs p)) e ≡ true → not (outdated t es e) ≡ true = λ e m. ap not (same-age p h l e m ∙ o) in
      record {
        fragments = mine-kept (key_of (at xs p)) (λ e. not (outdated t es e)) stays es ∙ (agree.each p h l).fragments;
        opened = opened-kept (key_of (at xs p)) (λ e. not (outdated t es e)) stays es ∙ (agree.each p h l).opened;
      }

  each-kept : (p : ℕ) → p < length (map (expire t) xs) → live (at (map (expire t) xs) p) ≡ true
      → Shows share (keep (λ e. not (outdated t es e)) es) p (at (map (expire t) xs) p)
  unfolding expire
  each-kept p h l =
      let k : p < length xs = omega (arith, length-map xs (expire t)) in
      subst (Shows share (keep (λ e. not (outdated t es e)) es) p) (sym (expire-at p))
      (go k (old t (at xs p)) refl (sym (ap live (expire-at p)) ∙ l))
    where
      go : p < length xs → (b : Bool) → old t (at xs p) ≡ b → live (cond b fresh_assembly (at xs p)) ≡ true
          → Shows share (keep (λ e. not (outdated t es e)) es) p (cond b fresh_assembly (at xs p))
      go k true o n = absurd (true-false (sym n ∙ fresh-not-live))
      go k false o n = young p k n o

  -- the key's assembly has expired
  old-gone : (k : Key) (p : ℕ) → p < length xs → owns k (at xs p) ≡ true → owns k (expire t (at xs p)) ≡ false
      → mine k (keep (λ e. not (outdated t es e)) es) ≡ []
  unfolding owns expire
  old-gone k p h m n = go (old t (at xs p)) refl n
    where
      l : live (at xs p) ≡ true
      l = (both_true (live (at xs p)) (same_key k (key_of (at xs p))) m).0

      e : k ≡ key_of (at xs p)
      e = same_key_lem k (key_of (at xs p)) (both_true (live (at xs p)) (same_key k (key_of (at xs p))) m).1

      go : (b : Bool) → old t (at xs p) ≡ b → live (cond b fresh_assembly (at xs p)) && same_key k (key_of (cond b fresh_assembly (at xs p))) ≡ false
          → mine k (keep (λ e. not (outdated t es e)) es) ≡ []
      go true o q =
          mine-dropped k (λ e. not (outdated t es e))
          (λ x i. ap not (same-age p h l x (subst (λ (j : Key). of j x ≡ true) e i) ∙ o)) es
      go false o q = absurd (true-false (sym m ∙ q))

  known_kept : (k : Key) → any (owns k) (map (expire t) xs) ≡ false → mine k (keep (λ e. not (outdated t es e)) es) ≡ []
  known_kept k n = go (any (owns k) xs) refl
    where
      go : (b : Bool) → any (owns k) xs ≡ b → mine k (keep (λ e. not (outdated t es e)) es) ≡ []
      go true a =
          let p = first_index (owns k) xs in
          let h : p < length xs = ltb-true _ _ (sym (any-first (owns k) xs) ∙ a) in
          let h' : p < length (map (expire t) xs) = omega (arith, length-map xs (expire t)) in
          old-gone k p h (first_passes (owns k) xs fresh_assembly h)
          (sym (ap (owns k) (expire-at p)) ∙ any_at (owns k) (map (expire t) xs) p fresh_assembly h' n)
      go false a = mine-none k (λ e. not (outdated t es e)) es (agree.known k a)

  pub agrees-kept : Agrees share (keep (λ e. not (outdated t es e)) es) (map (expire t) xs)
  agrees-kept = record { each = each-kept; known = known_kept }

elapse-shaped : (t : ℕ) (c : Client) (share : List ℕ) → Shaped c share → Shaped (elapse t c) share
unfolding elapse
elapse-shaped t c share s = record { lists = elapse-lists t c s.lists; size = s.size }

module _ (t : ℕ) (c : Client) (share : List ℕ) (b : Book) (st : Stands c share b) where
  elapse-agrees : Agrees share (advance t b).open_ones (elapse t c).assemblies
  unfolding elapse advance
  elapse-agrees = agrees-kept t share b.open_ones c.assemblies st.agrees

  elapse-expired : c.time ≤ t → (elapse t c).held ≡ held (advance t b) → (elapse t c).expired ≡ (advance t b).expired
  unfolding elapse advance held
  elapse-expired le same =
      omega (arith, keep-bytes (outdated t b.open_ones) b.open_ones, st.held_bytes, st.expired, (gone t c st.sound).held, same)

  elapse-same : c.time ≤ t → sound_record (elapse t c) ≡ true → (elapse t c).held ≡ held (advance t b)
      → (elapse t c).expired ≡ (advance t b).expired → Stands (elapse t c) share (advance t b)
  unfolding elapse advance
  elapse-same le sound same expired = record {
    shape = elapse-shaped t c share st.shape;
    sound = sound;
    plan = st.plan;
    time = refl;
    offered = st.offered;
    held_bytes = same;
    delivered = st.delivered;
    expired = expired;
    conflicted = st.conflicted;
    repeated = st.repeated;
    rejected = st.rejected;
    agrees = elapse-agrees;
  }

  -- the record after the time is set stands for the book after the time is set
  pub elapse-stands : c.time ≤ t → Stands (elapse t c) share (advance t b)
  unfolding held
  elapse-stands le =
      let sound = elapse-sound t c st.sound le in
      let same : (elapse t c).held ≡ held (advance t b) =
      held-stands (elapse t c) share (advance t b).open_ones (elapse-shaped t c share st.shape) sound elapse-agrees in
      elapse-same le sound same (elapse-expired le same)

  advance-is : advance_on c t
      ≡ Advance.refuse_or c (cond (ltb t c.time) (some 27) none) (record { client = elapse t c; reply = advanced })
  unfolding advance_on first_of
  advance-is =
      ap (λ (s : Bool). Advance.refuse_or c (first_of ((not s, 22) ∷ (ltb t c.time, 27) ∷ [])) (record { client = elapse t c; reply = advanced })) st.sound

  book-is : call (clock t) b ≡ Book.refuse_or [] b (cond (ltb t c.time) (some 27) none) (record { reply = advanced; out = []; book = advance t b })
  unfolding first_of clock_tests
  book-is = ap (λ (m : ℕ). Book.refuse_or [] b (cond (ltb t m) (some 27) none) (record { reply = advanced; out = []; book = advance t b })) (sym st.time)

  pub advance-stands : Follows (advance_on c t) share (call (clock t) b)
  advance-stands =
      subst (λ (x : CallResult). Follows x share (call (clock t) b)) (sym advance-is)
      (subst
      (λ (r : Result).
      Follows (Advance.refuse_or c (cond (ltb t c.time) (some 27) none) (record { client = elapse t c; reply = advanced })) share r)
      (sym book-is) (go (ltb t c.time) refl))
    where
      go : (x : Bool) → ltb t c.time ≡ x
          → Follows (Advance.refuse_or c (cond x (some 27) none) (record { client = elapse t c; reply = advanced })) share
          (Book.refuse_or [] b (cond x (some 27) none) (record { reply = advanced; out = []; book = advance t b }))
      go true e = record { reply = refl; stands = st }
      go false e = record { reply = refl; stands = elapse-stands (ltb-false t c.time e) }
