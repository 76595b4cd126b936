-- The record test passes again after every call: what the one-client theorem rests on.
-- Assumes nothing.
use mathlib.Core.Path.{◌≡◌, refl, sym, ap, ap₂, ◌∙◌}
use mathlib.Core.Bool.{Bool, true, false, not, ◌&&◌, cond, and-false}
use mathlib.Core.List.{List, [], ◌∷◌, map}
use Prim.Native.Nat.{ℕ, zero, suc, ◌+◌, ◌<◌, ◌≤◌}
use native.Mathlib.Nat.{not-suc-le-zero, le_of_suc-le-suc}
use native.Mathlib.Omega.{arith}
use lib.Dec.{leb, ltb}
use lib.ListN.{length, get_or, set, drop}
use borrow.Author.Tests.{leb-true, leb-false, eq-eqb, le-leb, lt-ltb}
use Rattle.number_tests.proofs.Tests.{both_true, both_false}
use Rattle.client_record.specs.declared.Assembly.{Assembly}
use Rattle.client_record.specs.declared.Client.{Client}
use Rattle.client_record.specs.Limits.{fragment_limit, address_size, lifetime, offered_limit}
use Rattle.client_record.specs.Lists.{same_bytes, all, any, pairs, sum}
use Rattle.client_record.specs.Record.{
  fresh_fragment,
  fresh_flow,
  fresh_assembly,
  sound_fragment,
  is_fresh_fragment,
  compatible,
  whole,
  live,
  held_fragments,
  spare_slots,
  bytes_held,
  same_flow,
  has_key,
  is_fresh_assembly,
  opened_within,
  sound_live,
  sound_assembly,
  same_live_key,
  keys_differ,
  held_right,
  figure_sum,
  sums_to,
  balanced,
  within_plan,
  sound_record,
}
use Rattle.client_record.proofs.SoundParts.{Sound, sound-parts, all-at, all_weaker, all_map}
use Rattle.client_reassembly.specs.Advance.{old, expire, elapse}
use Rattle.client_reassembly.specs.Offer.{rejecting, repeating, conflicting, delivering}
use Rattle.client_reassembly.proofs.Expiry.{gone}
use Rattle.client_reassembly.proofs.Steady.{empty-bytes, fresh-count, elapse-held}

-- ---- the record test from its parts

pub sound-from : (c : Client) → Sound c → sound_record c ≡ true
unfolding sound_record held_right balanced sums_to within_plan
sound-from c s =
    ap₂ ◌&&◌ s.each
    (ap₂ ◌&&◌ s.keys
    (ap₂ ◌&&◌ (eq-eqb c.held (sum bytes_held c.assemblies) s.held)
    (ap₂ ◌&&◌ (ap₂ ◌&&◌ (eq-eqb (figure_sum c) c.offered s.balance) (le-leb c.offered offered_limit s.limit)) s.planned)))

-- ---- lists

suc-lt : {j n : ℕ} → j < n → suc j < suc n
suc-lt k = omega arith

module _ {ℓ} {A : Type ℓ} where
  all_from : (p : A → Bool) (l : List A) → ((j : ℕ) (d : A) → j < length l → p (get_or l j d) ≡ true) → all p l ≡ true
  unfolding all
  all_from p [] g = refl
  all_from p (x ∷ l) g = ap₂ ◌&&◌ (g 0 x (omega arith)) (all_from p l (λ j d k. g (suc j) d (suc-lt k)))

  pub all_set : (p : A → Bool) (l : List A) (i : ℕ) (a : A) → all p l ≡ true → p a ≡ true → all p (set l i a) ≡ true
  unfolding all
  all_set p [] i a e h = refl
  all_set p (x ∷ l) zero a e h = ap₂ ◌&&◌ h (both_true (p x) (all p l) e).1
  all_set p (x ∷ l) (suc i) a e h = let t = both_true (p x) (all p l) e in ap₂ ◌&&◌ t.0 (all_set p l i a t.1 h)

  -- behind the first n, where one element is replaced by one that passes
  pub all-drop-set : (p : A → Bool) (n : ℕ) (l : List A) (i : ℕ) (a : A) → all p (drop n l) ≡ true → p a ≡ true → all p (drop n (set l i a)) ≡ true
  all-drop-set p zero l i a e h = all_set p l i a e h
  all-drop-set p (suc n) [] i a e h = e
  all-drop-set p (suc n) (x ∷ l) zero a e h = e
  all-drop-set p (suc n) (x ∷ l) (suc i) a e h = all-drop-set p n l i a e h

  pub drop-map : (f : A → A) (n : ℕ) (l : List A) → drop n (map f l) ≡ map f (drop n l)
  drop-map f zero l = refl
  drop-map f (suc n) [] = refl
  drop-map f (suc n) (x ∷ l) = drop-map f n l

  -- a sum with one element replaced
  pub sum-set : (f : A → ℕ) (l : List A) (i : ℕ) (a d : A) → i < length l → sum f (set l i a) + f (get_or l i d) ≡ sum f l + f a
  unfolding sum
  sum-set f [] i a d h = absurd (not-suc-le-zero h)
  sum-set f (x ∷ l) zero a d h = omega arith
  sum-set f (x ∷ l) (suc i) a d h = omega (arith, sum-set f l i a d (le_of_suc-le-suc h))

  -- a test that fails on every element, at one of them
  pub any_at : (p : A → Bool) (l : List A) (i : ℕ) (d : A) → i < length l → any p l ≡ false → p (get_or l i d) ≡ false
  unfolding any
  any_at p [] i d h e = absurd (not-suc-le-zero h)
  any_at p (x ∷ l) zero d h e = (both_false (p x) (any p l) e).0
  any_at p (x ∷ l) (suc i) d h e = any_at p l i d (le_of_suc-le-suc h) (both_false (p x) (any p l) e).1

  -- every pair passes, with one element replaced by one that passes with those before it and those behind it
  pub pairs_set : (q : A → A → Bool) (l : List A) (i : ℕ) (a : A) → pairs q l ≡ true
      → ((j : ℕ) (d : A) → j < length l → j < i → q (get_or l j d) a ≡ true) → ((j : ℕ) (d : A) → j < length l → i < j → q a (get_or l j d) ≡ true)
      → pairs q (set l i a) ≡ true
  unfolding pairs
  pairs_set q [] i a e f g = refl
  pairs_set q (x ∷ l) zero a e f g = ap₂ ◌&&◌ (all_from (q a) l (λ j d k. g (suc j) d (suc-lt k) (omega arith))) (both_true (all (q x) l) (pairs q l) e).1
  pairs_set q (x ∷ l) (suc i) a e f g =
      let t = both_true (all (q x) l) (pairs q l) e in
      ap₂ ◌&&◌ (all_set (q x) l i a t.0 (f 0 x (omega arith) (omega arith)))
      (pairs_set q l i a t.1 (λ j d k n. f (suc j) d (suc-lt k) (suc-lt n)) (λ j d k n. g (suc j) d (suc-lt k) (suc-lt n)))

  -- two elements of a list whose every pair passes
  pub pairs-at : (q : A → A → Bool) (l : List A) (i j : ℕ) (d : A) → pairs q l ≡ true → i < j → j < length l → q (get_or l i d) (get_or l j d) ≡ true
  unfolding pairs
  pairs-at q [] i j d e h k = absurd (not-suc-le-zero k)
  pairs-at q (x ∷ l) i zero d e h k = absurd (not-suc-le-zero h)
  pairs-at q (x ∷ l) zero (suc j) d e h k = all-at (q x) l j d (le_of_suc-le-suc k) (both_true (all (q x) l) (pairs q l) e).0
  pairs-at q (x ∷ l) (suc i) (suc j) d e h k = pairs-at q l i j d (both_true (all (q x) l) (pairs q l) e).1 (le_of_suc-le-suc h) (le_of_suc-le-suc k)

  -- every pair passes, where each element is replaced by one that passes wherever it did
  pub pairs-map : (q : A → A → Bool) (f : A → A) → ((x y : A) → q x y ≡ true → q (f x) (f y) ≡ true) → (l : List A) → pairs q l ≡ true
      → pairs q (map f l) ≡ true
  unfolding pairs
  pairs-map q f h [] e = refl
  pairs-map q f h (x ∷ l) e =
      let t = both_true (all (q x) l) (pairs q l) e in
      ap₂ ◌&&◌ (all_map (q (f x)) f l ∙ all_weaker (q x) (λ y. q (f x) (f y)) (h x) l t.0) (pairs-map q f h l t.1)

-- ---- one live assembly

pub record LiveParts (t : ℕ) (a : Assembly) : Type 0 where
  pub slots : a.count ≤ fragment_limit
  pub each : all sound_fragment (held_fragments a) ≡ true
  pub two : compatible (held_fragments a) ≡ true
  pub unfinished : not (whole (held_fragments a)) ≡ true
  pub opened : opened_within t a ≡ true
  pub spare : all is_fresh_fragment (spare_slots a) ≡ true

pub live-parts : (t : ℕ) (a : Assembly) → sound_live t a ≡ true → LiveParts t a
unfolding sound_live
live-parts t a e =
    let held = held_fragments a in
    let spare : Bool = all is_fresh_fragment (spare_slots a) in
    let r4 : Bool = opened_within t a && spare in
    let r3 : Bool = not (whole held) && r4 in
    let r2 : Bool = compatible held && r3 in
    let r1 : Bool = all sound_fragment held && r2 in
    let t1 = both_true (leb a.count fragment_limit) r1 e in
    let t2 = both_true (all sound_fragment held) r2 t1.1 in
    let t3 = both_true (compatible held) r3 t2.1 in
    let t4 = both_true (not (whole held)) r4 t3.1 in
    let t5 = both_true (opened_within t a) spare t4.1 in
    record { slots = leb-true a.count fragment_limit t1.0; each = t2.0; two = t3.0; unfinished = t4.0; opened = t5.0; spare = t5.1 }

pub live-from : (t : ℕ) (a : Assembly) → LiveParts t a → sound_live t a ≡ true
unfolding sound_live
live-from t a k =
    ap₂ ◌&&◌ (le-leb a.count fragment_limit k.slots)
    (ap₂ ◌&&◌ k.each (ap₂ ◌&&◌ k.two (ap₂ ◌&&◌ k.unfinished (ap₂ ◌&&◌ k.opened k.spare))))

-- ---- expiry

fresh-is-fresh : is_fresh_assembly fresh_assembly ≡ true
unfolding is_fresh_assembly fresh_assembly same_flow same_bytes fresh_flow address_size fragment_limit is_fresh_fragment fresh_fragment all
fresh-is-fresh = refl

pub fresh-not-live : live fresh_assembly ≡ false
unfolding live fresh_assembly
fresh-not-live = refl

-- an assembly is sound by its live test, or as an unused one
pub sound-by : (t : ℕ) (a : Assembly) (b : Bool) → live a ≡ b → cond b (sound_live t a) (is_fresh_assembly a) ≡ true → sound_assembly t a ≡ true
unfolding sound_assembly
sound-by t a b l h = ap (λ (x : Bool). cond x (sound_live t a) (is_fresh_assembly a)) l ∙ h

pub fresh-sound : (t : ℕ) → sound_assembly t fresh_assembly ≡ true
fresh-sound t = sound-by t fresh_assembly false fresh-not-live fresh-is-fresh

opened-later : (u t : ℕ) (a : Assembly) → u ≤ t → live a ≡ true → old t a ≡ false → opened_within u a ≡ true → opened_within t a ≡ true
unfolding opened_within old
opened-later u t a le l o e =
    let opened : a.opened ≤ u = leb-true a.opened u (both_true (leb a.opened u) (ltb u (a.opened + lifetime)) e).0 in
    let young : t < a.opened + lifetime =
    leb-false (a.opened + lifetime) t (sym (ap (λ (b : Bool). b && leb (a.opened + lifetime) t) l) ∙ o) in
    ap₂ ◌&&◌ (le-leb a.opened t (omega arith)) (lt-ltb t (a.opened + lifetime) young)

later-sound : (u t : ℕ) (a : Assembly) → u ≤ t → old t a ≡ false → sound_assembly u a ≡ true → sound_assembly t a ≡ true
unfolding sound_assembly
later-sound u t a le o s = go (live a) refl s
  where
    go : (b : Bool) → live a ≡ b → cond b (sound_live u a) (is_fresh_assembly a) ≡ true → cond (live a) (sound_live t a) (is_fresh_assembly a) ≡ true
    go true l h =
        let k = live-parts u a h in
        ap (λ (x : Bool). cond x (sound_live t a) (is_fresh_assembly a)) l
        ∙ live-from t a
        (record {
          slots = k.slots;
          each = k.each;
          two = k.two;
          unfinished = k.unfinished;
          opened = opened-later u t a le l o k.opened;
          spare = k.spare;
        })
    go false l h = ap (λ (x : Bool). cond x (sound_live t a) (is_fresh_assembly a)) l ∙ h

expire-sound : (u t : ℕ) (a : Assembly) → u ≤ t → sound_assembly u a ≡ true → sound_assembly t (expire t a) ≡ true
unfolding expire
expire-sound u t a le s = go (old t a) refl
  where
    go : (b : Bool) → old t a ≡ b → sound_assembly t (cond b fresh_assembly a) ≡ true
    go true o = fresh-sound t
    go false o = later-sound u t a le o s

-- a fresh place has nobody's key
pub fresh-first : (a : Assembly) → not (same_live_key fresh_assembly a) ≡ true
unfolding same_live_key live fresh_assembly
fresh-first a = refl

fresh-second : (a : Assembly) → not (same_live_key a fresh_assembly) ≡ true
unfolding same_live_key
fresh-second a =
    ap (λ (b : Bool). not (live a && (b && has_key a.flow a.identification fresh_assembly))) fresh-not-live ∙ ap not (and-false (live a))

expire-keys : (t : ℕ) (x y : Assembly) → not (same_live_key x y) ≡ true → not (same_live_key (expire t x) (expire t y)) ≡ true
unfolding expire
expire-keys t x y e = go (old t x) (old t y)
  where
    go : (a b : Bool) → not (same_live_key (cond a fresh_assembly x) (cond b fresh_assembly y)) ≡ true
    go true b = fresh-first (cond b fresh_assembly y)
    go false true = fresh-second x
    go false false = e

elapse-all : (t : ℕ) (c : Client) → all (sound_assembly c.time) c.assemblies ≡ true → c.time ≤ t
    → all (sound_assembly (elapse t c).time) (elapse t c).assemblies ≡ true
unfolding elapse
elapse-all t c e le =
    all_map (sound_assembly t) (expire t) c.assemblies
    ∙ all_weaker (sound_assembly c.time) (λ a. sound_assembly t (expire t a)) (λ a s. expire-sound c.time t a le s) c.assemblies e

elapse-keys : (t : ℕ) (c : Client) → keys_differ c.assemblies ≡ true → keys_differ (elapse t c).assemblies ≡ true
unfolding elapse keys_differ
elapse-keys t c e = pairs-map (λ a b. not (same_live_key a b)) (expire t) (expire-keys t) c.assemblies e

elapse-balance : (t : ℕ) (c : Client) → sound_record c ≡ true → figure_sum (elapse t c) ≡ (elapse t c).offered
unfolding elapse figure_sum
elapse-balance t c sound = omega (arith, (gone t c sound).held, (sound-parts c sound).balance)

elapse-limit : (t : ℕ) (c : Client) → c.offered ≤ offered_limit → (elapse t c).offered ≤ offered_limit
unfolding elapse
elapse-limit t c h = h

expire-free : (t : ℕ) (a : Assembly) → not (live a) ≡ true → not (live (expire t a)) ≡ true
unfolding expire
expire-free t a e = go (old t a)
  where
    go : (b : Bool) → not (live (cond b fresh_assembly a)) ≡ true
    go true = ap not fresh-not-live
    go false = e

pub elapse-planned : (t : ℕ) (c : Client) → all (λ a. not (live a)) (drop c.plan c.assemblies) ≡ true
    → all (λ a. not (live a)) (drop (elapse t c).plan (elapse t c).assemblies) ≡ true
unfolding elapse
elapse-planned t c e =
    ap (all (λ a. not (live a))) (drop-map (expire t) c.plan c.assemblies)
    ∙ all_map (λ a. not (live a)) (expire t) (drop c.plan c.assemblies)
    ∙ all_weaker (λ a. not (live a)) (λ a. not (live (expire t a))) (expire-free t) (drop c.plan c.assemblies) e

pub elapse-sound : (t : ℕ) (c : Client) → sound_record c ≡ true → c.time ≤ t → sound_record (elapse t c) ≡ true
elapse-sound t c sound le =
    let s = sound-parts c sound in
    sound-from (elapse t c)
    (record {
      each = elapse-all t c s.each le;
      keys = elapse-keys t c s.keys;
      held = elapse-held t c sound;
      balance = elapse-balance t c sound;
      limit = elapse-limit t c s.limit;
      planned = elapse-planned t c s.planned;
    })

-- ---- figures only

module _ (c : Client) (n : ℕ) (sound : sound_record c ≡ true) (room : c.offered + n ≤ offered_limit) where
  pub rejecting-sound : sound_record (rejecting n c) ≡ true
  unfolding rejecting figure_sum
  rejecting-sound =
      let s = sound-parts c sound in
      sound-from (rejecting n c) (record { each = s.each; keys = s.keys; held = s.held; balance = omega (arith, s.balance); limit = room; planned = s.planned })

  pub repeating-sound : sound_record (repeating n c) ≡ true
  unfolding repeating figure_sum
  repeating-sound =
      let s = sound-parts c sound in
      sound-from (repeating n c) (record { each = s.each; keys = s.keys; held = s.held; balance = omega (arith, s.balance); limit = room; planned = s.planned })

-- ---- an assembly that ends

-- the assembly at place p, whose bytes are those of a, becomes fresh
module _ (t p : ℕ) (xs : List Assembly) (d : Assembly) (h : p < length xs) where
  freed-each : all (sound_assembly t) xs ≡ true → all (sound_assembly t) (set xs p fresh_assembly) ≡ true
  freed-each e = all_set (sound_assembly t) xs p fresh_assembly e (fresh-sound t)

  freed-keys : keys_differ xs ≡ true → keys_differ (set xs p fresh_assembly) ≡ true
  unfolding keys_differ
  freed-keys e =
      pairs_set (λ a b. not (same_live_key a b)) xs p fresh_assembly e (λ j x k n. fresh-second (get_or xs j x)) (λ j x k n. fresh-first (get_or xs j x))

  freed-planned : (n : ℕ) → all (λ a. not (live a)) (drop n xs) ≡ true → all (λ a. not (live a)) (drop n (set xs p fresh_assembly)) ≡ true
  freed-planned n e = all-drop-set (λ a. not (live a)) n xs p fresh_assembly e (ap not fresh-not-live)

  freed-sum : sum bytes_held (set xs p fresh_assembly) + bytes_held (get_or xs p d) ≡ sum bytes_held xs
  freed-sum = omega (arith, sum-set bytes_held xs p fresh_assembly d h, empty-bytes fresh_assembly fresh-count)

module _ (c : Client) (p : ℕ) (a d : Assembly) (n : ℕ) (sound : sound_record c ≡ true) (h : p < length c.assemblies)
    (bytes : bytes_held a ≡ bytes_held (get_or c.assemblies p d)) (room : c.offered + n ≤ offered_limit) where
  pub conflicting-sound : sound_record (conflicting p a n c) ≡ true
  unfolding conflicting figure_sum
  conflicting-sound =
      let s = sound-parts c sound in
      let e = freed-sum c.time p c.assemblies d h in
      sound-from (conflicting p a n c)
      (record {
        each = freed-each c.time p c.assemblies d h s.each;
        keys = freed-keys c.time p c.assemblies d h s.keys;
        held = omega (arith, s.held, e);
        balance = omega (arith, s.balance, s.held, e);
        limit = room;
        planned = freed-planned c.time p c.assemblies d h c.plan s.planned;
      })

  pub delivering-sound : sound_record (delivering p a n c) ≡ true
  unfolding delivering figure_sum
  delivering-sound =
      let s = sound-parts c sound in
      let e = freed-sum c.time p c.assemblies d h in
      sound-from (delivering p a n c)
      (record {
        each = freed-each c.time p c.assemblies d h s.each;
        keys = freed-keys c.time p c.assemblies d h s.keys;
        held = omega (arith, s.held, e);
        balance = omega (arith, s.balance, s.held, e);
        limit = room;
        planned = freed-planned c.time p c.assemblies d h c.plan s.planned;
      })
