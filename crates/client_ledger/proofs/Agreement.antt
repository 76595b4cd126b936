-- What follows from an agreement of entries and assemblies: the live assemblies split the open fragments by key, so their bytes add up
-- to the held bytes and their number is the number of open keys.
-- Assumes nothing.
use Prim.Native.Nat.{ℕ, zero, suc, ◌+◌, ◌<◌, ◌≤◌}
use mathlib.Core.Path.{◌≡◌, refl, sym, ap, ap₂, ◌∙◌, subst}
use mathlib.Core.Bool.{Bool, true, false, not, ◌&&◌, ◌||◌, cond}
use mathlib.Core.List.{List, [], ◌∷◌, map}
use native.Mathlib.Omega.{arith}
use lib.ListN.{length, get_or, drop}
use borrow.Author.Tests.{leb-true, eqb-true, eqb-false, not-true, not-false}
use Rattle.number_tests.proofs.Tests.{true-false, both_true, both_false, cond_yes}
use Rattle.number_octets.proofs.Laws.{length_part}
use Rattle.client_record.specs.declared.Fragment.{Fragment}
use Rattle.client_record.specs.declared.Assembly.{Assembly}
use Rattle.client_record.specs.Limits.{datagram_limit, share_size}
use Rattle.client_record.specs.Lists.{all, any, pairs, sum}
use Rattle.client_record.specs.Record.{
  fresh_assembly,
  end,
  non_empty,
  fits,
  starts_options_inside,
  live,
  held_fragments,
  bytes_held,
  has_key,
  same_live_key,
  keys_differ,
  sound_fragment,
  sound_assembly,
  sound_live,
  is_fresh_assembly,
}
use Rattle.client_record.proofs.Lists.{all-not}
use Rattle.client_record.proofs.SoundParts.{all_weaker, all-at}
use Rattle.client_reassembly.specs.Offer.{base}
use Rattle.client_reassembly.proofs.Kept.{LiveParts, live-parts}
use Rattle.client_reassembly.proofs.Places.{live_below}
use Rattle.client_reassembly.proofs.Steady.{empty-bytes}
use Rattle.client_ledger.specs.Book.{Key, Content, Entry, size, total, held_bytes, same_key, mine, others}
use Rattle.client_ledger.specs.Stands.{key_of, owns, at, content_of, Agrees}
use Rattle.client_ledger.proofs.Keys.{same_key_lem, key-same, mine-left, mine-others, no-entries}
use Rattle.client_ledger.proofs.Sum.{mine-bytes}

-- ---- a sum whose parts agree

-- on the elements that fail a test which all fail
sum-failing {ℓ} : {A : Type ℓ} (f g : A → ℕ) (p : A → Bool) → ((x : A) → p x ≡ false → f x ≡ g x) → (l : List A) → any p l ≡ false → sum f l ≡ sum g l
unfolding sum any
sum-failing f g p h [] e = refl
sum-failing f g p h (x ∷ l) e = let t = both_false (p x) (any p l) e in ap₂ ◌+◌ (h x t.0) (sum-failing f g p h l t.1)

-- at every index
pub sum-at {ℓ} : {A : Type ℓ} (f g : A → ℕ) (d : A) (l : List A) → ((i : ℕ) → i < length l → f (get_or l i d) ≡ g (get_or l i d)) → sum f l ≡ sum g l
unfolding sum
sum-at f g d [] h = refl
sum-at f g d (x ∷ l) h = ap₂ ◌+◌ (h 0 (omega arith)) (sum-at f g d l (λ i k. h (suc i) (omega arith)))

-- ---- keys

pub differs : (k j : Key) → same_key k j ≡ false → same_key j k ≡ false
differs k j d = go (same_key j k) refl
  where
    go : (b : Bool) → same_key j k ≡ b → b ≡ false
    go true h = absurd (true-false (sym (key-same k) ∙ ap (same_key k) (sym (same_key_lem j k h)) ∙ d))
    go false h = refl

-- a live assembly that a key does not own has another key
pub not-owned : (k : Key) (a : Assembly) → owns k a ≡ false → live a ≡ true → same_key k (key_of a) ≡ false
unfolding owns
not-owned k a e l = sym (ap (λ (b : Bool). b && same_key k (key_of a)) l) ∙ e

pub not-live-owned : (k : Key) (a : Assembly) → live a ≡ false → owns k a ≡ false
unfolding owns
not-live-owned k a l = ap (λ (b : Bool). b && same_key k (key_of a)) l

pub not-same-owned : (k : Key) (a : Assembly) → same_key k (key_of a) ≡ false → owns k a ≡ false
unfolding owns
not-same-owned k a d = go (live a)
  where
    go : (b : Bool) → b && same_key k (key_of a) ≡ false
    go true = d
    go false = refl

owned-else : (k : Key) (a : Assembly) (xs : List Assembly) → owns k a ≡ false → any (owns k) xs ≡ false → any (owns k) (a ∷ xs) ≡ false
unfolding any
owned-else k a xs e h = ap₂ ◌||◌ e h

keys-front : (a : Assembly) (xs : List Assembly) → keys_differ (a ∷ xs) ≡ true → live a ≡ true → any (owns (key_of a)) xs ≡ false
unfolding keys_differ pairs same_live_key has_key owns key_of same_key
keys-front a xs e l =
    not-true (any (owns (key_of a)) xs)
    (sym (all-not (owns (key_of a)) xs)
    ∙ all_weaker (λ b. not (same_live_key a b)) (λ b. not (owns (key_of a) b)) (λ b h. sym (ap (λ (t : Bool). not (t && owns (key_of a) b)) l) ∙ h) xs
    (both_true (all (λ b. not (same_live_key a b)) xs) (keys_differ xs) e).0)

keys-rest : (a : Assembly) (xs : List Assembly) → keys_differ (a ∷ xs) ≡ true → keys_differ xs ≡ true
unfolding keys_differ pairs
keys-rest a xs e = (both_true (all (λ b. not (same_live_key a b)) xs) (keys_differ xs) e).1

-- ---- the live assemblies split the entries

-- F of entries is G of a key's and F of the others: it is the sum of G over the live assemblies
module _ (F : List Entry → ℕ) (G : List Content → ℕ) (nothing : F [] ≡ 0) (split : (k : Key) (es : List Entry) → F es ≡ G (mine k es) + F (others k es)) where
  pub parts-sum : (xs : List Assembly) (es : List Entry) → keys_differ xs ≡ true → ((k : Key) → any (owns k) xs ≡ false → mine k es ≡ [])
      → F es ≡ sum (λ a. cond (live a) (G (mine (key_of a) es)) 0) xs
  unfolding sum any
  parts-sum [] es d h = ap F (no-entries es (λ k. h k refl)) ∙ nothing
  parts-sum (a ∷ xs) es d h = go (live a) refl (parts-sum xs)
    where
      k : Key
      k = key_of a

      same_parts : (x : Assembly) → owns k x ≡ false → cond (live x) (G (mine (key_of x) (others k es))) 0 ≡ cond (live x) (G (mine (key_of x) es)) 0
      same_parts x e = by (live x) refl
        where
          by : (b : Bool) → live x ≡ b → cond b (G (mine (key_of x) (others k es))) 0 ≡ cond b (G (mine (key_of x) es)) 0
          by true l = ap G (mine-others k es (key_of x) (not-owned k x e l))
          by false l = refl

      rest-known : (j : Key) → any (owns j) xs ≡ false → mine j (others k es) ≡ []
      rest-known j e = by (same_key k j) refl
        where
          by : (b : Bool) → same_key k j ≡ b → mine j (others k es) ≡ []
          by true m = subst (λ (i : Key). mine i (others k es) ≡ []) (same_key_lem k j m) (mine-left k es)
          by false m = mine-others k es j m ∙ h j (owned-else j a xs (not-same-owned j a (differs k j m)) e)

      go : (b : Bool) → live a ≡ b
          → ((es : List Entry) → keys_differ xs ≡ true → ((k : Key) → any (owns k) xs ≡ false → mine k es ≡ [])
          → F es ≡ sum (λ a. cond (live a) (G (mine (key_of a) es)) 0) xs)
          → F es ≡ (cond b (G (mine k es)) 0) + sum (λ a. cond (live a) (G (mine (key_of a) es)) 0) xs
      go true l ih =
          split k es
          ∙ ap (λ (n : ℕ). G (mine k es) + n)
          (ih (others k es) (keys-rest a xs d) rest-known
          ∙ sum-failing (λ x. cond (live x) (G (mine (key_of x) (others k es))) 0) (λ x. cond (live x) (G (mine (key_of x) es)) 0) (owns k) same_parts xs
          (keys-front a xs d l))
      go false l ih = omega (arith, ih es (keys-rest a xs d) (λ j e. h j (owned-else j a xs (not-live-owned j a l) e)))

-- ---- one assembly

pub not-live-count : (a : Assembly) → live a ≡ false → a.count ≡ 0
unfolding live
not-live-count a e = eqb-true a.count 0 (not-false _ e)

pub live-count : (a : Assembly) → live a ≡ true → 0 < a.count
unfolding live
live-count a e = let n = eqb-false a.count 0 (not-true _ e) in go a.count n
  where
    go : (m : ℕ) → (m ≡ 0 → ⊥) → 0 < m
    go zero n = absurd (n refl)
    go (suc m) n = omega arith

pub live-sound : (t : ℕ) (a : Assembly) → live a ≡ true → sound_assembly t a ≡ true → LiveParts t a
unfolding sound_assembly
live-sound t a l e = live-parts t a (sym (cond_yes (live a) (sound_live t a) (is_fresh_assembly a) l) ∙ e)

sound-fits : (f : Fragment) → sound_fragment f ≡ true → fits f ≡ true
unfolding sound_fragment
sound-fits f e = (both_true (fits f) (starts_options_inside f) (both_true (non_empty f) (fits f && starts_options_inside f) e).1).0

pub parts-fit : {t : ℕ} {a : Assembly} → LiveParts t a → all fits (held_fragments a) ≡ true
parts-fit {a = a} k = all_weaker sound_fragment fits sound-fits (held_fragments a) k.each

-- ---- the bytes of the share

module _ {plan : ℕ} (share : List ℕ) (p : ℕ) (whole : length share ≡ share_size plan) (h : p < plan) where
  -- a fragment that fits lies in its place's part of the share
  pub in-share : (f : Fragment) → fits f ≡ true → base p + f.offset + f.length ≤ length share
  unfolding fits end base share_size datagram_limit
  in-share f e = omega (arith, leb-true (f.offset + f.length) datagram_limit e)

  pub content-size : (f : Fragment) → fits f ≡ true → size (content_of share p f) ≡ f.length
  unfolding size content_of
  content-size f e = length_part (base p + f.offset) f.length share (in-share f e)

  pub content-bytes : (fs : List Fragment) → all fits fs ≡ true → total (map (content_of share p) fs) ≡ sum (λ f. f.length) fs
  unfolding all total sum
  content-bytes [] e = refl
  content-bytes (f ∷ fs) e = let t = both_true (fits f) (all fits fs) e in ap₂ ◌+◌ (content-size f t.0) (content-bytes fs t.1)

-- ---- held bytes, and open keys

module _ (plan t : ℕ) (share : List ℕ) (es : List Entry) (xs : List Assembly) (whole : length share ≡ share_size plan)
    (planned : all (λ a. not (live a)) (drop plan xs) ≡ true) (sound : all (sound_assembly t) xs ≡ true) (differ : keys_differ xs ≡ true)
    (agree : Agrees share es xs) where
  pub held-sum : held_bytes es ≡ sum bytes_held xs
  unfolding bytes_held held_bytes sum
  held-sum =
      parts-sum held_bytes total refl mine-bytes xs es differ agree.known
      ∙ sum-at (λ a. cond (live a) (total (mine (key_of a) es)) 0) bytes_held fresh_assembly xs (λ i k. here i k (live (at xs i)) refl)
    where
      here : (i : ℕ) → i < length xs → (b : Bool) → live (at xs i) ≡ b → cond b (total (mine (key_of (at xs i)) es)) 0 ≡ bytes_held (at xs i)
      here i k true l =
          ap total (agree.each i k l).fragments
          ∙ content-bytes share i whole (live_below plan xs i fresh_assembly planned k l) (held_fragments (at xs i))
          (parts-fit (live-sound t (at xs i) l (all-at (sound_assembly t) xs i fresh_assembly k sound)))
      here i k false l = sym (empty-bytes (at xs i) (not-live-count (at xs i) l))
