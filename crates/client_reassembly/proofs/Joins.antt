-- Laws of a fragment that joins an assembly: what is held with it, and that the end of the last one is within the limit.
-- Assumes nothing.
use mathlib.Core.Path.{◌≡◌, ap, ap₂, ◌∙◌}
use mathlib.Core.Bool.{Bool, true, false, not, ◌&&◌, cond}
use mathlib.Core.List.{List, [], ◌∷◌, ◌++◌}
use Prim.Native.Nat.{ℕ, ◌<◌, ◌≤◌}
use native.Mathlib.Numerals.{add-one}
use native.Mathlib.Omega.{arith}
use lib.ListN.{length, take, set}
use lib.Seq.{take-suc-set}
use borrow.Author.Tests.{leb-true, le-leb}
use Rattle.number_tests.proofs.Tests.{both_true}
use Rattle.client_record.specs.declared.Fragment.{Fragment}
use Rattle.client_record.specs.declared.Assembly.{Assembly}
use Rattle.client_record.specs.Limits.{datagram_limit}
use Rattle.client_record.specs.Lists.{all, pairs}
use Rattle.client_record.specs.Record.{fresh_fragment, is_last, end, fits, conflicts, compatible, last_of, held_fragments}
use Rattle.client_record.proofs.Lists.{all_append, all-not, pairs-append}
use Rattle.client_reassembly.specs.Offer.{is_conflict, added}

-- the fragment is listed after the earlier ones
pub held-added : (a : Assembly) (f : Fragment) → a.count < length a.fragments → held_fragments (added a f) ≡ held_fragments a ++ (f ∷ [])
unfolding held_fragments added
held-added a f h = ap (λ (k : ℕ). take k (set a.fragments a.count f)) (add-one a.count) ∙ take-suc-set a.fragments a.count f h

-- where it contradicts none of them, none contradicts another
pub added-compatible : (a : Assembly) (f : Fragment) → a.count < length a.fragments → compatible (held_fragments a) ≡ true → is_conflict a f ≡ false
    → compatible (held_fragments (added a f)) ≡ true
unfolding compatible is_conflict
added-compatible a f h two apart =
    ap (pairs (λ x y. not (conflicts x y))) (held-added a f h) ∙ pairs-append (λ x y. not (conflicts x y)) (held_fragments a) f
    ∙ ap₂ ◌&&◌ two (all-not (λ x. conflicts x f) (held_fragments a) ∙ ap not apart)

none_within : end fresh_fragment ≤ datagram_limit
unfolding end fresh_fragment
none_within = omega arith

fits-within : (f : Fragment) → fits f ≡ true → end f ≤ datagram_limit
unfolding fits
fits-within f t = leb-true _ _ t

-- where every fragment ends within the limit, so does the last one
last_within : (fs : List Fragment) → all fits fs ≡ true → end (last_of fs) ≤ datagram_limit
unfolding last_of all
last_within [] e = none_within
last_within (f ∷ fs) e = go (is_last f) (last_within fs (both_true (fits f) (all fits fs) e).1) (fits-within f (both_true (fits f) (all fits fs) e).0)
  where
    go : (b : Bool) → end (last_of fs) ≤ datagram_limit → end f ≤ datagram_limit → end (cond b f (last_of fs)) ≤ datagram_limit
    go true h k = k
    go false h k = h

-- with one more fragment that ends within the limit
pub added-within : (a : Assembly) (f : Fragment) → a.count < length a.fragments → all fits (held_fragments a) ≡ true → end f ≤ datagram_limit
    → end (last_of (held_fragments (added a f))) ≤ datagram_limit
unfolding all fits
added-within a f h e k =
    last_within (held_fragments (added a f))
    (ap (all fits) (held-added a f h) ∙ all_append fits (held_fragments a) (f ∷ []) ∙ ap₂ (λ (x y : Bool). x && (y && true)) e (le-leb (end f) datagram_limit k))
