-- What a sound record still has once its time is set and what is old has expired: figures within the limit, held bytes that are those
-- of the live fragments, and assemblies within their limits.
-- Assumes nothing.
use mathlib.Core.Path.{◌≡◌, refl, ap, ap₂, ◌∙◌}
use mathlib.Core.Bool.{Bool, true, false, not, ◌&&◌, cond}
use mathlib.Core.List.{List, [], ◌∷◌, map}
use Prim.Native.Nat.{ℕ, ◌+◌, ◌<◌, ◌≤◌}
use native.Mathlib.Omega.{arith}
use lib.Dec.{eqb, leb}
use lib.ListN.{length, take, get_or}
use borrow.Author.Tests.{eqb-true, leb-true, le-leb}
use Rattle.number_tests.proofs.Tests.{both_true}
use Rattle.client_record.specs.declared.Fragment.{Fragment}
use Rattle.client_record.specs.declared.Assembly.{Assembly}
use Rattle.client_record.specs.declared.Client.{Client}
use Rattle.client_record.specs.Limits.{fragment_limit, offered_limit}
use Rattle.client_record.specs.Lists.{all, any, pairs, sum}
use Rattle.client_record.specs.Record.{
  fresh_flow,
  fresh_assembly,
  non_empty,
  fits,
  starts_options_inside,
  sound_fragment,
  is_fresh_fragment,
  compatible,
  whole,
  same_flow,
  is_fresh_assembly,
  live,
  held_fragments,
  spare_slots,
  bytes_held,
  opened_within,
  sound_live,
  sound_assembly,
  figure_sum,
  sound_record,
}
use Rattle.client_record.proofs.SoundParts.{sound-parts, part-le, all-at, all_weaker, all_map}
use Rattle.client_reassembly.specs.declared.Arrival.{Arrival}
use Rattle.client_reassembly.specs.Advance.{old, expire, lost, elapse}
use Rattle.client_reassembly.specs.Offer.{matches, opening, assembly_for}
use Rattle.client_reassembly.specs.Post.{Room, steady}
use Rattle.client_reassembly.proofs.Expiry.{gone}

-- an assembly without fragments
pub empty-held : (a : Assembly) → a.count ≡ 0 → held_fragments a ≡ []
unfolding held_fragments
empty-held a e = ap (λ (k : ℕ). take k a.fragments) e

pub empty-bytes : (a : Assembly) → a.count ≡ 0 → bytes_held a ≡ 0
unfolding bytes_held sum
empty-bytes a e = ap (sum (λ (f : Fragment). f.length)) (empty-held a e)

empty-steady : (a : Assembly) → a.count ≡ 0 → steady a ≡ true
unfolding steady all compatible pairs
empty-steady a e =
    ap₂ ◌&&◌ (le-leb a.count fragment_limit (omega (arith, e))) (ap (λ (fs : List Fragment). all fits fs && compatible fs) (empty-held a e))

pub fresh-count : fresh_assembly.count ≡ 0
unfolding fresh_assembly
fresh-count = refl

-- ---- what the record test says of one assembly

sound-fits : (f : Fragment) → sound_fragment f ≡ true → fits f ≡ true
unfolding sound_fragment
sound-fits f e = (both_true (fits f) (starts_options_inside f) (both_true (non_empty f) (fits f && starts_options_inside f) e).1).0

live-steady : (t : ℕ) (a : Assembly) → sound_live t a ≡ true → steady a ≡ true
unfolding sound_live steady
live-steady t a e =
    let held = held_fragments a in
    let rest : Bool = compatible held && (not (whole held) && (opened_within t a && all is_fresh_fragment (spare_slots a))) in
    let one = both_true (leb a.count fragment_limit) (all sound_fragment held && rest) e in
    let two = both_true (all sound_fragment held) rest one.1 in
    ap₂ ◌&&◌ one.0 (ap₂ ◌&&◌ (all_weaker sound_fragment fits sound-fits held two.0) (both_true (compatible held) _ two.1).0)

unused-count : (a : Assembly) → is_fresh_assembly a ≡ true → a.count ≡ 0
unfolding is_fresh_assembly
unused-count a e =
    let slots : Bool = all is_fresh_fragment a.fragments in
    let rest : Bool = eqb a.opened 0 && (eqb a.count 0 && slots) in
    let one = both_true (same_flow a.flow fresh_flow) (eqb a.identification 0 && rest) e in
    let two = both_true (eqb a.identification 0) rest one.1 in
    let three = both_true (eqb a.opened 0) (eqb a.count 0 && slots) two.1 in
    eqb-true a.count 0 (both_true (eqb a.count 0) slots three.1).0

sound-steady : (t : ℕ) (a : Assembly) → sound_assembly t a ≡ true → steady a ≡ true
unfolding sound_assembly
sound-steady t a e = go (live a) e
  where
    go : (b : Bool) → cond b (sound_live t a) (is_fresh_assembly a) ≡ true → steady a ≡ true
    go true h = live-steady t a h
    go false h = empty-steady a (unused-count a h)

expire-steady : (t u : ℕ) (a : Assembly) → sound_assembly u a ≡ true → steady (expire t a) ≡ true
unfolding expire
expire-steady t u a e = go (old t a)
  where
    go : (b : Bool) → steady (cond b fresh_assembly a) ≡ true
    go true = empty-steady fresh_assembly fresh-count
    go false = sound-steady u a e

-- ---- the record after the time is set

expire-bytes : (t : ℕ) (a : Assembly) → bytes_held a ≡ bytes_held (expire t a) + lost t a
unfolding expire lost
expire-bytes t a = go (old t a)
  where
    go : (b : Bool) → bytes_held a ≡ bytes_held (cond b fresh_assembly a) + cond b (bytes_held a) 0
    go true = omega (arith, empty-bytes fresh_assembly fresh-count)
    go false = omega arith

-- what is held is what stays and what is lost
expire-sum : (t : ℕ) (xs : List Assembly) → sum bytes_held xs ≡ sum bytes_held (map (expire t) xs) + sum (lost t) xs
unfolding sum
expire-sum t [] = omega arith
expire-sum t (a ∷ xs) = omega (arith, expire-bytes t a, expire-sum t xs)

module _ (t : ℕ) (c : Client) (sound : sound_record c ≡ true) where
  pub elapse-held : (elapse t c).held ≡ sum bytes_held (elapse t c).assemblies
  unfolding elapse
  elapse-held = omega (arith, (sound-parts c sound).held, expire-sum t c.assemblies)

  pub elapse-each : all steady (elapse t c).assemblies ≡ true
  unfolding elapse
  elapse-each =
      all_map steady (expire t) c.assemblies
      ∙ all_weaker (sound_assembly c.time) (λ a. steady (expire t a)) (expire-steady t c.time) c.assemblies (sound-parts c sound).each

  pub elapse-room : (n : ℕ) → c.offered + n ≤ offered_limit → Room (elapse t c) n
  unfolding elapse figure_sum
  elapse-room n h = record { figures = omega (arith, (gone t c sound).held, (sound-parts c sound).balance); offered = h }

-- ---- the assembly that a fragment belongs to

pub record Fit (c : Client) (a : Assembly) : Type 0 where
  pub slots : a.count ≤ fragment_limit
  pub ends : all fits (held_fragments a) ≡ true
  pub apart : compatible (held_fragments a) ≡ true
  pub held : bytes_held a ≤ c.held

steady-fit : (c : Client) (a : Assembly) → steady a ≡ true → bytes_held a ≤ c.held → Fit c a
unfolding steady
steady-fit c a e h =
    let t = both_true _ _ e in
    let u = both_true _ _ t.1 in
    record { slots = leb-true _ _ t.0; ends = u.0; apart = u.1; held = h }

pub assembly-fit : (c : Client) (o : Arrival) (p : ℕ) → c.held ≡ sum bytes_held c.assemblies → all steady c.assemblies ≡ true
    → p < length c.assemblies → Fit c (assembly_for o p c.assemblies)
unfolding assembly_for opening
assembly-fit c o p held each h = go (any (matches o) c.assemblies)
  where
    new-count : (opening o).count ≡ 0
    new-count = refl

    go : (b : Bool) → Fit c (cond b (get_or c.assemblies p fresh_assembly) (opening o))
    go true =
        steady-fit c (get_or c.assemblies p fresh_assembly) (all-at steady c.assemblies p fresh_assembly h each)
        (omega (arith, held, part-le bytes_held c.assemblies p fresh_assembly h))
    go false = steady-fit c (opening o) (empty-steady (opening o) new-count) (omega (arith, empty-bytes (opening o) new-count))
