-- What becomes of the agreement when the home of a fragment is freed, or takes the fragment: other places' bytes do not move, and the
-- fragment's bytes land beside those of the fragments that it does not overlap.
-- Assumes nothing.
use Prim.Native.Nat.{ℕ, zero, suc, ◌+◌, ◌-◌, ◌<◌, ◌≤◌}
use mathlib.Core.Path.{◌≡◌, refl, sym, ap, ap₂, ◌∙◌, subst}
use mathlib.Core.Bool.{Bool, true, false, ◌&&◌, ◌||◌, cond}
use mathlib.Core.List.{List, [], ◌∷◌, ◌++◌, map, map-append}
use native.Mathlib.Omega.{arith}
use lib.Dec.{eqb, ltb}
use lib.ListN.{length, take, drop, get_or, set, length-set}
use lib.Seq.{take-add, drop_at, drop-drop, take-take, length-take-le, get_or-set_same, get_or-set_other}
use borrow.Author.Tests.{ltb-true, ltb-false, leb-true, eqb-true, eqb-false}
use Rattle.number_tests.proofs.Tests.{true-false, both_false, both_true}
use Rattle.number_octets.specs.Octets.{part, overlay}
use Rattle.number_octets.proofs.Laws.{length-overlay, take-overlay, drop-overlay, part-overlay}
use Rattle.client_record.specs.declared.Fragment.{Fragment}
use Rattle.client_record.specs.declared.Assembly.{Assembly}
use Rattle.client_record.specs.declared.Client.{Client}
use Rattle.client_record.specs.Limits.{datagram_limit, fragment_limit, share_size}
use Rattle.client_record.specs.Lists.{all, any}
use Rattle.client_record.specs.Record.{fresh_assembly, is_last, end, fits, overlaps, conflicts, live, held_fragments}
use Rattle.client_record.proofs.Held.{marks-last}
use Rattle.client_reassembly.specs.declared.Arrival.{Arrival}
use Rattle.client_reassembly.specs.Offer
use Rattle.client_reassembly.specs.Offer.{fragment_of, added, base, start_of}
use Rattle.client_reassembly.proofs.Joins.{held-added}
use Rattle.client_reassembly.proofs.Kept.{any_at}
use Rattle.client_reassembly.proofs.Lasting.{slots-of}
use Rattle.client_ledger.specs.Book.{Key, Content, Entry, Book, same_key, of, mine, others, opened_at, entry, with}
use Rattle.client_ledger.specs.Stands.{key_of, owns, at, content_of, Shows, Agrees, Stands, offer_of}
use Rattle.client_ledger.proofs.Keys.{
  same_key_lem,
  own_key,
  mine-left,
  mine-others,
  opened-others,
  mine-joined,
  mine-other,
  opened-other,
}
use Rattle.client_ledger.proofs.Agreement.{differs, not-owned, parts-fit, in-share}
use Rattle.client_ledger.proofs.Clock.{fresh-not-live}
use Rattle.client_ledger.proofs.Home.{Home, below, parts_at}

-- ---- a part of a list that another is laid over

part-front : (i n : ℕ) (l : List ℕ) → i ≤ length l → part i n l ≡ drop i (take (i + n) l)
part-front i n l h = sym (ap (drop i) (take-add i n l) ∙ drop_at (take i l) (take n (drop i l)) i (length-take-le i l h))

module _ (t : List ℕ) (at' : ℕ) (bs : List ℕ) (room : at' + length bs ≤ length t) (i n : ℕ) where
  part-before : i + n ≤ at' → part i n (overlay t at' bs) ≡ part i n t
  part-before h =
      let over : List ℕ = overlay t at' bs in
      let left : i ≤ length over = omega (arith, length-overlay t at' bs room) in
      let right : i ≤ length t = omega arith in
      part-front i n over left
      ∙ ap (drop i) (sym (take-take (i + n) at' over h) ∙ ap (take (i + n)) (take-overlay t at' bs room) ∙ take-take (i + n) at' t h)
      ∙ sym (part-front i n t right)

  part-behind : at' + length bs ≤ i → part i n (overlay t at' bs) ≡ part i n t
  part-behind h =
      let m : ℕ = i - (at' + length bs) in
      let e : i ≡ at' + length bs + m = omega arith in
      ap (take n)
      (ap (λ (j : ℕ). drop j (overlay t at' bs)) e ∙ sym (drop-drop m (at' + length bs) (overlay t at' bs))
      ∙ ap (drop m) (drop-overlay t at' bs room) ∙ drop-drop m (at' + length bs) t ∙ ap (λ (j : ℕ). drop j t) (sym e))

-- ---- lists

module _ {ℓ} {A : Type ℓ} where
  map_same : {B : Type 0} (r : A → Bool) (g h : A → B) → ((x : A) → r x ≡ true → g x ≡ h x) → (l : List A) → all r l ≡ true → map g l ≡ map h l
  unfolding all
  map_same r g h q [] e = refl
  map_same r g h q (x ∷ l) e = let t = both_true (r x) (all r l) e in ap₂ ◌∷◌ (q x t.0) (map_same r g h q l t.1)

  -- where every element passes one test and fails another
  map-apart : {B : Type 0} (r s : A → Bool) (g h : A → B) → ((x : A) → r x ≡ true → s x ≡ false → g x ≡ h x)
      → (l : List A) → all r l ≡ true → any s l ≡ false → map g l ≡ map h l
  unfolding all any
  map-apart r s g h q [] e n = refl
  map-apart r s g h q (x ∷ l) e n =
      let t = both_true (r x) (all r l) e in
      let u = both_false (s x) (any s l) n in
      ap₂ ◌∷◌ (q x t.0 u.0) (map-apart r s g h q l t.1 u.1)

  -- no element passed, with another in place of one that does not pass
  any-back : (q : A → Bool) (l : List A) (i : ℕ) (x d : A) → any q (set l i x) ≡ false → q (get_or l i d) ≡ false → any q l ≡ false
  unfolding any
  any-back q [] i x d e n = refl
  any-back q (y ∷ l) zero x d e n = ap₂ ◌||◌ n (both_false (q x) (any q l) e).1
  any-back q (y ∷ l) (suc i) x d e n = let t = both_false (q y) (any q (set l i x)) e in ap₂ ◌||◌ t.0 (any-back q l i x d t.1 n)

-- ---- bytes that stay

-- what a fragment says is the same in two shares that agree on its range
content-same : (s t : List ℕ) (j : ℕ) (g : Fragment) → part (base j + g.offset) g.length s ≡ part (base j + g.offset) g.length t
    → content_of s j g ≡ content_of t j g
unfolding content_of
content-same s t j g q =
    λ i. record { place = g.offset; bytes = q i; last = is_last g; start = cond (is_last g) g.option_start 0 }

-- fragments at other places than p say the same in both shares
pub record Unmoved (s t : List ℕ) (p : ℕ) : Type 0 where
  pub others_stay : (j : ℕ) → (j ≡ p → ⊥) → (fs : List Fragment) → all fits fs ≡ true → map (content_of s j) fs ≡ map (content_of t j) fs

pub unmoved-itself : (s : List ℕ) (p : ℕ) → Unmoved s s p
unmoved-itself s p = record { others_stay = λ j n fs e. refl }

overlap-free : (f g : Fragment) → conflicts g f ≡ false → ltb g.offset (end f) && ltb f.offset (end g) ≡ false
unfolding conflicts overlaps
overlap-free f g e = (both_false (ltb g.offset (end f) && ltb f.offset (end g)) _ e).0

fits-end : (g : Fragment) → fits g ≡ true → g.offset + g.length ≤ datagram_limit
unfolding fits end
fits-end g e = leb-true _ _ e

-- a place ends before the next one
next-base : (i j : ℕ) → i < j → base i + datagram_limit ≤ base j
unfolding base datagram_limit
next-base i j h = omega arith

-- the fragment f of these bytes is laid at its place
module _ {plan : ℕ} (share : List ℕ) (p : ℕ) (f : Fragment) (bytes : List ℕ) (type_size : length share ≡ share_size plan) (h : p < plan)
    (n : f.length ≡ length bytes) (fit : fits f ≡ true) where
  pub room : start_of p f + length bytes ≤ length share
  unfolding start_of
  room = omega (arith, in-share share p type_size h f fit, n)

  pub unmoved-laid : Unmoved (overlay share (start_of p f) bytes) share p
  unfolding start_of
  unmoved-laid = record { others_stay = λ j d fs e. map_same fits (content_of (overlay share (start_of p f) bytes) j) (content_of share j) (stays j d) fs e }
    where
      stays : (j : ℕ) → (j ≡ p → ⊥) → (g : Fragment) → fits g ≡ true → content_of (overlay share (start_of p f) bytes) j g ≡ content_of share j g
      stays j d g e = content-same (overlay share (start_of p f) bytes) share j g (go (ltb j p) refl)
        where
          go : (t : Bool) → ltb j p ≡ t
              → part (base j + g.offset) g.length (overlay share (start_of p f) bytes) ≡ part (base j + g.offset) g.length share
          go true t =
              part-before share (start_of p f) bytes room (base j + g.offset) g.length
              (omega (arith, fits-end g e, next-base j p (ltb-true j p t)))
          go false t =
              part-behind share (start_of p f) bytes room (base j + g.offset) g.length
              (omega (arith, n, fits-end f fit, next-base p j (below p j (ltb-false j p t) (λ q. d (sym q)))))

  pub home_stays : (fs : List Fragment) → all fits fs ≡ true → any (λ g. conflicts g f) fs ≡ false
      → map (content_of (overlay share (start_of p f) bytes) p) fs ≡ map (content_of share p) fs
  unfolding start_of end
  home_stays fs e k = map-apart fits (λ g. conflicts g f) (content_of (overlay share (start_of p f) bytes) p) (content_of share p) stays fs e k
    where
      stays : (g : Fragment) → fits g ≡ true → conflicts g f ≡ false → content_of (overlay share (start_of p f) bytes) p g ≡ content_of share p g
      stays g e k = content-same (overlay share (start_of p f) bytes) share p g (go (ltb g.offset (end f)) refl (overlap-free f g k))
        where
          go : (t : Bool) → ltb g.offset (end f) ≡ t → t && ltb f.offset (end g) ≡ false
              → part (base p + g.offset) g.length (overlay share (start_of p f) bytes) ≡ part (base p + g.offset) g.length share
          go true t q =
              part-before share (start_of p f) bytes room (base p + g.offset) g.length (omega (arith, ltb-false f.offset (end g) q))
          go false t q =
              part-behind share (start_of p f) bytes room (base p + g.offset) g.length (omega (arith, n, ltb-false g.offset (end f) t))

-- ---- the agreement

-- s' is the share after the call: only the home's bytes may have changed
module _ (c : Client) (share : List ℕ) (b : Book) (st : Stands c share b) (e : Entry) (p : ℕ) (a : Assembly) (at_home : Home c share b e p a)
    (s' : List ℕ) (stay : Unmoved s' share p) where
  fit_at : (j : ℕ) → j < length c.assemblies → live (at c.assemblies j) ≡ true → all fits (held_fragments (at c.assemblies j)) ≡ true
  fit_at j h l = parts-fit (parts_at c share b st j h l)

  -- the home is freed
  freed-other : (j : ℕ) → j < length c.assemblies → (j ≡ p → ⊥) → live (at c.assemblies j) ≡ true
      → Shows s' (others e.key b.open_ones) j (at c.assemblies j)
  freed-other j h n l =
      let d = at_home.alone j h n l in
      let shows = st.agrees.each j h l in
      record {
        fragments =
            mine-others e.key b.open_ones (key_of (at c.assemblies j)) d ∙ shows.fragments
            ∙ sym (stay.others_stay j n (held_fragments (at c.assemblies j)) (fit_at j h l));
        opened = opened-others e.key b.open_ones (key_of (at c.assemblies j)) d ∙ shows.opened;
      }

  pub freed-agrees : Agrees s' (others e.key b.open_ones) (set c.assemblies p fresh_assembly)
  freed-agrees = record { each = each; known = known }
    where
      xs : List Assembly
      xs = c.assemblies

      each : (j : ℕ) → j < length (set xs p fresh_assembly) → live (at (set xs p fresh_assembly) j) ≡ true
          → Shows s' (others e.key b.open_ones) j (at (set xs p fresh_assembly) j)
      each j h l = go (eqb j p) refl
        where
          k : j < length xs
          k = omega (arith, length-set xs p fresh_assembly)

          go : (t : Bool) → eqb j p ≡ t → Shows s' (others e.key b.open_ones) j (at (set xs p fresh_assembly) j)
          go true t =
              let same : at (set xs p fresh_assembly) j ≡ fresh_assembly =
              ap (at (set xs p fresh_assembly)) (eqb-true j p t) ∙ get_or-set_same xs p fresh_assembly fresh_assembly at_home.within in
              absurd (true-false (sym l ∙ ap live same ∙ fresh-not-live))
          go false t =
              let n = eqb-false j p t in
              let same : at (set xs p fresh_assembly) j ≡ at xs j = get_or-set_other xs p j fresh_assembly fresh_assembly n in
              subst (Shows s' (others e.key b.open_ones) j) (sym same) (freed-other j k n (sym (ap live same) ∙ l))

      known : (j : Key) → any (owns j) (set xs p fresh_assembly) ≡ false → mine j (others e.key b.open_ones) ≡ []
      known j q = go (same_key e.key j) refl
        where
          go : (t : Bool) → same_key e.key j ≡ t → mine j (others e.key b.open_ones) ≡ []
          go true t = subst (λ (i : Key). mine i (others e.key b.open_ones) ≡ []) (same_key_lem e.key j t) (mine-left e.key b.open_ones)
          go false t =
              mine-others e.key b.open_ones j t
              ∙ st.agrees.known j (any-back (owns j) xs p fresh_assembly fresh_assembly q (at_home.place j t))

  -- the home takes the fragment: a' is its assembly then
  module _ (a' : Assembly) (same-key-of : key_of a' ≡ e.key) (is_live : live a' ≡ true) (same-opened : a'.opened ≡ a.opened)
      (joins : mine e.key b.open_ones ++ e.content ∷ [] ≡ map (content_of s' p) (held_fragments a')) where
    stored_other : (j : ℕ) → j < length c.assemblies → (j ≡ p → ⊥) → live (at c.assemblies j) ≡ true
        → Shows s' (b.open_ones ++ e ∷ []) j (at c.assemblies j)
    unfolding of
    stored_other j h n l =
        let k = key_of (at c.assemblies j) in
        let d = differs e.key k (at_home.alone j h n l) in
        let shows = st.agrees.each j h l in
        record {
          fragments =
              mine-other k e b.open_ones d ∙ shows.fragments
              ∙ sym (stay.others_stay j n (held_fragments (at c.assemblies j)) (fit_at j h l));
          opened = opened-other k e b.open_ones d ∙ shows.opened;
        }

    stored-home : Shows s' (b.open_ones ++ e ∷ []) p a'
    stored-home = record {
      fragments =
          ap (λ (k : Key). mine k (b.open_ones ++ e ∷ [])) same-key-of ∙ mine-joined e.key e b.open_ones (own_key e) ∙ joins;
      opened = ap (λ (k : Key). opened_at k (b.open_ones ++ e ∷ [])) same-key-of ∙ at_home.opened ∙ sym same-opened;
    }

    pub stored-agrees : Agrees s' (b.open_ones ++ e ∷ []) (set c.assemblies p a')
    unfolding of
    stored-agrees = record { each = each; known = known }
      where
        xs : List Assembly
        xs = c.assemblies

        each : (j : ℕ) → j < length (set xs p a') → live (at (set xs p a') j) ≡ true → Shows s' (b.open_ones ++ e ∷ []) j (at (set xs p a') j)
        each j h l = go (eqb j p) refl
          where
            k : j < length xs
            k = omega (arith, length-set xs p a')

            go : (t : Bool) → eqb j p ≡ t → Shows s' (b.open_ones ++ e ∷ []) j (at (set xs p a') j)
            go true t =
                let q : j ≡ p = eqb-true j p t in
                let same : at (set xs p a') j ≡ a' = ap (at (set xs p a')) q ∙ get_or-set_same xs p a' fresh_assembly at_home.within in
                subst (Shows s' (b.open_ones ++ e ∷ []) j) (sym same) (subst (λ (i : ℕ). Shows s' (b.open_ones ++ e ∷ []) i a') (sym q) stored-home)
            go false t =
                let n = eqb-false j p t in
                let same : at (set xs p a') j ≡ at xs j = get_or-set_other xs p j a' fresh_assembly n in
                subst (Shows s' (b.open_ones ++ e ∷ []) j) (sym same) (stored_other j k n (sym (ap live same) ∙ l))

        known : (j : Key) → any (owns j) (set xs p a') ≡ false → mine j (b.open_ones ++ e ∷ []) ≡ []
        known j q =
            let k : p < length (set xs p a') = omega (arith, length-set xs p a', at_home.within) in
            let n : owns j a' ≡ false =
            sym (ap (owns j) (get_or-set_same xs p a' fresh_assembly at_home.within)) ∙ any_at (owns j) (set xs p a') p fresh_assembly k q in
            let d : same_key j e.key ≡ false = subst (λ (i : Key). same_key j i ≡ false) same-key-of (not-owned j a' n is_live) in
            mine-other j e b.open_ones d ∙ st.agrees.known j (any-back (owns j) xs p a' fresh_assembly q (at_home.place j (differs j e.key d)))

-- ---- the fragment that joins

-- r of a fragment that is stored is already 0 unless it is the last one
start-twice : (l : Bool) (r : ℕ) → cond l (cond l r 0) 0 ≡ cond l r 0
start-twice true r = refl
start-twice false r = refl

module _ (c : Client) (share : List ℕ) (b : Book) (o : Arrival) (bytes : List ℕ) (p : ℕ) (a : Assembly)
    (type_size : length share ≡ share_size c.plan) (at_home : Home c share b (entry (offer_of o bytes)) p a)
    (fit : fits (fragment_of o (length bytes)) ≡ true) where
  new-content : content_of (overlay share (start_of p (fragment_of o (length bytes))) bytes) p (fragment_of o (length bytes)) ≡ (entry (offer_of o bytes)).content
  unfolding content_of fragment_of entry offer_of start_of
  new-content =
      let fitted = room share p (fragment_of o (length bytes)) bytes type_size at_home.inside refl fit in
      let there = part-overlay share (base p + o.offset.0) bytes fitted in
      let twice = start-twice o.last o.option_start.0 in
      let mark = marks-last (fragment_of o (length bytes)) o.last refl in
      ap
      (λ (m : Bool). record { place = o.offset.0; bytes = part (base p + o.offset.0) (length bytes) (overlay share (base p + o.offset.0) bytes); last = m; start = cond m (cond o.last o.option_start.0 0) 0 })
      mark
      ∙ (λ i. record { place = o.offset.0; bytes = there i; last = o.last; start = twice i })

  -- the key's open fragments with the new one, as the assembly holds them
  pub joined-content : Offer.is_conflict a (fragment_of o (length bytes)) ≡ false → Offer.is_full a ≡ false
      → with (entry (offer_of o bytes)) b
      ≡ map (content_of (overlay share (start_of p (fragment_of o (length bytes))) bytes) p) (held_fragments (added a (fragment_of o (length bytes))))
  unfolding Offer.is_conflict Offer.is_full fragment_of
  joined-content free some =
      let f = fragment_of o (length bytes) in
      let s' : List ℕ = overlay share (start_of p f) bytes in
      let slots = slots-of a at_home.slots in
      let less : a.count < fragment_limit = below a.count fragment_limit at_home.count (eqb-false a.count fragment_limit some) in
      let less' : a.count < length a.fragments = omega arith in
      sym
      (ap (map (content_of s' p)) (held-added a f less') ∙ map-append (content_of s' p) (held_fragments a) (f ∷ [])
      ∙ ap₂ (λ (l : List Content) (x : Content). l ++ x ∷ [])
      (home_stays share p f bytes type_size at_home.inside refl fit (held_fragments a) at_home.fitting free ∙ sym at_home.fragments)
      new-content)
