-- Where a number that was read from a position ends: the rest is the list from there on, so its length tells the position.
-- Assumes nothing.
use mathlib.Core.Path.{◌≡◌, refl, sym, ap, ◌∙◌}
use mathlib.Core.Bool.{Bool, true, false, cond}
use mathlib.Core.List.{List}
use Prim.Native.Nat.{ℕ, ◌+◌, ◌-◌, ◌≤◌, ◌<◌}
use native.Mathlib.Omega.{arith}
use borrow.Author.Tests.{lt-ltb, le-ltb}
use lib.Dec.{ltb}
use lib.ListN.{length, drop, length-drop}
use lib.Seq.{drop-drop}
use Rattle.number_varint.specs.SevenBit.{Taken, taken, untaken, number as front_number}
use Rattle.number_varint.specs.Answer.{found, unfound, decoded_as, decoded_at}
use Rattle.number_varint.proofs.Laws as varint
use Rattle.list_entry.specs.Option.{given, refused, Read, got, failed, unreadable, below_limit, read_number}
use Rattle.list_entry.specs.Answer.{located, field_before, number_at}
use Rattle.list_entry.proofs.Numbers.{number_read}

pub place_of : (s : List ℕ) (next : ℕ) → next ≤ length s → length s - length (drop next s) ≡ next
place_of s next h = simp length-drop (omega arith)

-- a number at a position
pub record ValueAt (limit : ℕ) (s : List ℕ) (at value next : ℕ) : Type 0 where
  pub reads : read_number limit (drop at s) ≡ got value (drop next s)
  pub small : value < limit
  pub ahead : at < next
  pub within : next ≤ length s

value_read : (limit : ℕ) (s : List ℕ) (at value : ℕ) (rest : List ℕ) → read_number limit (drop at s) ≡ got value rest
    → ValueAt limit s at value (length s - length rest)
value_read limit s at value rest e =
    let r = number_read limit (drop at s) value rest e in
    let behind : rest ≡ drop (at + r.width) s = r.behind ∙ drop-drop r.width at s in
    let some : 0 < r.width = varint.taken-some (drop at s) value r.width r.there in
    let fits : r.width ≤ length s - at = rw length-drop at (varint.taken-within (drop at s) value r.width r.there) in
    let here : length s - length rest ≡ at + r.width = ap (λ (l : List ℕ). length s - length l) behind ∙ place_of s (at + r.width) (omega arith) in
    record {
      reads = e ∙ ap (got value) (behind ∙ ap (λ (n : ℕ). drop n s) (sym here));
      small = r.small;
      ahead = omega arith;
      within = omega arith;
    }

pub value_there : (limit : ℕ) (s : List ℕ) (at value next : ℕ) → number_at limit s at ≡ given (located value next) → ValueAt limit s at value next
unfolding number_at
value_there limit s at value next e = go (read_number limit (drop at s)) refl e
  where
    go : (t : Read ℕ) → read_number limit (drop at s) ≡ t → field_before (length s) t ≡ given (located value next) → ValueAt limit s at value next
    go (failed n) p q = absurd (let z : ◌≡◌ {A = ℕ} 0 1 = cc in omega arith)
    go (got v rest) p q =
        let same : v ≡ value = cc in
        let end : length s - length rest ≡ next = cc in
        rw (← same, ← end) (value_read limit s at v rest p)

failed-seven : (limit : ℕ) (l : List ℕ) (n : ℕ) → read_number limit l ≡ failed n → n ≡ unreadable
unfolding read_number
failed-seven limit l n e = go (front_number l) e
  where
    within : (v w : ℕ) (t : Bool) → cond t (got v (drop w l)) (failed unreadable) ≡ failed n → n ≡ unreadable
    within v w true q = absurd (let z : ◌≡◌ {A = ℕ} 0 1 = cc in omega arith)
    within v w false q = cc

    go : (t : Taken) → below_limit limit l t ≡ failed n → n ≡ unreadable
    go untaken q = cc
    go (taken v w) q = within v w (ltb v limit) q

pub none-there : (limit : ℕ) (s : List ℕ) (at : ℕ) → number_at limit s at ≡ refused unreadable → read_number limit (drop at s) ≡ failed unreadable
unfolding number_at
none-there limit s at e = go (read_number limit (drop at s)) refl e
  where
    go : (t : Read ℕ) → read_number limit (drop at s) ≡ t → field_before (length s) t ≡ refused unreadable → read_number limit (drop at s) ≡ failed unreadable
    go (failed n) p q = p ∙ ap failed (failed-seven limit (drop at s) n p)
    go (got v rest) p q = absurd (let z : ◌≡◌ {A = ℕ} 0 1 = cc in omega arith)

pub refused-there : (limit : ℕ) (s : List ℕ) (at n : ℕ) → number_at limit s at ≡ refused n → read_number limit (drop at s) ≡ failed n
unfolding number_at
refused-there limit s at n e = go (read_number limit (drop at s)) refl e
  where
    go : (t : Read ℕ) → read_number limit (drop at s) ≡ t → field_before (length s) t ≡ refused n → read_number limit (drop at s) ≡ failed n
    go (failed m) p q = let same : m ≡ n = cc in p ∙ ap failed same
    go (got v rest) p q = absurd (let z : ◌≡◌ {A = ℕ} 0 1 = cc in omega arith)

-- and the other way
pub value-here : {limit : ℕ} {s : List ℕ} {at value next : ℕ} → ValueAt limit s at value next → number_at limit s at ≡ given (located value next)
unfolding number_at
value-here {limit} {s} {at} {value} {next} v =
    ap (field_before (length s)) v.reads ∙ ap (λ (n : ℕ). given (located value n)) (place_of s next v.within)

pub none-here : (limit : ℕ) (s : List ℕ) (at : ℕ) → read_number limit (drop at s) ≡ failed unreadable → number_at limit s at ≡ refused unreadable
unfolding number_at
none-here limit s at e = ap (field_before (length s)) e

-- ---- what `number_varint::decode` answers

module _ (limit : ℕ) (s : List ℕ) (at : ℕ) where
  pub decoded-below : (value next : ℕ) → found value next ≡ decoded_at s at → value < limit → given (located value next) ≡ number_at limit s at
  unfolding number_at read_number
  decoded-below value next e h =
      let d = varint.decoded-taken s at value next (sym e) in
      let w : ℕ = d.0 in
      let a = varint.decoded-ahead s at value next (sym e) in
      let end : length s - length (drop w (drop at s)) ≡ next =
      ap (λ (l : List ℕ). length s - length l) (drop-drop w at s) ∙ ap (λ (n : ℕ). length s - length (drop n s)) (sym d.2) ∙ place_of s next a.1 in
      sym (ap (λ (t : Taken). field_before (length s) (below_limit limit (drop at s) t)) d.1 ∙ rw (lt-ltb value limit h) (ap (λ (n : ℕ). given (located value n)) end))

  pub decoded-over : (value next : ℕ) → found value next ≡ decoded_at s at → limit ≤ value → refused unreadable ≡ number_at limit s at
  unfolding number_at read_number
  decoded-over value next e h =
      let d = varint.decoded-taken s at value next (sym e) in
      sym (ap (λ (t : Taken). field_before (length s) (below_limit limit (drop at s) t)) d.1 ∙ rw (le-ltb value limit h))

  pub decoded-none : (at' : ℕ) → unfound unreadable at' ≡ decoded_at s at → refused unreadable ≡ number_at limit s at
  unfolding number_at read_number decoded_at decoded_as
  decoded-none at' e = go (front_number (drop at s)) e
    where
      go : (t : Taken) → unfound unreadable at' ≡ decoded_as at t → refused unreadable ≡ field_before (length s) (below_limit limit (drop at s) t)
      go untaken q = refl
      go (taken v w) q = absurd (let z : ◌≡◌ {A = ℕ} 0 1 = cc in omega arith)
