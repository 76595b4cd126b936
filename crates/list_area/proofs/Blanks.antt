-- The area, written with a checksum of zero and with its checksum set in place afterwards, is what `Payload` says: setting a field replaces just that
-- part. Assumes nothing.
use mathlib.Core.Path.{◌≡◌, refl, sym, ap, ap₂, ◌∙◌}
use mathlib.Core.Bool.{Bool, true, false}
use mathlib.Core.List.{List, [], ◌∷◌, ◌++◌, append_assoc}
use Prim.Native.Nat.{ℕ, zero, suc, ◌+◌, ◌-◌, ◌%◌, ◌≤◌, ◌<◌}
use native.Mathlib.Omega.{arith}
use lib.Dec.{eqb}
use lib.ListN.{length, take, drop, set, replicate, length-append, length-replicate}
use lib.Seq.{length-take-le, take-append_seam, drop_at}
use Rattle.number_octets.specs.Octets.{octets, overlay}
use Rattle.number_octets.proofs.Laws.{length-octets, overlay-sets}
use Rattle.number_checksum.specs.Checksum.{word_sum, folded, sent}
use Rattle.wire_reading.specs.Reading.{is_odd}
use Rattle.list_payload.specs.Payload.{padding, area_with, area_of}
use Rattle.list_wire.specs.Parts.{Laid}
use Rattle.list_payload.proofs.Areas.{ocs_for, area-is, area-length}
use Rattle.list_wire.proofs.Laying.{laid-append, laid_as, laid_by, laid-replace}

zero-two : octets 2 0 ≡ 0 ∷ 0 ∷ []
unfolding octets
zero-two = refl

-- the same end under another name
laid-to : {t : List ℕ} {at : ℕ} {a u : List ℕ} {m n : ℕ} → m ≡ n → Laid t at a u m → Laid t at a u n
laid-to e p = record { over = p.over; ends = sym e ∙ p.ends }

-- pad and option checksum, laid as zeros
pub start-even : {t v : List ℕ} (at : ℕ) → at % 2 ≡ 0 → v ≡ overlay t at (octets 2 0) → Laid t at (replicate (at % 2 + 2) 0) v (at + 2)
start-even {t} at even e =
    laid_as (ap (λ (n : ℕ). replicate (n + 2) 0) (sym even)) (laid_by 2 (e ∙ ap (overlay t at) zero-two) refl)

pub start-odd : {t v : List ℕ} (at : ℕ) → at % 2 ≡ 1 → at + 3 ≤ length t → v ≡ overlay (set t at 0) (at + 1) (octets 2 0)
    → Laid t at (replicate (at % 2 + 2) 0) v (at + 3)
start-odd {t} at odd fits e =
    let pad : Laid t at (0 ∷ []) (set t at 0) (at + 1) = laid_by 1 (overlay-sets t at (0 ∷ []) (omega arith)) refl in
    let ocs : Laid (set t at 0) (at + 1) (0 ∷ 0 ∷ []) _ (at + 1 + 2) = laid_by 2 (e ∙ ap (overlay (set t at 0) (at + 1)) zero-two) refl in
    let end : at + 1 + 2 ≡ at + 3 = omega arith in
    laid_as (ap (λ (n : ℕ). replicate (n + 2) 0) (sym odd)) (laid-append pad (laid-to end ocs) (omega arith))

blank-is : (n : ℕ) → n < 2 → (l : List ℕ) → replicate (n + 2) 0 ++ l ≡ area_with (eqb n 1) (0 ∷ 0 ∷ []) l
blank-is zero h l = refl
blank-is (suc zero) h l = refl
blank-is (suc (suc n)) h l = absurd (omega arith)

pad-size : (n : ℕ) → n < 2 → length (padding (eqb n 1)) ≡ n
pad-size zero h = refl
pad-size (suc zero) h = refl
pad-size (suc (suc n)) h = absurd (omega arith)

pub area-size : (n : ℕ) → n < 2 → (l : List ℕ) → length (area_of (eqb n 1) l) ≡ n + 2 + length l
area-size zero h l = area-length false l
area-size (suc zero) h l = area-length true l
area-size (suc (suc n)) h l = absurd (omega arith)

pub blank-size : (at : ℕ) (l : List ℕ) → length (replicate (at % 2 + 2) 0 ++ l) ≡ length (area_of (is_odd at) l)
blank-size at l =
    let n : ℕ = at % 2 + 2 in
    let zeros : List ℕ = replicate n 0 in
    length-append zeros l ∙ ap (λ (k : ℕ). k + length l) (length-replicate {A = ℕ} n 0) ∙ sym (area-size (at % 2) (omega arith) l)

-- bytes laid in front of others that stand already
pub laid-under : {t u v : List ℕ} (S B : List ℕ) {size end laid : ℕ} → Laid t size B u end → Laid u 0 S v laid → length S ≡ size
    → size + length B ≤ length t → Laid t 0 (S ++ B) v end
laid-under {t} {u} S B {size} p q n fits =
    let both : length (S ++ B) ≡ length S + length B = length-append S B in
    let front : 0 + length S ≡ size = omega arith in
    let back : size + length B ≡ 0 + length (S ++ B) = omega arith in
    let behind : drop (0 + length S) u ≡ B ++ drop (size + length B) t =
    ap₂ drop front p.over ∙ drop_at (take size t) (B ++ drop (size + length B) t) size (length-take-le size t (omega arith)) in
    record {
      over = q.over ∙ ap (λ (x : List ℕ). S ++ x) behind ∙ sym (append_assoc S B (drop (size + length B) t))
          ∙ ap (λ (k : ℕ). (S ++ B) ++ drop k t) back;
      ends = p.ends ∙ omega arith;
    }

-- the area behind a datagram, with its checksum set
module _ {t v : List ℕ} (S : List ℕ) (size : ℕ) {end : ℕ} (l : List ℕ) (p : Laid t 0 (S ++ (replicate (size % 2 + 2) 0 ++ l)) v end)
    (n : length S ≡ size) (fits : size + length (area_of (is_odd size) l) ≤ length t) where
  abbrev odd : Bool
  odd = is_odd size

  abbrev blank : List ℕ
  blank = area_with odd (0 ∷ 0 ∷ []) l

  p' : Laid t 0 (S ++ blank) v end
  p' = laid_as (ap (λ (x : List ℕ). S ++ x) (blank-is (size % 2) (omega arith) l)) p

  long : length blank ≡ length (area_of odd l)
  long = sym (ap length (blank-is (size % 2) (omega arith) l)) ∙ blank-size size l

  both : length (S ++ blank) ≡ length S + length blank
  both = length-append S blank

  span : end - size ≡ length blank
  span = omega (arith, p'.ends, both)

  there : take (end - size) (drop size v) ≡ blank
  there =
      let rest : List ℕ = drop (0 + length (S ++ blank)) t in
      ap₂ (λ (k : ℕ) (x : List ℕ). take k (drop size x)) span (p'.over ∙ append_assoc S blank rest)
      ∙ ap (take (length blank)) (drop_at S (blank ++ rest) size n) ∙ take-append_seam blank rest

  pub payload-summed : {w : List ℕ}
      → w ≡ overlay v (size + size % 2) (octets 2 (sent (folded (end - size + word_sum odd (take (end - size) (drop size v))))))
      → Laid t 0 (S ++ area_of odd l) w end
  payload-summed e =
      let field : ℕ = sent (folded (end - size + word_sum odd (take (end - size) (drop size v)))) in
      let is : field ≡ ocs_for odd l = ap sent (ap₂ (λ (k : ℕ) (x : List ℕ). folded (k + word_sum odd x)) span there) in
      let pad : length (S ++ padding odd) ≡ length S + length (padding odd) = length-append S (padding odd) in
      let place : size + size % 2 ≡ 0 + length (S ++ padding odd) = omega (arith, pad-size (size % 2) (omega arith)) in
      let apart : (z : List ℕ) → S ++ (padding odd ++ (z ++ l)) ≡ (S ++ padding odd) ++ (z ++ l) = λ z. sym (append_assoc S (padding odd) (z ++ l)) in
      let room : 0 + length ((S ++ padding odd) ++ ((0 ∷ 0 ∷ []) ++ l)) ≤ length t = omega (arith, ap length (apart (0 ∷ 0 ∷ [])), both, long) in
      laid_as (sym (apart (octets 2 field)) ∙ ap (λ (w : ℕ). S ++ area_with odd (octets 2 w) l) is ∙ ap (λ (x : List ℕ). S ++ x) (sym (area-is odd l)))
      (laid-replace (S ++ padding odd) (0 ∷ 0 ∷ []) (octets 2 field) l (laid_as (apart (0 ∷ 0 ∷ [])) p')
      (e ∙ ap (λ (k : ℕ). overlay v k (octets 2 field)) place) (length-octets 2 field) room)
