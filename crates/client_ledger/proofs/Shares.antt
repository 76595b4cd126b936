-- A fragment call leaves the share as long as it was: only a fragment that joins is written, and that lies in its place's part of the share. This
-- is a law of the record's own rules; the book has no part in it.
-- Assumes nothing.
use Prim.Native.Nat.{ℕ, ◌+◌, ◌<◌, ◌≤◌}
use mathlib.Core.Path.{◌≡◌, refl, sym, ap, subst, ◌∙◌}
use mathlib.Core.Bool.{Bool, true, false, cond}
use mathlib.Core.List.{List}
use mathlib.Core.Option.{Option, none, some}
use native.Mathlib.Nat.{suc-mul, mul-le-mul_right}
use native.Mathlib.Omega.{arith}
use lib.ListN.{length}
use borrow.Author.Tests.{leb-false}
use Rattle.number_tests.specs.Tests.{first_of}
use Rattle.number_octets.specs.Octets.{part, overlay}
use Rattle.number_octets.proofs.Laws.{length-overlay}
use Rattle.client_record.specs.declared.Fragment.{Fragment}
use Rattle.client_record.specs.declared.Assembly.{Assembly}
use Rattle.client_record.specs.declared.Client.{Client}
use Rattle.client_record.specs.Limits.{datagram_limit, share_size}
use Rattle.client_record.specs.Record.{whole, held_fragments, sound_record}
use Rattle.client_record.proofs.SoundParts.{sound-parts}
use Rattle.client_reassembly.specs.declared.Arrival.{Arrival}
use Rattle.client_reassembly.specs.Answer.{refused, stored, repeated, conflict}
use Rattle.client_reassembly.specs.Advance.{elapse}
use Rattle.client_reassembly.specs.Offer.{
  offer_tests,
  fragment_of,
  no_room,
  place_for,
  assembly_for,
  repeats,
  is_conflict,
  is_full,
  added,
  rejecting,
  repeating,
  conflicting,
  storing,
  Outcome,
  leaving,
  base,
  handed_out,
  joined,
  start_of,
  placed,
  taken,
  refuse_or,
  fragment_on,
}
use Rattle.client_reassembly.proofs.Fates.{taken-rejected, taken-placed}
use Rattle.client_reassembly.proofs.Kept.{elapse-sound}
use Rattle.client_reassembly.proofs.Passes.{passes}
use Rattle.client_reassembly.proofs.Places.{room-place}
use Rattle.client_reassembly.proofs.Plans.{elapse-plan}
use Rattle.client_ledger.specs.Shapes.{Shaped}

-- a fragment that ends within the limit lies in the share
place-fits : {plan : ℕ} (p : ℕ) (f : Fragment) (bytes share : List ℕ) → p < plan → f.offset + length bytes ≤ datagram_limit
    → length share ≡ share_size plan → start_of p f + length bytes ≤ length share
unfolding start_of base share_size
place-fits p f bytes share h e size =
    omega (arith, size, suc-mul p datagram_limit, mul-le-mul_right datagram_limit h)

abbrev FullShare : ℕ → Outcome → Type 0
FullShare plan o = length o.share ≡ share_size plan

placed-share : {plan : ℕ} (c : Client) (share out : List ℕ) (p : ℕ) (a : Assembly) (f : Fragment) (bytes : List ℕ) → p < plan
    → f.offset + length bytes ≤ datagram_limit → length share ≡ share_size plan → FullShare plan (placed c share out p a f bytes)
unfolding placed joined handed_out
placed-share {plan} c share out p a f bytes h e size =
    go (repeats a f (part (start_of p f) f.length share) bytes) (is_conflict a f) (is_full a) (whole (held_fragments (added a f)))
  where
    laid : length (overlay share (start_of p f) bytes) ≡ share_size plan
    laid = length-overlay share (start_of p f) bytes (place-fits p f bytes share h e size) ∙ size

    go : (x y z w : Bool)
        → FullShare plan (cond x (leaving (repeating f.length c) share out repeated)
        (cond y (leaving (conflicting p a f.length c) share out conflict)
        (cond z (leaving (rejecting f.length c) share out (refused 30))
        (cond w (handed_out c (overlay share (start_of p f) bytes) out p a f)
        (leaving (storing p (added a f) f.length c) (overlay share (start_of p f) bytes) out stored)))))
    go true y z w = size
    go false true z w = size
    go false false true w = size
    go false false false true = laid
    go false false false false = laid

fragment-offset : (o : Arrival) (n : ℕ) → (fragment_of o n).offset ≡ o.offset.0
unfolding fragment_of
fragment-offset o n = refl

taken-share : (c : Client) (share out : List ℕ) (o : Arrival) (bytes : List ℕ) → sound_record c ≡ true → o.offset.0 + length bytes ≤ datagram_limit
    → length share ≡ share_size c.plan → FullShare c.plan (taken c share out o bytes)
taken-share c share out o bytes sound e size = go (no_room c.plan o c.assemblies) refl
  where
    p : ℕ
    p = place_for o c.assemblies

    within : no_room c.plan o c.assemblies ≡ false → p < c.plan
    within t = leb-false c.plan p (sym (room-place o c.assemblies c.plan (sound-parts c sound).planned) ∙ t)

    go : (t : Bool) → no_room c.plan o c.assemblies ≡ t → FullShare c.plan (taken c share out o bytes)
    go true t = subst (FullShare c.plan) (sym (taken-rejected c share out o bytes t)) size
    go false t =
        subst (FullShare c.plan) (sym (taken-placed c share out o bytes t))
        (placed-share c share out p (assembly_for o p c.assemblies) (fragment_of o (length bytes)) bytes (within t)
        (omega (arith, e, fragment-offset o (length bytes))) size)

-- the share is as long after a fragment call
pub fragment-call-share : (c : Client) (share out : List ℕ) (o : Arrival) (bytes : List ℕ) → Shaped c share
    → length (fragment_on c share out o bytes).share ≡ share_size c.plan
unfolding fragment_on
fragment-call-share c share out o bytes shape = go (first_of (offer_tests c (length out) o (length bytes))) refl
  where
    go : (r : Option ℕ) → first_of (offer_tests c (length out) o (length bytes)) ≡ r
        → FullShare c.plan (refuse_or c share out r (taken (elapse o.time c) share out o bytes))
    go none e =
        let k = passes c (length out) o (length bytes) e in
        let same = elapse-plan o.time c in
        taken-share (elapse o.time c) share out o bytes (elapse-sound o.time c k.sound k.time) k.sized.ends
        (shape.size ∙ ap share_size (sym same))
        ∙ ap share_size same
    go (some n) e = shape.size
