-- The outcome of a fragment by the tests that decide it.
-- Assumes nothing.
use mathlib.Core.Path.{◌≡◌, sym, subst, ◌∙◌}
use mathlib.Core.Bool.{true, false}
use mathlib.Core.List.{List}
use Prim.Native.Nat.{ℕ}
use lib.ListN.{length}
use Rattle.number_tests.proofs.Tests.{cond_yes, cond_no}
use Rattle.number_octets.specs.Octets.{part, overlay}
use Rattle.client_record.specs.declared.Fragment.{Fragment}
use Rattle.client_record.specs.declared.Assembly.{Assembly}
use Rattle.client_record.specs.declared.Client.{Client}
use Rattle.client_reassembly.specs.declared.Step.{Step}
use Rattle.client_reassembly.specs.declared.Arrival.{Arrival}
use Rattle.client_reassembly.specs.Answer.{refused, repeated, conflict}
use Rattle.client_reassembly.specs.Offer.{
  Outcome,
  leaving,
  fragment_of,
  no_room,
  place_for,
  assembly_for,
  repeats,
  is_conflict,
  is_full,
  rejecting,
  repeating,
  conflicting,
  joined,
  start_of,
  placed,
  taken,
}
use Rattle.client_reassembly.specs.Post.{Left}

-- what holds of an outcome holds of one that equals it
pub left-of : {o o' : Outcome} {s : Step} {share out : List ℕ} → o ≡ o' → Left o' s share out → Left o s share out
left-of {s = s} {share = share} {out = out} e h = subst (λ (x : Outcome). Left x s share out) (sym e) h

module _ (c : Client) (share out : List ℕ) (p : ℕ) (a : Assembly) (f : Fragment) (bytes : List ℕ) where
  pub placed-repeated : repeats a f (part (start_of p f) f.length share) bytes ≡ true
      → placed c share out p a f bytes ≡ leaving (repeating f.length c) share out repeated
  unfolding placed
  placed-repeated r = cond_yes (repeats a f (part (start_of p f) f.length share) bytes) _ _ r

  pub placed-conflict : repeats a f (part (start_of p f) f.length share) bytes ≡ false → is_conflict a f ≡ true
      → placed c share out p a f bytes ≡ leaving (conflicting p a f.length c) share out conflict
  unfolding placed
  placed-conflict r k = cond_no (repeats a f (part (start_of p f) f.length share) bytes) _ _ r ∙ cond_yes (is_conflict a f) _ _ k

  pub placed-full : repeats a f (part (start_of p f) f.length share) bytes ≡ false → is_conflict a f ≡ false → is_full a ≡ true
      → placed c share out p a f bytes ≡ leaving (rejecting f.length c) share out (refused 30)
  unfolding placed
  placed-full r k e =
      cond_no (repeats a f (part (start_of p f) f.length share) bytes) _ _ r ∙ cond_no (is_conflict a f) _ _ k ∙ cond_yes (is_full a) _ _ e

  pub placed-joined : repeats a f (part (start_of p f) f.length share) bytes ≡ false → is_conflict a f ≡ false → is_full a ≡ false
      → placed c share out p a f bytes ≡ joined c (overlay share (start_of p f) bytes) out p a f
  unfolding placed
  placed-joined r k e =
      cond_no (repeats a f (part (start_of p f) f.length share) bytes) _ _ r ∙ cond_no (is_conflict a f) _ _ k ∙ cond_no (is_full a) _ _ e

module _ (c : Client) (share out : List ℕ) (o : Arrival) (bytes : List ℕ) where
  pub taken-rejected : no_room c.plan o c.assemblies ≡ true → taken c share out o bytes ≡ leaving (rejecting (length bytes) c) share out (refused 29)
  unfolding taken
  taken-rejected e = cond_yes (no_room c.plan o c.assemblies) _ _ e

  pub taken-placed : no_room c.plan o c.assemblies ≡ false → taken c share out o bytes
      ≡ placed c share out (place_for o c.assemblies) (assembly_for o (place_for o c.assemblies) c.assemblies) (fragment_of o (length bytes)) bytes
  unfolding taken
  taken-placed e = cond_no (no_room c.plan o c.assemblies) _ _ e
