-- Document 02, R-6: any strict answer but "padded" is the plain answer. And with "padded" the user data is what plain reading has.
-- Assumes nothing.
use mathlib.Core.Path.{◌≡◌, refl, ap}
use mathlib.Core.List.{List}
use mathlib.Core.Logic.{◌⊎◌, inl, inr, ⊎_elim}
use mathlib.Core.Option.{Option, none, some}
use Prim.Native.Nat.{ℕ}
use lib.Dec.{eqb}
use lib.ListN.{drop}
use Rattle.number_tests.specs.Tests.{first_of}
use Rattle.number_offsets.specs.declared.PacketOffset.{PacketOffset}
use Rattle.wire_nops.specs.declared.Strictness.{Strictness}
use Rattle.wire_nops.specs.declared.Strictness.TheVariants.{Plain}
use Rattle.wire_surplus.specs.Surplus.{start_of}
use Rattle.wire_reading.specs.Reading.{optionless, is_odd}
use Rattle.wire_reading.specs.Packet.{PacketReading as Reading}
use Rattle.wire_reading.specs.declared.Verdict.TheVariants.{Padded}
use Rattle.wire_reading.proofs.Stricts.{started-or-plain}
use Rattle.wire_datagram.specs.Reading.{udp_length, udp_checksum, refusal_tests, accepted, answered, reads, reading}

module _ (how : Strictness) (p : List ℕ) where
  -- the user data, 8 to L, and no option
  abbrev pub padded : PacketOffset → Reading
  padded at = optionless (udp_length p) (Padded at)

  abbrev OrPlain : Reading → Reading → Type 0
  OrPlain r q = ((at : PacketOffset) × (r ≡ padded at)) ⊎ (r ≡ q)

  accepted-or-plain : OrPlain (accepted how p) (accepted Plain p)
  unfolding accepted
  accepted-or-plain = started-or-plain how p (udp_length p) (start_of (is_odd (udp_length p)) (eqb (udp_checksum p) 0) (drop (udp_length p) p))

  pub reading-or-plain : (s d : List ℕ) → ((at : PacketOffset) × (reading how p s d ≡ reads (padded at))) ⊎ (reading how p s d ≡ reading Plain p s d)
  unfolding reading
  reading-or-plain s d = go (first_of (refusal_tests p s d)) accepted-or-plain
    where
      go : (o : Option ℕ) → OrPlain (accepted how p) (accepted Plain p)
          → ((at : PacketOffset) × (answered o (accepted how p) ≡ reads (padded at))) ⊎ (answered o (accepted how p) ≡ answered o (accepted Plain p))
      go (some n) a = inr refl
      go none a = ⊎_elim (λ q. inl (q.0, ap reads q.1)) (λ e. inr (ap reads e)) a
