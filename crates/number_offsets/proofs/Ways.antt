-- From a field to its place and back: each way undoes the other, so that an offset in a reread original is 8 plus its place and nothing else.
-- Assumes nothing.
use mathlib.Core.Path.{◌≡◌, refl, ap, ◌∙◌}
use mathlib.Core.Bool.{Bool, true, false}
use Prim.Native.Nat.{ℕ, ◌+◌, ◌-◌}
use native.Mathlib.Omega.{arith}
use borrow.Author.Tests.{le-ltb, ltb-false}
use lib.Dec.{ltb}
use Rattle.number_offsets.specs.Offsets.{udp_header, origin_of, place_of, offset_of}
use Rattle.number_offsets.specs.declared.PacketOffset.{PacketOffset}
use Rattle.number_offsets.specs.declared.OriginalOffset.{OriginalOffset}
use Rattle.std.proofs.Common.{Some}

pub place-back : (place : OriginalOffset) → place_of (offset_of place).0 ≡ Some place
unfolding place_of offset_of udp_header
place-back place =
    let down : 8 + place.0 - 8 ≡ place.0 = omega arith in
    ap (λ (t : Bool). origin_of t (8 + place.0)) (le-ltb (8 + place.0) 8 (omega arith)) ∙ ap (λ (n : ℕ). Some (record { 0 = n })) down

pub offset-back : (field : ℕ) (place : OriginalOffset) → place_of field ≡ Some place → offset_of place ≡ record { 0 = field }
unfolding place_of offset_of udp_header
offset-back field place e = go (ltb field 8) refl e
  where
    go : (t : Bool) → ltb field 8 ≡ t → origin_of t field ≡ Some place → ◌≡◌ {A = PacketOffset} (record { 0 = 8 + place.0 }) (record { 0 = field })
    go true b e = absurd (let z : ◌≡◌ {A = ℕ} 0 1 = cc in omega arith)
    go false b e =
        let same : field - 8 ≡ place.0 = cc in
        let up : 8 + place.0 ≡ field = omega (arith, ltb-false field 8 b) in
        ap (λ (n : ℕ). record { 0 = n }) up
