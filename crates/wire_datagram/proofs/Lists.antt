-- With "read" the option list of a reading reaches to the end of the bytes, and its walk gives as many options as are counted and the fill, which is
-- zero bytes: no other verdict comes from a walk that lists options.
-- Assumes nothing.
use mathlib.Core.Path.{◌≡◌, refl, subst}
use mathlib.Core.List.{List}
use Prim.Native.Nat.{ℕ}
use Rattle.wire_nops.specs.declared.Strictness.{Strictness}
use Rattle.wire_options.proofs.Rests.{Fills}
use Rattle.wire_reading.specs.declared.Verdict.TheVariants.{Read, Piece}
use Rattle.wire_reading.specs.Packet.{PacketReading as Reading}
use Rattle.wire_reading.proofs.Cases.{Other}
use Rattle.wire_reading.proofs.Lists.{ListsIn, lists-fill, not-read}
use Rattle.wire_datagram.specs.Reading.{reads, reading}
use Rattle.wire_datagram.proofs.Claims.{reading-by}

pub reading-lists : (how : Strictness) (p s d : List ℕ) (r : Reading) → reading how p s d ≡ reads r → r.verdict ≡ Read → ListsIn p r
reading-lists how p s d r e =
    reading-by how (λ x. x.verdict ≡ Read → ListsIn p x) p s d r e
    (λ end verdict o v. absurd (subst Other v o))
    (λ from options fill h w v. record { found = options; ordered = h; ends = refl; walks = w; counts = refl })
    (λ from f h a v. absurd (not-read (Piece f) refl v))

-- Document 02, R-2: with "read" the fill is zero bytes throughout.
pub reading-fill : (how : Strictness) (p s d : List ℕ) (r : Reading) → reading how p s d ≡ reads r → r.verdict ≡ Read → Fills r.options.from.0 p r.fill
reading-fill how p s d r e v = lists-fill p r.options.from.0 r.options.to.0 r.count r.fill (reading-lists how p s d r e v)
