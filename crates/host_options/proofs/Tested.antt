-- The code's test of a part of bytes is the definition's.
-- Assumes nothing.
use mathlib.Core.Path.{◌≡◌, sym, ap, ◌∙◌}
use mathlib.Core.Bool.{Bool}
use mathlib.Core.List.{List}
use Prim.Native.Nat.{ℕ}
use lib.ListN.{length}
use Rattle.wire_reading.specs.declared.Verdict.{Verdict}
use Rattle.list_readings.specs.Catalogue.{is_listed}
use Rattle.host_readings.specs.Listable.{verdict_for}

pub tested : (bytes : List ℕ) (number from to : ℕ) {verdict : Verdict} {test answer : Bool} → verdict ≡ verdict_for number
    → test ≡ is_listed verdict from to (length bytes) → test ≡ answer → is_listed (verdict_for number) from to (length bytes) ≡ answer
tested bytes number from to of says is = ap (λ (v : Verdict). is_listed v from to (length bytes)) (sym of) ∙ sym says ∙ is
