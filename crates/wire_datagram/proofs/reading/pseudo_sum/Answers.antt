-- `wire_datagram::reading::pseudo_sum` meets its contract: an address folds as the sum of its two words (`pseudo-folds`).
use mathlib.Core.Path.{◌≡◌, ap₂, ◌∙◌}
use mathlib.Core.Bool.{false}
use mathlib.Core.List.{List, ◌++◌}
use Prim.Native.Nat.{ℕ, ◌+◌}
use native.Mathlib.Omega.{arith}
use lib.ListN.{length}
use Rattle.number_checksum.specs.Checksum.{folded, word_sum}
use Rattle.wire_datagram.specs.Reading.{pseudo_header}
use Rattle.wire_datagram.proofs.Sums.{pseudo-folds}
use Rattle.wire_datagram.proofs.reading.pseudo_sum.Goals as goal

-- src/reading.rt:122:1
pub returns : goal.returns
returns c = let a = c.args in
    let s : length a.source ≡ 4 = omega arith in
    let t : length a.destination ≡ 4 = omega arith in
    let folds : (rest : List ℕ) → folded (c.get_u32.result + c.get_u32-2.result + 17 + a.size + word_sum false rest)
    ≡ folded (word_sum false (pseudo_header a.source a.destination a.size ++ rest)) =
    λ rest. ap₂ (λ (x y : ℕ). folded (x + y + 17 + a.size + word_sum false rest)) c.get_u32.ensures c.get_u32-2.ensures
    ∙ pseudo-folds a.source a.destination a.size rest s t c.requires in
    record { begins = record { folds = folds }; upper_bound = omega (arith, c.get_u32-2.type_inv, c.get_u32.type_inv) }
