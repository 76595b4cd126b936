-- `number_checksum::block_sum` meets its contract. The loop's invariant: what was added is the low halves and the high halves, which with the sum
-- of the bytes that are left fold to the sum of the whole (`Halves`). A word of four bytes may stand for them in any such sum (`folded-plus`).
use Rattle.std.proofs.Common.{◌≡◌, ℕ, ◌+◌, ◌*◌, ◌/◌, ◌%◌, true, List, length, drop, ap, ◌∙◌, arith, rules}
use Rattle.number_checksum.specs.Checksum.{word_sum, folded}
use Rattle.number_checksum.proofs.Folding.{folded-plus}
use Rattle.number_checksum.proofs.Halves.{Halves, wraps, low-is}
use Rattle.number_checksum.proofs.block_sum.Goals as goal

pub loop-k-preserved : goal.loop-k-preserved
loop-k-preserved c = let bs : List ℕ = c.args.bytes.now in
    let k : ℕ = c.loop-k.k in
    let h = c.loop-k.invariant.2 in
    let x : ℕ = c.word-first.result in
    let y : ℕ = c.word-second.result in
    let sum : ℕ = h.low + c.loop-k.high in
    let left : ℕ → ℕ = λ i. word_sum true (drop i bs) in
    let next : 8 * (k + 1) ≡ 8 * k + 4 + 4 = omega arith in
    let rest : left (8 * (k + 1)) ≡ left (8 * k + 4 + 4) = ap left next in
    let second : folded (sum + x + (y + left (8 * k + 4 + 4))) ≡ folded (sum + x + left (8 * k + 4)) =
    folded-plus (sum + x) (y + left (8 * k + 4 + 4)) (left (8 * k + 4)) c.word-second.ensures.bytes_value in
    let first : folded (sum + (x + left (8 * k + 4))) ≡ folded (sum + left (8 * k)) =
    folded-plus sum (x + left (8 * k + 4)) (left (8 * k)) c.word-first.ensures.bytes_value in
    let halves : Halves bs (k + 1) ((c.loop-k.added + (x + y * 4294967296)) % 18446744073709551616) (c.loop-k.high + y) = record {
      low = h.low + x;
      bound = omega (arith, h.bound);
      sum = wraps c.loop-k.added h.low c.loop-k.high x y h.sum;
      folds = ap folded (omega arith) ∙ second ∙ ap folded (omega arith) ∙ first ∙ h.folds;
    } in
    (search rules, omega arith, halves)

pub returns : goal.returns
returns c = let bs : List ℕ = c.args.bytes.now in
    let h = c.loop-k.invariant.2 in
    let low = low-is h (omega arith) in
    let sum : ℕ = h.low + c.loop-k.high in
    let left : ℕ → ℕ = λ i. word_sum true (drop i bs) in
    let done : 8 * (length bs / 8) ≡ 8 * c.loop-k.k = omega arith in record {
      result_value = ap (λ (n : ℕ). folded (n + c.loop-k.high + c.rest_sum.result)) low
          ∙ folded-plus sum c.rest_sum.result (left (8 * (length bs / 8))) c.rest_sum.ensures.result_value
          ∙ ap (λ (i : ℕ). folded (sum + left i)) done ∙ h.folds;
      upper_bound = omega (arith, h.bound);
    }
