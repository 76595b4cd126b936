-- `number_crc32c::block_at` meets its contract: each number of words is the register after their bytes (`one_word` to `four-words`).
use mathlib.Core.Path.{◌≡◌, ap, ◌∙◌}
use Prim.Native.Nat.{ℕ, ◌+◌, ◌-◌, ◌*◌, ◌/◌}
use native.Mathlib.Omega.{arith}
use lib.Bits.{bit_xor}
use lib.ListN.{length}
use Rattle.number_octets.specs.Octets.{part}
use Rattle.number_crc32c.specs.Crc.{register}
use Rattle.number_crc32c.specs.Words.{joined}
use Rattle.number_crc32c.proofs.Words.{little, one_word, two-words, three-words, four-words}
use Rattle.number_crc32c.proofs.block_at.Goals as goal

pub returns-then-left-ge16 : goal.returns-then-left-ge16
returns-then-left-ge16 c = let a = c.args in
    let bs = a.bytes.now in
    let word : joined (bit_xor a.state c.get_u32_little.result) c.get_u32_little-then-left-ge16.result c.get_u32_little-then-left-ge16-2.result c.get_u32_little-then-left-ge16-3.result ≡ register a.state (part a.at 16 bs) =
    ap (λ (x : ℕ). joined (bit_xor a.state (x)) c.get_u32_little-then-left-ge16.result c.get_u32_little-then-left-ge16-2.result c.get_u32_little-then-left-ge16-3.result) c.get_u32_little.ensures
    ∙ ap (λ (x : ℕ). joined (bit_xor a.state (little a.at bs)) (x) c.get_u32_little-then-left-ge16-2.result c.get_u32_little-then-left-ge16-3.result) c.get_u32_little-then-left-ge16.ensures
    ∙ ap (λ (x : ℕ). joined (bit_xor a.state (little a.at bs)) (little (a.at + 4) bs) (x) c.get_u32_little-then-left-ge16-3.result) c.get_u32_little-then-left-ge16-2.ensures
    ∙ ap (λ (x : ℕ). joined (bit_xor a.state (little a.at bs)) (little (a.at + 4) bs) (little (a.at + 8) bs) (x)) c.get_u32_little-then-left-ge16-3.ensures
    ∙ four-words a.state a.at bs (λ i. (c.type_inv.bytes i).fits) (omega arith) in
    record { full = λ h. word; last = λ h. absurd (omega arith) }

pub returns-then-left-ge12 : goal.returns-then-left-ge12
returns-then-left-ge12 c = let a = c.args in
    let bs = a.bytes.now in
    let word : joined 0 (bit_xor a.state c.get_u32_little-then-left-ge12.result) c.get_u32_little-then-left-ge12-2.result c.get_u32_little-then-left-ge12-3.result ≡ register a.state (part a.at 12 bs) =
    ap (λ (x : ℕ). joined 0 (bit_xor a.state (x)) c.get_u32_little-then-left-ge12-2.result c.get_u32_little-then-left-ge12-3.result) c.get_u32_little-then-left-ge12.ensures
    ∙ ap (λ (x : ℕ). joined 0 (bit_xor a.state (little a.at bs)) (x) c.get_u32_little-then-left-ge12-3.result) c.get_u32_little-then-left-ge12-2.ensures
    ∙ ap (λ (x : ℕ). joined 0 (bit_xor a.state (little a.at bs)) (little (a.at + 4) bs) (x)) c.get_u32_little-then-left-ge12-3.ensures
    ∙ three-words a.state a.at bs (λ i. (c.type_inv.bytes i).fits) (omega arith) in
    let size : 12 ≡ (length bs - a.at) / 4 * 4 = omega arith in
    record { full = λ h. absurd (omega arith); last = λ h. word ∙ ap (λ (n : ℕ). register a.state (part a.at n bs)) size }

pub returns-then-left-ge8 : goal.returns-then-left-ge8
returns-then-left-ge8 c = let a = c.args in
    let bs = a.bytes.now in
    let word : joined 0 0 (bit_xor a.state c.get_u32_little-then-left-ge8.result) c.get_u32_little-then-left-ge8-2.result ≡ register a.state (part a.at 8 bs) =
    ap (λ (x : ℕ). joined 0 0 (bit_xor a.state (x)) c.get_u32_little-then-left-ge8-2.result) c.get_u32_little-then-left-ge8.ensures
    ∙ ap (λ (x : ℕ). joined 0 0 (bit_xor a.state (little a.at bs)) (x)) c.get_u32_little-then-left-ge8-2.ensures
    ∙ two-words a.state a.at bs (λ i. (c.type_inv.bytes i).fits) (omega arith) in
    let size : 8 ≡ (length bs - a.at) / 4 * 4 = omega arith in
    record { full = λ h. absurd (omega arith); last = λ h. word ∙ ap (λ (n : ℕ). register a.state (part a.at n bs)) size }

pub returns : goal.returns
returns c = let a = c.args in
    let bs = a.bytes.now in
    let word : joined 0 0 0 (bit_xor a.state c.get_u32_little-2.result) ≡ register a.state (part a.at 4 bs) =
    ap (λ (x : ℕ). joined 0 0 0 (bit_xor a.state (x))) c.get_u32_little-2.ensures
    ∙ one_word a.state a.at bs (λ i. (c.type_inv.bytes i).fits) (omega arith) in
    let size : 4 ≡ (length bs - a.at) / 4 * 4 = omega arith in
    record { full = λ h. absurd (omega arith); last = λ h. word ∙ ap (λ (n : ℕ). register a.state (part a.at n bs)) size }
