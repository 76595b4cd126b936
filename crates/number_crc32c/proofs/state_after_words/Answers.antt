-- `number_crc32c::state_after_words` meets its contract. The loop's invariant: the register is the definition's after k blocks, the last of which may be
-- shorter. Assumes nothing.
use mathlib.Core.Path.{◌≡◌, refl, sym, ap, ◌∙◌}
use Prim.Native.Nat.{ℕ, ◌+◌, ◌-◌, ◌*◌, ◌/◌}
use native.Mathlib.Decide.{dec_lt}
use native.Mathlib.Omega.{arith}
use lib.ListN.{length, take}
use Rattle.number_octets.specs.Octets.{part}
use Rattle.number_crc32c.specs.Crc.{ones, register}
use Rattle.number_crc32c.proofs.Laws.{register-take}
use Rattle.number_crc32c.proofs.state_after_words.Goals as goal

pub loop-k-init : goal.loop-k-init
unfolding register ones
loop-k-init c = let bytes = c.args.bytes.now in
    record {
      count = omega arith;
      more = λ more. refl;
      done = λ none. let empty : length bytes / 4 * 4 ≡ 0 = omega arith in sym (ap (λ (n : ℕ). register ones (take n bytes)) empty);
    }

pub loop-k-preserved : goal.loop-k-preserved
loop-k-preserved c = let bytes = c.args.bytes.now in
    let k = c.loop-k.k in
    let here : c.loop-k.state ≡ register ones (take (16 * k) bytes) = c.loop-k.invariant.more (omega arith) in
    let moved : (n : ℕ) → register c.loop-k.state (part (16 * k) n bytes) ≡ register ones (take (16 * k + n) bytes) =
    λ n. ap (λ (r : ℕ). register r (part (16 * k) n bytes)) here ∙ sym (register-take ones (16 * k) n bytes) in
    let to : (n m : ℕ) → 16 * k + n ≡ m → register c.loop-k.state (part (16 * k) n bytes) ≡ register ones (take m bytes) =
    λ n m e. moved n ∙ ap (λ (i : ℕ). register ones (take i bytes)) e in
    let block = c.block_at-block.ensures in record {
      count = omega arith;
      more = λ more. c.step_words-state.ensures ∙ block.full (omega arith) ∙ to 16 (16 * (k + 1)) (omega arith);
      done = λ done. c.step_words-state.ensures
          ∙ elim (dec_lt (length bytes) (16 * k + 16)) [
            | yes short ↦ block.last short ∙ to ((length bytes - 16 * k) / 4 * 4) (length bytes / 4 * 4) (omega arith)
            | no long ↦ block.full (omega arith) ∙ to 16 (length bytes / 4 * 4) (omega arith)
          ];
    }
