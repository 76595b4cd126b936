-- `number_crc32c::state_after` meets its contract. The loop's invariant: from the register behind the words, it is the definition's after the bytes passed.
use mathlib.Core.Path.{refl, sym, ap, ◌∙◌}
use mathlib.Core.List.{List}
use Prim.Native.Nat.{ℕ, ◌+◌, ◌-◌, ◌*◌, ◌/◌}
use native.Mathlib.Omega.{arith}
use lib.ListN.{length, get_or}
use lib.Seq.{take_all}
use Rattle.number_octets.specs.Octets.{part}
use Rattle.number_crc32c.specs.Crc.{ones, byte_step, register}
use Rattle.number_crc32c.proofs.Laws.{register-next, register-take}
use Rattle.number_crc32c.proofs.state_after.Goals as goal

pub loop-byte-init : goal.loop-byte-init
unfolding register
loop-byte-init c = refl

pub loop-byte-preserved : goal.loop-byte-preserved
loop-byte-preserved c =
    let i = c.loop-byte.byte-index in
    let behind : ℕ = length c.args.bytes.now / 4 * 4 in
    let items : List ℕ = part behind (length c.args.bytes.now - behind) c.args.bytes.now in
    c.step-state.ensures ∙ ap (λ (r : ℕ). byte_step r (get_or items i 0)) c.loop-byte.invariant
    ∙ sym (register-next c.state_after_words-state.result i items c.loop-byte-test.true)

pub returns : goal.returns
returns c =
    let bytes = c.args.bytes.now in
    let behind : ℕ = length bytes / 4 * 4 in
    let items : List ℕ = part behind (length bytes - behind) bytes in
    c.loop-byte.invariant
    ∙ ap (register c.state_after_words-state.result) (take_all c.loop-byte.byte-index items c.loop-byte-test.false)
    ∙ ap (λ (r : ℕ). register r items) c.state_after_words-state.ensures
    ∙ sym (register-take ones behind (length bytes - behind) bytes)
    ∙ ap (register ones) (take_all (behind + (length bytes - behind)) bytes (omega arith))
