-- `wire_nops::block_difference` meets its contract. The loop's invariant: where no bit is different so far, the words so far are NOPs.
use mathlib.Core.Path.{◌≡◌, sym, ap, ◌∙◌}
use Prim.Native.Nat.{ℕ, ◌+◌, ◌*◌, ◌<◌}
use native.Mathlib.Omega.{arith}
use lib.ListN.{drop, get_or}
use Rattle.wire_nops.specs.Nops.{nops_of}
use Rattle.wire_nops.proofs.Counts.{nops-four, none-different}
use Rattle.wire_nops.proofs.block_difference.Goals as goal

pub loop-k-preserved : goal.loop-k-preserved
loop-k-preserved c e = let list = c.args.list.now in
    let octets : (i : ℕ) → get_or list i 0 < 256 = λ i. omega (arith, c.type_inv.list i) in
    let at : ℕ = c.args.at in
    let k : ℕ = c.loop-k.k in
    let next : at + 4 * k + 4 ≡ at + 4 * (k + 1) = omega arith in
    let both = none-different c.loop-k.different c.get_u32_little.result e in
    let so_far = c.loop-k.invariant both.0 in
    let four : nops_of (drop (at + 4 * k) list) ≡ 4 + nops_of (drop (at + 4 * (k + 1)) list) =
    nops-four list (at + 4 * k) (omega arith) octets (sym c.get_u32_little.ensures ∙ both.1)
    ∙ ap (λ (i : ℕ). 4 + nops_of (drop i list)) next in
    omega arith
