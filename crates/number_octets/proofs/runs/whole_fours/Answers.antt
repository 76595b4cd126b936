-- `number_octets::runs::whole_fours` meets its contract. The loop's invariant: the row goes as far from the bytes passed as from `from`.
use Rattle.std.proofs.Common.{ℕ, ◌<◌, get_or, arith}
use Rattle.number_octets.proofs.RunBytes.{run-four}
use Rattle.number_octets.proofs.runs.whole_fours.Goals as goal

pub loop-n-preserved : goal.loop-n-preserved
loop-n-preserved g c =
    let octets : (k : ℕ) → get_or c.args.bytes.now k 0 < 256 = λ k. omega (arith, c.type_inv.bytes k) in
    let four = run-four g.row.BYTE c.args.bytes.now c.loop-n.n (omega (arith, g.BYTE.fits)) (omega arith) octets (omega arith) in
    record { within = omega arith; passed = omega arith }
