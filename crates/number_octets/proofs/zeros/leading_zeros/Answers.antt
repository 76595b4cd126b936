-- `number_octets::zeros::leading_zeros` meets its contract: the zeros at the front are a row of bytes of value 0 (`zeros-run`).
use Rattle.std.proofs.Common.{arith}
use Rattle.number_octets.proofs.ZeroBytes.{zeros-run}
use Rattle.number_octets.proofs.zeros.leading_zeros.Goals as goal

pub returns : goal.returns
returns c = let run = zeros-run c.args.bytes.now in (omega arith, omega arith)
