-- `number_octets::get_u16` meets its contract: two bytes are the digits of the number (`number-two`).
use native.Mathlib.Omega.{arith}
use Rattle.number_octets.proofs.Laws.{number-two}
use Rattle.number_octets.proofs.get_u16.Goals as goal

pub returns : goal.returns
returns c = omega (arith, number-two c.args.at c.args.bytes.now c.requires)
