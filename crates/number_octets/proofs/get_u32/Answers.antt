-- `number_octets::get_u32` meets its contract: four bytes are two numbers of two bytes (`number-four`).
use native.Mathlib.Omega.{arith}
use Rattle.number_octets.proofs.Laws.{number-four}
use Rattle.number_octets.proofs.get_u32.Goals as goal

pub returns : goal.returns
returns c = omega (arith, number-four c.args.at c.args.bytes.now c.requires)
