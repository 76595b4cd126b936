-- `number_octets::get_u32_little` meets its contract: four bytes are the digits of the number (`little-four`).
use native.Mathlib.Omega.{arith}
use Rattle.number_octets.proofs.Laws.{little-four}
use Rattle.number_octets.proofs.get_u32_little.Goals as goal

pub returns : goal.returns
returns c = omega (arith, little-four c.args.at c.args.bytes.now c.requires)
