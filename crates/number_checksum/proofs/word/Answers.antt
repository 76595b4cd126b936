-- `number_checksum::word` meets its contract: in a folded sum four bytes count as the two words that they make (`folded-word`).
use Rattle.std.proofs.Common.{ap, ◌∙◌, arith}
use Rattle.number_octets.proofs.Laws.{little-four}
use Rattle.number_checksum.specs.Checksum.{folded}
use Rattle.number_checksum.proofs.Folding.{folded-word}
use Rattle.number_checksum.proofs.word.Goals as goal

pub returns : goal.returns
returns c =
    let four = little-four c.args.at c.args.bytes.now c.requires in
    record { bytes_value = ap folded (omega arith) ∙ folded-word c.args.bytes.now c.args.at (omega arith); upper_bound = omega arith }
