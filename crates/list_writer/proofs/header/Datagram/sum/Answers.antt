-- `list_writer::header::Datagram::sum` meets its contract: the words of the header are its fields (`header-sum`).
use mathlib.Core.Path.{ap, ◌∙◌}
use mathlib.Core.List.{[], ◌∷◌}
use native.Mathlib.Omega.{arith}
use Rattle.number_checksum.specs.Checksum.{folded}
use Rattle.number_offsets.specs.Offsets.{udp_header}
use Rattle.list_payload.specs.Payload.{Datagram, datagram_with}
use Rattle.list_writer.specs.Plain.{plain}
use Rattle.list_writer.proofs.Datagrams.{header-sum}
use Rattle.list_writer.proofs.header.Datagram.sum.Goals as goal

pub returns : goal.returns
unfolding udp_header
returns c = let d : Datagram = plain c.args.self.now in
    let words = header-sum d (omega (arith, c.fits-self)) (omega (arith, c.fits-self)) c.args.self.now.fits in
    c.add_block.ensures ∙ ap folded (omega (arith, words)) ∙ c.pseudo_sum-pseudo.ensures.begins.folds (datagram_with d (0 ∷ 0 ∷ []))
