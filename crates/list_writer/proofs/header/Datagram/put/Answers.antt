-- `list_writer::header::Datagram::put` meets its contract: the checksum is the field for the datagram's sum, and the datagram is laid with it.
use mathlib.Core.Path.{◌≡◌, ap, ◌∙◌}
use Prim.Native.Nat.{ℕ}
use Rattle.number_octets.specs.Octets.{octets}
use Rattle.number_offsets.specs.Offsets.{udp_header}
use Rattle.number_checksum.specs.Checksum.{sent}
use Rattle.list_payload.specs.Payload.{Datagram, datagram_with, udp_checksum_of}
use Rattle.list_wire.proofs.Laying.{laid_as}
use Rattle.list_writer.specs.Plain.{plain}
use Rattle.list_writer.proofs.header.Datagram.put.Goals as goal

pub returns : goal.returns
unfolding udp_checksum_of udp_header
returns c = let d : Datagram = plain c.args.self.now in
    let is : c.field.result ≡ udp_checksum_of d = c.field.ensures ∙ ap sent c.sum.ensures in
    laid_as (ap (λ (w : ℕ). datagram_with d (octets 2 w)) is) c.put_fields.ensures
