-- `list_writer::header::Datagram::put_fields` meets its contract: the fields and the data are laid one behind the other.
use Rattle.list_writer.specs.Plain.{plain}
use Rattle.list_writer.proofs.Datagrams.{datagram-laid}
use Rattle.list_writer.proofs.header.Datagram.put_fields.Goals as goal

pub returns : goal.returns
returns c = let a = c.args in
    datagram-laid a.buffer.now _ _ _ _ _ (plain a.self.now) a.checksum c.requires
    c.put_u16.ensures c.put_u16-2.ensures c.put_u16-3.ensures c.put_u16-4.ensures
    c.copy.ensures
