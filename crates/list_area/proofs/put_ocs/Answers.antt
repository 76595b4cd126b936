-- `list_area::put_ocs` meets its contract: the field for the area's sum is put in its place.
use mathlib.Core.Path.{ap, ◌∙◌}
use Prim.Native.Nat.{ℕ, ◌+◌, ◌%◌}
use Rattle.number_octets.specs.Octets.{octets, overlay}
use Rattle.number_checksum.specs.Checksum.{sent}
use Rattle.list_area.proofs.put_ocs.Goals as goal

pub returns : goal.returns
returns c = let a = c.args in
    c.put_u16.ensures
    ∙ ap (λ (w : ℕ). overlay a.buffer.now (a.at + a.at % 2) (octets 2 w)) (c.field.ensures ∙ ap sent c.add_block-sum.ensures)
