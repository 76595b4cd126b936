-- `number_octets::put_u32` meets its contract: its two halves are laid one behind the other (`overlay-four`).
use mathlib.Core.Path.{ap, ◌∙◌}
use mathlib.Core.List.{List}
use Prim.Native.Nat.{ℕ, ◌+◌, ◌%◌}
use Rattle.number_octets.specs.Octets.{octets, overlay}
use Rattle.number_octets.proofs.Laws.{overlay-four}
use Rattle.number_octets.proofs.put_u32.Goals as goal

pub returns : goal.returns
returns c = let a = c.args in
    c.put_u16-2.ensures
    ∙ ap (λ (t : List ℕ). overlay t (a.at + 2) (octets 2 (a.value % 65536))) c.put_u16.ensures
    ∙ overlay-four a.bytes.now a.at a.value c.requires
