-- `wire_area::fields_of` meets its contract: each field is the number at its place.
use mathlib.Core.Path.{◌≡◌, sym, ◌∙◌}
use mathlib.Core.Bool.{cond}
use borrow.Author.Tests.{eq-eqb, ne_eqb}
use lib.Dec.{eqb}
use Rattle.number_octets.specs.Octets.{number, part}
use Rattle.number_offsets.specs.Offsets.{udp_header}
use Rattle.wire_area.specs.Area.{fields_of}
use Rattle.wire_area.proofs.fields_of.Goals as goal
use Rattle.wire_area.proofs.fields_of.Goals.{then-last, else-last}

pub returns : goal.returns
unfolding fields_of udp_header
returns c = let a = c.args in
    let r : c.if-last.option_start ≡ cond (eqb a.size 12) (number (part 10 2 a.option.now)) 8 =
    elim c.if-last.branch [
      | then-last w ↦ w.option_start-is ∙ w.get_u16-option_start.ensures ∙ sym (simp (eq-eqb a.size 12 w.if-last.true))
      | else-last w ↦ w.option_start-is ∙ sym (simp (ne_eqb a.size 12 w.if-last.false))
    ] in (
      λ i. record {
        start = record { 0 = c.get_u16.ensures i };
        identification = c.get_u32.ensures i;
        offset = c.get_u16-2.ensures i;
        last = eqb a.size 12;
        option_start = r i;
      },
      c.get_u16.type_inv,
    )
