-- `host_options::next` meets its contract: the code tests what the definition does, and what is found ends within the payload.
use mathlib.Core.Path.{sym, ap, ◌∙◌}
use native.Mathlib.Omega.{arith}
use lib.ListN.{length}
use Rattle.list_readings.proofs.Values.{extent-inside}
use Rattle.host_options.specs.Options.{packet_option, next_in}
use Rattle.host_options.proofs.Fits.{part-fits}
use Rattle.host_options.proofs.Tested.{tested}
use Rattle.host_options.proofs.next.Goals as goal

pub slice_bounds-next_option-count : goal.slice_bounds-next_option-count
slice_bounds-next_option-count c = let a = c.args in
    omega (arith, extent-inside c.verdict_for.result a.rest.from.0 a.rest.to.0 (length a.payload.now) (sym c.is_listed.ensures ∙ c.if-is_listed.true))

pub packet_option-requires : goal.packet_option-requires
packet_option-requires c = let a = c.args in
    let inside = extent-inside c.verdict_for.result a.rest.from.0 a.rest.to.0 (length a.payload.now) (sym c.is_listed.ensures ∙ c.if-is_listed.true) in
    part-fits a.payload.now a.rest.from.0 a.rest.to.0 c.next_option.result inside.0 inside.1 (omega arith) (sym c.next_option.ensures)

pub returns-then-is_listed : goal.returns-then-is_listed
unfolding next_in
returns-then-is_listed c = let a = c.args in
    c.packet_option.ensures ∙ ap (packet_option a.rest.from.0) c.next_option.ensures
    ∙ sym (simp (tested a.payload.now a.verdict a.rest.from.0 a.rest.to.0 c.verdict_for.ensures c.is_listed.ensures c.if-is_listed.true))

pub returns : goal.returns
unfolding next_in
returns c = let a = c.args in
    c.no_packet_option.ensures
    ∙ sym (simp (tested a.payload.now a.verdict a.rest.from.0 a.rest.to.0 c.verdict_for.ensures c.is_listed.ensures c.if-is_listed.false))
