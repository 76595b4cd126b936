-- `host_options::renext` meets its contract: the code tests what the definition does, and what is found ends within the original.
use mathlib.Core.Path.{sym, ap, ◌∙◌}
use native.Mathlib.Omega.{arith}
use lib.ListN.{length}
use Rattle.list_readings.proofs.Values.{extent-inside}
use Rattle.host_options.specs.Options.{original_option, renext_in}
use Rattle.host_options.proofs.Fits.{part-fits}
use Rattle.host_options.proofs.Tested.{tested}
use Rattle.host_options.proofs.renext.Goals as goal

pub slice_bounds-next_option-count : goal.slice_bounds-next_option-count
slice_bounds-next_option-count c = let a = c.args in
    omega (arith, extent-inside c.verdict_for.result a.rest.from.0 a.rest.to.0 (length a.original.now) (sym c.is_listed.ensures ∙ c.if-is_listed.true))

pub original_option-requires : goal.original_option-requires
original_option-requires c = let a = c.args in
    let inside = extent-inside c.verdict_for.result a.rest.from.0 a.rest.to.0 (length a.original.now) (sym c.is_listed.ensures ∙ c.if-is_listed.true) in
    part-fits a.original.now a.rest.from.0 a.rest.to.0 c.next_option.result inside.0 inside.1 (omega arith) (sym c.next_option.ensures)

pub returns-then-is_listed : goal.returns-then-is_listed
unfolding renext_in
returns-then-is_listed c = let a = c.args in
    c.original_option.ensures ∙ ap (original_option a.rest.from.0) c.next_option.ensures
    ∙ sym (simp (tested a.original.now a.verdict a.rest.from.0 a.rest.to.0 c.verdict_for.ensures c.is_listed.ensures c.if-is_listed.true))

pub returns : goal.returns
unfolding renext_in
returns c = let a = c.args in
    c.no_original_option.ensures
    ∙ sym (simp (tested a.original.now a.verdict a.rest.from.0 a.rest.to.0 c.verdict_for.ensures c.is_listed.ensures c.if-is_listed.false))
