-- `program_report::put_listing` meets its contract: the lines of the options are put and then the fill.
use mathlib.Core.Path.{◌≡◌, ap}
use mathlib.Core.List.{List}
use Prim.Native.Nat.{ℕ, ◌+◌, ◌-◌}
use native.Mathlib.Omega.{arith}
use lib.ListN.{length}
use Rattle.number_octets.specs.Octets.{part}
use Rattle.number_octets.proofs.Laws.{length_part}
use Rattle.wire_options.specs.Walk.{walk_from, option_limit, options_of}
use Rattle.program_lines.specs.Lines.{option_lines}
use Rattle.program_report.specs.Report.{number_line, listing_of}
use Rattle.program_text.proofs.Puts.{put_as, put-append, put-room}
use Rattle.program_report.proofs.put_listing.Goals as goal

pub put_line-requires : goal.put_line-requires
put_line-requires c = put-room c.requires.0 c.put_items-listed.ensures

pub returns : goal.returns
unfolding number_line listing_of
returns c = let a = c.args in
    let from : ℕ = a.options.from.0 in
    let list : List ℕ = part from (a.options.to.0 - from) a.payload.now in
    let end : from + length list ≡ a.options.to.0 =
    omega (arith, c.requires.1.ordered, length_part from (a.options.to.0 - from) a.payload.now (omega (arith, c.requires.1.ordered, c.requires.1.within))) in
    put-append c.requires.0
    (put_as (ap (λ (n : ℕ). option_lines n (options_of (walk_from option_limit 0 list))) end) c.put_items-listed.ensures) c.put_line.ensures
