-- One step of the walk and how it goes on: names for what private functions answer.
use Rattle.std.specs.Prelude.{cond, Result, Ok, Err, List, ℕ, zero, suc, eqb, length}
use Rattle.number_octets.specs.Octets.{number}
use Rattle.number_octets.specs.Zeros.{zeros_of}
use Rattle.wire_nops.specs.Nops.{nop_limit, nops_of, is_padding}
use Rattle.wire_nops.specs.declared.Strictness.{Strictness}
use Rattle.wire_step.specs.Kinds.{apc, frag}
use Rattle.wire_step.specs.Step.{step_of}
use Rattle.wire_step.specs.declared.Step.{Step}
use Rattle.wire_step.specs.declared.Step.TheVariants.{End, Eol, Nop, Found, Malformed as Unsound, Outlawed}
use Rattle.wire_options.specs.Walk.{Item, item_of, fill_is_zero}
use Rattle.wire_options.specs.declared.walk.Fault.{Fault}
use Rattle.wire_options.specs.declared.walk.Fault.TheVariants.{Malformed, Unsafe, Crowded, Tail, Padded}
use Rattle.wire_options.specs.declared.walk.Progress.{Progress}
use Rattle.wire_options.specs.declared.walk.Progress.TheVariants.{On, Apc, Ended}
use Rattle.wire_options.specs.declared.walk.Ahead.{Ahead}

-- a fault, met so many bytes further on
abbrev pub failed : Fault → ℕ → Result Progress Ahead
failed fault size = Err (record { 0 = fault; 1 = size })

-- a sound option, where there is room for one
abbrev pub room_progress : ℕ → ℕ → Item → Result Progress Ahead
room_progress zero size item = failed Crowded 0
room_progress (suc room) size item = cond (eqb item.kind apc) (Ok (Apc room size (number item.body))) (Ok (On room size))

-- EOL: the fill, or a tail, met behind the zeros
abbrev pub end_progress : List ℕ → Result Progress Ahead
end_progress l = cond (fill_is_zero l) (Ok (Ended (length l))) (failed Tail (zeros_of l))

-- NOPs: all that stand in a row, or padding, met behind as many as there may be
abbrev pub nop_progress : Strictness → ℕ → ℕ → Result Progress Ahead
nop_progress strictness room nops = cond (is_padding strictness nops) (failed Padded nop_limit) (Ok (On room nops))

abbrev pub progress_in : Strictness → ℕ → List ℕ → Step → Result Progress Ahead
progress_in strictness room l End = Ok (Ended 0)
progress_in strictness room l Eol = end_progress l
progress_in strictness room l Nop = nop_progress strictness room (nops_of l)
progress_in strictness room l (Found kind header size) = cond (eqb kind frag) (failed Malformed 0) (room_progress room size (item_of kind header size l))
progress_in strictness room l Unsound = failed Malformed 0
progress_in strictness room l Outlawed = failed Unsafe 0

unfoldable pub progress_of : Strictness → ℕ → List ℕ → Result Progress Ahead
progress_of strictness room l = progress_in strictness room l (step_of l)
