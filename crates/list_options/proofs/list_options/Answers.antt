-- `list_options::list_options` meets its contract: a walk that is answered as sound is listed, and a faulty one is listed as no option.
use mathlib.Core.Path.{refl, sym, ◌∙◌}
use Rattle.wire_options.specs.Walk.{walk_from, option_limit}
use Rattle.list_options.proofs.Listeds.{answer-sound, answer-faulty}
use Rattle.list_options.proofs.list_options.Goals as goal

pub list_sound-requires : goal.list_sound-requires
unfolding option_limit
list_sound-requires c = let a = c.args in
    answer-sound _ (walk_from option_limit 0 a.options.now) _ (sym c.walk_list-walked.ensures ∙ c.in-Ok.is)

pub list_sound-requires-in-Err : goal.list_sound-requires-in-Err
unfolding walk_from
list_sound-requires-in-Err c = (tt, refl, refl)

pub returns-in-Err : goal.returns-in-Err
unfolding option_limit walk_from
returns-in-Err c = answer-faulty _ _ _ _ _ _ (sym c.walk_list-walked.ensures ∙ c.in-Err.is) c.list_sound-in-Err.ensures
