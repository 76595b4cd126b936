-- The record test's clauses as the functions here share them out.
use Rattle.std.specs.Prelude.{ℕ, Bool, not, ◌&&◌, eqb, leb}
use Rattle.client_record.specs.declared.Assembly.{Assembly}
use Rattle.client_record.specs.Limits.{fragment_limit}
use Rattle.client_record.specs.Lists.{all}
use Rattle.client_record.specs.Record.{
  fresh_flow,
  same_flow,
  sound_fragment,
  compatible,
  whole,
  held_fragments,
  opened_within,
}

-- key and time of an unused assembly are as in a fresh record
unfoldable pub unused_fields : Assembly → Bool
unused_fields a = same_flow a.flow fresh_flow && (eqb a.identification 0 && eqb a.opened 0)

-- what is asked of a live assembly, but for its spare slots
unfoldable pub sound_fields : ℕ → Assembly → Bool
sound_fields t a =
    leb a.count fragment_limit
    && ((all sound_fragment (held_fragments a) && (compatible (held_fragments a) && not (whole (held_fragments a)))) && opened_within t a)
