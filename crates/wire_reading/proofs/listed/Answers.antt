-- `wire_reading::listed` meets its contract: the arm knows what the walk told, and the reading by that is the definition's.
use Rattle.wire_reading.specs.Reading.{extent, no_data, optionless, walked}
use mathlib.Core.Path.{◌≡◌, sym, ap, ◌∙◌}
use mathlib.Core.List.{List}
use Prim.Native.Nat.{ℕ, ◌-◌}
use mathlib.Core.Bool.{Bool}
use Rattle.number_octets.specs.Octets.{part}
use Rattle.wire_nops.specs.declared.Strictness.{Strictness}
use Rattle.std.specs.Prelude.{Result, Ok}
use Rattle.wire_options.specs.declared.walk.Met.{Met}
use Rattle.wire_area.specs.declared.Area.{Area}
use native.Mathlib.Omega.{arith}
use lib.ListN.{length, drop}
use Rattle.number_octets.proofs.Laws.{part-rest}
use Rattle.number_offsets.specs.Offsets.{udp_header}
use Rattle.wire_area.specs.Area.{area_of, area_answer}
use Rattle.wire_area.specs.declared.Area.TheVariants.{Listed}
use Rattle.wire_reading.specs.ByWalk.{reading_by}
use Rattle.wire_reading.specs.declared.Verdict.TheVariants.{Read}
use Rattle.wire_reading.proofs.Readings.{reading-by-answer}
use Rattle.wire_reading.proofs.listed.Goals as goal

-- the walk was made of the list behind `from`
area : (strictness : Strictness) (empty : Bool) (payload : List ℕ) (size from : ℕ) (result met : Result Area Met)
    → result ≡ area_answer (area_of strictness empty from (part from (length payload - from) payload)) → result ≡ met
    → reading_by payload size from met ≡ walked payload size from (area_of strictness empty from (drop from payload))
area strictness empty payload size from result met e m =
    ap (reading_by payload size from) (sym m ∙ e ∙ ap (λ (t : List ℕ). area_answer (area_of strictness empty from t)) (part-rest from payload))
    ∙ reading-by-answer payload size from (area_of strictness empty from (drop from payload))

pub apc_of-requires : goal.apc_of-requires
unfolding udp_header
apc_of-requires c = omega (arith, c.requires)

pub returns-in-Ok-Listed : goal.returns-in-Ok-Listed
unfolding udp_header
returns-in-Ok-Listed c = let a = c.args in
    ◌∙◌ {b = reading_by a.payload.now a.size a.from.0 (Ok (Listed c.in-Ok-Listed.list))}
    (λ i. record {
      user = extent udp_header a.size;
      verdict = Read;
      options = extent a.from.0 (length a.payload.now);
      count = c.in-Ok-Listed.list.count;
      fill = c.in-Ok-Listed.list.fill;
      apc = c.apc_of.ensures i;
    })
    (area a.strictness (no_data a.size) a.payload.now a.size a.from.0 _ _ c.walk_area.ensures (c.in-Ok-Listed.is ∙ ap Ok c.in-Ok-Listed.field-0-is))

pub returns-in-Ok-Piece : goal.returns-in-Ok-Piece
unfolding udp_header
returns-in-Ok-Piece c = let a = c.args in
    c.optionless.ensures ∙ area a.strictness (no_data a.size) a.payload.now a.size a.from.0 _ _ c.walk_area.ensures (c.in-Ok-Piece.is ∙ ap Ok c.in-Ok-Piece.field-0-is)

pub returns-in-Err : goal.returns-in-Err
unfolding udp_header
returns-in-Err c = let a = c.args in
    c.optionless-in-Err.ensures ∙ ap (optionless a.size) c.from.ensures
    ∙ area a.strictness (no_data a.size) a.payload.now a.size a.from.0 _ _ c.walk_area.ensures c.in-Err.is
