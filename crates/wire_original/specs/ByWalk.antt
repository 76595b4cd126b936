-- A rereading by what the walk of the list answers: what the functions that make it answer.
use Rattle.std.specs.Prelude.{Result, Ok, Err, List, ℕ, length, take}
use Rattle.wire_options.specs.declared.walk.Listed.{Listed}
use Rattle.wire_options.specs.declared.walk.Met.{Met}
use Rattle.wire_original.specs.Rereading.{places, original_faulty, rereads, ReAnswer}
use Rattle.wire_reading.specs.declared.Verdict.TheVariants.{Read}
use Rattle.wire_reading.specs.ByWalk.{apc_by}

abbrev pub rewalked_by : List ℕ → ℕ → ℕ → Result Listed Met → ReAnswer
rewalked_by original r from (Ok list) = rereads (record {
  user = places 0 r;
  verdict = Read;
  options = places from (length original);
  count = list.count;
  fill = list.fill;
  apc = apc_by (take r original) list.apcs;
})
rewalked_by original r from (Err met) = original_faulty r met.fault met.at
