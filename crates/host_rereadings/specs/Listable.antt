-- As much of a rereading as its listing looks at, from values of include/wuraketozo.h.
use Rattle.std.specs.Prelude.{ℕ}
use Rattle.wire_original.specs.Rereading.{places}
use Rattle.wire_reading.specs.declared.Apc.TheVariants.{Absent}
use Rattle.wire_original.specs.declared.OriginalExtent.{OriginalExtent}
use Rattle.wire_original.specs.Original.{OriginalReading as Rereading}
use Rattle.host_readings.specs.Listable.{verdict_for}

abbrev pub rereading_for : ℕ → OriginalExtent → Rereading
rereading_for number options = record {
  user = places 0 0;
  verdict = verdict_for number;
  options = options;
  count = 0;
  fill = 0;
  apc = Absent;
}
