-- As much of a reading as its listing looks at, from values of include/wuraketozo.h.
use Rattle.std.specs.Prelude.{ℕ, cond, eqb}
use Rattle.wire_reading.specs.Verdict.{verdict_says}
use Rattle.wire_reading.specs.Reading.{extent}
use Rattle.wire_reading.specs.declared.Apc.TheVariants.{Absent}
use Rattle.wire_reading.specs.declared.Verdict.{Verdict}
use Rattle.wire_reading.specs.declared.Verdict.TheVariants.{Bare, Read}
use Rattle.wire_reading.specs.declared.Extent.{Extent}
use Rattle.wire_reading.specs.Packet.{PacketReading as Reading}

-- the number of "read" is a verdict with options, any other one without
abbrev pub verdict_for : ℕ → Verdict
verdict_for number = cond (eqb number (verdict_says Read).number) Read Bare

-- a reading with as much as its listing looks at
abbrev pub reading_for : ℕ → Extent → Reading
reading_for number options = record {
  user = extent 0 0;
  verdict = verdict_for number;
  options = options;
  count = 0;
  fill = 0;
  apc = Absent;
}
