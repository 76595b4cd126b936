-- A rereading as a value of include/wuraketozo.h. What a value does not say is 0.
use Rattle.std.specs.Prelude.{ℕ}
use Rattle.wire_reading.specs.Verdict.{verdict_says, fault_at, apc_says}
use Rattle.wire_original.specs.Rereading as Reread
use Rattle.wire_original.specs.Rereading.{places}
use Rattle.wire_original.specs.Original.{OriginalReading as Reaccepted}
use Rattle.host_readings.specs.Reading.{offset_or}
use Rattle.host_rereadings.specs.declared.Rereading.{Rereading}

-- "A refusal returns its number only"
abbrev pub unreread : ℕ → Rereading
unreread refusal = record { refusal = refusal; verdict = 0; user = places 0 0; options = places 0 0; count = 0; fill = 0; fault_at = record { 0 = 0 }; apc = 0 }

-- what a reading has, but no fragment: an original is never one
abbrev pub rereading_from : Reaccepted → Rereading
rereading_from r = record {
  refusal = 0;
  verdict = (verdict_says r.verdict).number;
  user = r.user;
  options = r.options;
  count = r.count;
  fill = r.fill;
  fault_at = offset_or (fault_at r.verdict);
  apc = (apc_says r.apc).number;
}

-- demand 2's reading of an original
abbrev pub host_rereading : Reread.ReAnswer → Rereading
host_rereading (Reread.refused n) = unreread n
host_rereading (Reread.rereads r) = rereading_from r
