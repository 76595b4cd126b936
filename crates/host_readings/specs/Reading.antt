-- A reading as a value of include/wuraketozo.h. What a value does not say is 0.
use Rattle.std.specs.Prelude.{ℕ, Bool, true, false, Option, Some, None}
use Rattle.number_offsets.specs.declared.PacketOffset.{PacketOffset}
use Rattle.wire_area.specs.declared.Fragment.{Fragment}
use Rattle.wire_reading.specs.Verdict.{verdict_says, fault_at, apc_says}
use Rattle.wire_datagram.specs.Reading as Read
use Rattle.wire_reading.specs.Reading.{extent}
use Rattle.wire_reading.specs.declared.Verdict.{Verdict}
use Rattle.wire_reading.specs.Packet.{PacketReading as Accepted}
use Rattle.host_readings.specs.declared.Reading.{Reading}

abbrev pub flag_of : Bool → ℕ
flag_of true = 1
flag_of false = 0

abbrev pub no_fragment : Fragment
no_fragment = record {
  identification = 0;
  place = record { 0 = 0 };
  start = record { 0 = 0 };
  end = record { 0 = 0 };
  last = false;
  option_start = record { 0 = 0 };
}

abbrev pub fragment_or : Option Fragment → Fragment
fragment_or None = no_fragment
fragment_or (Some fragment) = fragment

-- where a fault was met
abbrev pub offset_or : Option PacketOffset → PacketOffset
offset_or None = record { 0 = 0 }
offset_or (Some at) = at

-- the fragment of a verdict "piece"
abbrev pub fragment_in : Verdict → Fragment
fragment_in verdict = fragment_or (verdict_says verdict).values

-- "A refusal returns its number only"
abbrev pub unread : ℕ → Reading
unread refusal = record {
  refusal = refusal;
  verdict = 0;
  user = extent 0 0;
  options = extent 0 0;
  count = 0;
  fill = 0;
  fault_at = record { 0 = 0 };
  apc = 0;
  identification = 0;
  place = record { 0 = 0 };
  part = extent 0 0;
  option_start = record { 0 = 0 };
  last = 0;
}

abbrev pub with_fragment : Fragment → Accepted → Reading
with_fragment f r = record {
  refusal = 0;
  verdict = (verdict_says r.verdict).number;
  user = r.user;
  options = r.options;
  count = r.count;
  fill = r.fill;
  fault_at = offset_or (fault_at r.verdict);
  apc = (apc_says r.apc).number;
  identification = f.identification;
  place = f.place;
  part = record { from = f.start; to = f.end };
  option_start = f.option_start;
  last = flag_of f.last;
}

-- a verdict, the offset of a fault, the user data, the option list, how many options, the fill, what the APCs say, and the fragment of "piece"
abbrev pub reading_from : Accepted → Reading
reading_from r = with_fragment (fragment_in r.verdict) r

-- demand 2's reading of a payload
abbrev pub host_reading : Read.Answer → Reading
host_reading (Read.refused n) = unread n
host_reading (Read.reads r) = reading_from r
