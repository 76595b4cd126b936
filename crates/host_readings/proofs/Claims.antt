-- A value of include/wuraketozo.h tells the whole answer: whatever the crates below answer, the papers' answer can be read back from the value,
-- so no two of them have one. Each reading back is by the value's numbers, and each case computes. Assumes nothing.
use Rattle.std.proofs.Common.{Result, Ok, Err}
use Prim.Native.Nat.{ℕ}
use mathlib.Core.Path.{◌≡◌, refl, ap, ◌∙◌}
use mathlib.Core.Bool.{Bool, true, false, cond}
use lib.Dec.{eqb}
use Rattle.number_offsets.specs.declared.PacketOffset.{PacketOffset}
use Rattle.wire_area.specs.declared.Fragment.{Fragment}
use Rattle.wire_datagram.specs.Reading as Read
use Rattle.wire_datagram.specs.Reading.{answer_of}
use Rattle.wire_reading.specs.Verdict.{verdict_says, fault_at, apc_says}
use Rattle.wire_reading.specs.declared.Apc.{Apc}
use Rattle.wire_reading.specs.declared.Apc.TheVariants.{Absent, Right, Wrong}
use Rattle.wire_reading.specs.declared.Verdict.{Verdict}
use Rattle.wire_reading.specs.declared.Verdict.TheVariants.{
  Bare,
  Short,
  Pad,
  Unsummed,
  BadSum,
  Malformed,
  Unsafe,
  FragData,
  Crowded,
  Tail,
  Padded,
  Read as Listed,
  Piece,
}
use Rattle.wire_datagram.specs.declared.reading.Refusal.TheVariants.{PayloadTooShort, PayloadTooLong, LengthOutOfRange, ChecksumWrong}
use Rattle.wire_reading.specs.Packet.{PacketReading as Whole}
use Rattle.wire_datagram.specs.declared.reading.Refusal.{Refusal}
use Rattle.host_readings.specs.declared.Reading.{Reading}
use Rattle.host_readings.specs.Reading.{flag_of, offset_or, fragment_in, host_reading}

abbrev pub apc_from : ℕ → Apc
apc_from n = cond (eqb n 0) Absent (cond (eqb n 1) Right Wrong)

abbrev pub verdict_from : ℕ → PacketOffset → Fragment → Verdict
verdict_from n at f =
    cond (eqb n 0) Bare
    (cond (eqb n 1) Short
    (cond (eqb n 2) Pad
    (cond (eqb n 3) Unsummed
    (cond (eqb n 4) BadSum
    (cond (eqb n 5) (Malformed at)
    (cond (eqb n 6) (Unsafe at)
    (cond (eqb n 7) (FragData at)
    (cond (eqb n 8) (Crowded at)
    (cond (eqb n 9) Listed
    (cond (eqb n 11) (Tail at)
    (cond (eqb n 12) (Padded at) (Piece f))))))))))))

abbrev pub fragment_from : Reading → Fragment
fragment_from v = record {
  identification = v.identification;
  place = v.place;
  start = v.part.from;
  end = v.part.to;
  last = eqb v.last 1;
  option_start = v.option_start;
}

abbrev pub answer_from : Reading → Read.Answer
answer_from v =
    cond (eqb v.refusal 0)
    (Read.reads (record {
      user = v.user;
      verdict = verdict_from v.verdict v.fault_at (fragment_from v);
      options = v.options;
      count = v.count;
      fill = v.fill;
      apc = apc_from v.apc;
    }))
    (Read.refused v.refusal)

flag-recovered : (b : Bool) → eqb (flag_of b) 1 ≡ b
flag-recovered true = refl
flag-recovered false = refl

pub apc-recovered : (a : Apc) → apc_from (apc_says a).number ≡ a
apc-recovered Absent = refl
apc-recovered Right = refl
apc-recovered Wrong = refl

verdict-recovered : (v : Verdict) → verdict_from (verdict_says v).number (offset_or (fault_at v)) (fragment_in v) ≡ v
verdict-recovered Bare = refl
verdict-recovered Short = refl
verdict-recovered Pad = refl
verdict-recovered Unsummed = refl
verdict-recovered BadSum = refl
verdict-recovered (Malformed at) = refl
verdict-recovered (Unsafe at) = refl
verdict-recovered (FragData at) = refl
verdict-recovered (Crowded at) = refl
verdict-recovered (Tail at) = refl
verdict-recovered (Padded at) = refl
verdict-recovered Listed = refl
verdict-recovered (Piece f) = refl

-- the fragment of a verdict, read back from a value that has it
abbrev again : Fragment → Bool → Fragment
again f last = record {
  identification = f.identification;
  place = f.place;
  start = f.start;
  end = f.end;
  last = last;
  option_start = f.option_start;
}

piece-recovered : (v : Verdict) → verdict_from (verdict_says v).number (offset_or (fault_at v)) (again (fragment_in v) (eqb (flag_of (fragment_in v).last) 1)) ≡ v
piece-recovered v =
    ap (λ (b : Bool). verdict_from (verdict_says v).number (offset_or (fault_at v)) (again (fragment_in v) b)) (flag-recovered (fragment_in v).last)
    ∙ verdict-recovered v

abbrev read_with : Whole → Verdict → Apc → Read.Answer
read_with r verdict apc =
    Read.reads (record { user = r.user; verdict = verdict; options = r.options; count = r.count; fill = r.fill; apc = apc })

pub reading-recovered : (o : Result Whole Refusal) → answer_from (host_reading (answer_of o)) ≡ answer_of o
reading-recovered (Err PayloadTooShort) = refl
reading-recovered (Err PayloadTooLong) = refl
reading-recovered (Err LengthOutOfRange) = refl
reading-recovered (Err ChecksumWrong) = refl
reading-recovered (Ok r) =
    ap (λ (v : Verdict). read_with r v (apc_from (apc_says r.apc).number)) (piece-recovered r.verdict) ∙ ap (read_with r r.verdict) (apc-recovered r.apc)
