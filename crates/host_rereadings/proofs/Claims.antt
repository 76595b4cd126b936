-- A rereading's value of include/wuraketozo.h tells the whole answer: the papers' answer can be read back from the value, so no two of them have one. It is
-- said of what `rereading` answers, whose verdict is never "piece", so that the value needs no fragment. Assumes nothing.
use Rattle.std.proofs.Common.{Result, Ok, Err}
use Prim.Native.Nat.{ℕ, ◌+◌}
use mathlib.Core.Path.{◌≡◌, refl, ap}
use mathlib.Core.Bool.{Bool, true, false, cond}
use mathlib.Core.List.{List, [], ◌∷◌}
use lib.Dec.{eqb, ltb}
use lib.ListN.{length, take, drop}
use Rattle.number_tests.specs.Tests.{first_of}
use Rattle.number_offsets.specs.Offsets.{udp_header}
use Rattle.number_offsets.specs.declared.PacketOffset.{PacketOffset}
use Rattle.wire_nops.specs.declared.Strictness.{Strictness}
use Rattle.wire_options.specs.Strict.{walk_by}
use Rattle.wire_options.specs.Walk.{Walked, listed, faulty, items_in, option_limit}
use Rattle.wire_options.specs.declared.walk.Fault.{Fault}
use Rattle.wire_options.specs.declared.walk.Fault.TheVariants as Met
use Rattle.wire_reading.specs.Reading as Says
use Rattle.wire_original.specs.Rereading as Reread
use Rattle.wire_surplus.specs.Surplus.{start_of}
use Rattle.wire_surplus.specs.declared.Unlisted.{Unlisted}
use Rattle.wire_surplus.specs.declared.Unlisted.TheVariants as Begun
use Rattle.wire_reading.specs.declared.Apc.{Apc}
use Rattle.wire_reading.specs.declared.Verdict.TheVariants.{Read as Listed}
use Rattle.host_rereadings.specs.declared.Rereading.{Rereading}
use Rattle.host_readings.specs.Reading.{no_fragment}
use Rattle.host_readings.proofs.Claims.{apc_from, verdict_from, apc-recovered}
use Rattle.host_rereadings.specs.Rereading.{host_rereading}

abbrev pub re_answer_from : Rereading → Reread.ReAnswer
re_answer_from v =
    cond (eqb v.refusal 0)
    (Reread.rereads (record {
      user = v.user;
      verdict = verdict_from v.verdict v.fault_at no_fragment;
      options = v.options;
      count = v.count;
      fill = v.fill;
      apc = apc_from v.apc;
    }))
    (Reread.refused v.refusal)

abbrev Recovered : Reread.ReAnswer → Type 0
Recovered a = re_answer_from (host_rereading a) ≡ a

faulty-recovered : (r : ℕ) (f : Fault) (at : PacketOffset) → Recovered (Reread.original_faulty r f at)
faulty-recovered r Met.Malformed at = refl
faulty-recovered r Met.Unsafe at = refl
faulty-recovered r Met.FragData at = refl
faulty-recovered r Met.Crowded at = refl
faulty-recovered r Met.Tail at = refl
faulty-recovered r Met.Padded at = refl

walked-recovered : (original : List ℕ) (r from : ℕ) (w : Walked) → Recovered (Reread.rewalked original r from w)
walked-recovered original r from (listed options fill) =
    ap (λ (a : Apc). Reread.rereads (record {
      user = Reread.places 0 r;
      verdict = Listed;
      options = Reread.places from (length original);
      count = length options;
      fill = fill;
      apc = a;
    })) (apc-recovered (Says.apc_of (take r original) (Says.apc_values (items_in options))))
walked-recovered original r from (faulty f remains) = faulty-recovered r f (Reread.offset_for original remains)

started-recovered : (how : Strictness) (original : List ℕ) (r : ℕ) (s : Result ℕ Unlisted) → Recovered (Reread.restarted how original r s)
started-recovered how original r (Err Begun.Empty) = refl
started-recovered how original r (Err Begun.Short) = refl
started-recovered how original r (Err Begun.Pad) = refl
started-recovered how original r (Err Begun.Unsummed) = refl
started-recovered how original r (Err Begun.BadSum) = refl
started-recovered how original r (Ok at) = walked-recovered original r (r + at) (walk_by how option_limit 0 (drop (r + at) original))

tested-recovered : (long past : Bool) (a : Reread.ReAnswer) → Recovered a → Recovered (Reread.re_answered (first_of ((long, 2) ∷ (past, 6) ∷ [])) a)
unfolding first_of
tested-recovered true past a h = refl
tested-recovered false true a h = refl
tested-recovered false false a h = h

pub rereading-recovered : (how : Strictness) (original : List ℕ) (r : ℕ)
    → re_answer_from (host_rereading (Reread.rereading how original r)) ≡ Reread.rereading how original r
unfolding Reread.rereading
rereading-recovered how original r =
    tested-recovered (ltb Reread.original_limit (length original)) (ltb (length original) r) _
    (started-recovered how original r (start_of (Says.is_odd (udp_header + r)) true (drop r original)))
