-- Rereading a reassembled original (document 01, end of "Walking the list").
use Rattle.std.specs.Prelude.{Bool, true, Result, Ok, Err, List, [], ◌∷◌, ℕ, ◌+◌, ◌-◌, ltb, length, take, drop}
use Rattle.std.proofs.Math.Option.{Option, none, some}
use Rattle.number_tests.specs.Tests.{first_of}
use Rattle.number_offsets.specs.Offsets.{udp_header, offset_of}
use Rattle.number_offsets.specs.declared.PacketOffset.{PacketOffset}
use Rattle.wire_nops.specs.declared.Strictness.{Strictness}
use Rattle.wire_options.specs.Walk.{Walked, listed, faulty, items_in, option_limit}
use Rattle.wire_options.specs.Strict.{walk_by}
use Rattle.wire_options.specs.declared.walk.Fault.{Fault}
use Rattle.wire_options.specs.declared.walk.Fault.TheVariants.{Malformed as malformed_list, Unsafe as unsafe_list, FragData as frag_data, Crowded as crowded_list, Tail as tailed, Padded as padded_list}
use Rattle.wire_surplus.specs.Surplus.{start_of}
use Rattle.wire_reading.specs.Reading.{apc_values, apc_of, unlisted_verdict, is_odd}
use Rattle.wire_surplus.specs.declared.Unlisted.{Unlisted}
use Rattle.wire_reading.specs.declared.Apc.TheVariants.{Absent}
use Rattle.wire_reading.specs.declared.Verdict.{Verdict}
use Rattle.wire_reading.specs.declared.Verdict.TheVariants.{Malformed, FragData, Crowded, Tail, Padded, Read}
use Rattle.wire_original.specs.declared.OriginalExtent.{OriginalExtent}
use Rattle.wire_original.specs.Original.{OriginalReading as Rereading}
use Rattle.wire_original.specs.declared.RereadRefusal.{RereadRefusal}
use Rattle.wire_original.specs.declared.RereadRefusal.TheVariants.{OriginalTooLong, OptionStartPastEnd, UnsafeOption}

-- the largest payload less a UDP header
unfoldable pub original_limit : ℕ
original_limit = 65507

abbrev pub places : ℕ → ℕ → OriginalExtent
places from to = record { from = record { 0 = from }; to = record { 0 = to } }

-- a refusal's number, or the rereading
pub data ReAnswer : Type 0 where
  refused : ℕ → ReAnswer
  rereads : Rereading → ReAnswer

-- user data is 0 to r; no option is reported
abbrev pub original_optionless : ℕ → Verdict → ReAnswer
original_optionless r verdict = rereads (record { user = places 0 r; verdict = verdict; options = places 0 0; count = 0; fill = 0; apc = Absent })

-- a fault that was met at an offset; 5: verdict unsafe, nothing delivered
abbrev pub original_faulty : ℕ → Fault → PacketOffset → ReAnswer
original_faulty r unsafe_list at = refused 5
original_faulty r malformed_list at = original_optionless r (Malformed at)
original_faulty r frag_data at = original_optionless r (FragData at)
original_faulty r crowded_list at = original_optionless r (Crowded at)
original_faulty r tailed at = original_optionless r (Tail at)
original_faulty r padded_list at = original_optionless r (Padded at)

-- "In a reread original an offset is 8 plus the place" (document 02, R-7): the place from which so many bytes remain
abbrev pub offset_for : List ℕ → ℕ → PacketOffset
offset_for original remains = offset_of (record { 0 = length original - remains })

-- the list starts at place `from`; FRAG has no place in it
abbrev pub rewalked : List ℕ → ℕ → ℕ → Walked → ReAnswer
rewalked original r from (listed list fill) = rereads (record {
  user = places 0 r;
  verdict = Read;
  options = places from (length original);
  count = length list;
  fill = fill;
  apc = apc_of (take r original) (apc_values (items_in list));
})
rewalked original r from (faulty fault remains) = original_faulty r fault (offset_for original remains)

abbrev pub restarted : Strictness → List ℕ → ℕ → Result ℕ Unlisted → ReAnswer
restarted how original r (Ok at) = rewalked original r (r + at) (walk_by how option_limit 0 (drop (r + at) original))
restarted how original r (Err unlisted) = original_optionless r (unlisted_verdict unlisted)

abbrev pub re_tests : List ℕ → ℕ → List (Bool × ℕ)
re_tests original r = (ltb original_limit (length original), 2) ∷ (ltb (length original) r, 6) ∷ []

abbrev pub re_answered : Option ℕ → ReAnswer → ReAnswer
re_answered none answer = answer
re_answered (some number) answer = refused number

-- An original of T bytes with option start r: the area is r to T, its parity that of 8 + r, the UDP checksum taken as zero. Plain or strict.
unfoldable pub rereading : Strictness → List ℕ → ℕ → ReAnswer
rereading how original r =
    re_answered (first_of (re_tests original r)) (restarted how original r (start_of (is_odd (udp_header + r)) true (drop r original)))

-- the paper's number of each refusal
abbrev pub re_refusal_number : RereadRefusal → ℕ
re_refusal_number OriginalTooLong = 2
re_refusal_number UnsafeOption = 5
re_refusal_number OptionStartPastEnd = 6

abbrev pub re_answer_of : Result Rereading RereadRefusal → ReAnswer
re_answer_of (Ok r) = rereads r
re_answer_of (Err refusal) = refused (re_refusal_number refusal)
