-- A rereading by what the walk answers: the definition's, whatever the walk came to.
-- Assumes nothing.
use mathlib.Core.Path.{◌≡◌, ap}
use mathlib.Core.List.{List}
use Prim.Native.Nat.{ℕ, ◌+◌, ◌-◌, ◌≤◌}
use native.Mathlib.Omega.{arith}
use lib.ListN.{length, take, drop, length-drop}
use Rattle.number_offsets.specs.Offsets.{udp_header, offset_of}
use Rattle.wire_nops.specs.declared.Strictness.{Strictness}
use Rattle.wire_options.specs.Walk.{Walked, listed, faulty, items_in, offset_before, walk_answer}
use Rattle.wire_options.specs.Strict.{walk_by}
use Rattle.wire_offsets.proofs.Faults.{fault-byte}
use Rattle.wire_original.specs.Rereading.{places, rereads, original_faulty, offset_for, rewalked}
use Rattle.wire_original.specs.ByWalk.{rewalked_by}
use Rattle.wire_reading.specs.declared.Verdict.TheVariants.{Read}
use Rattle.wire_reading.proofs.Apcs.{apc-by-answer}

-- where a fault is met, counted from the list's end and as 8 plus its place
offset-counted : (original : List ℕ) (remains : ℕ) → remains ≤ length original → offset_before (udp_header + length original) remains ≡ offset_for original remains
unfolding offset_of
offset-counted original remains h =
    let same : udp_header + length original - remains ≡ udp_header + (length original - remains) = omega arith in
    ap (λ (n : ℕ). record { 0 = n }) same

pub rereading-by-answer : (how : Strictness) (room : ℕ) (original : List ℕ) (r from : ℕ) (w : Walked) → walk_by how room 0 (drop from original) ≡ w
    → rewalked_by original r from (walk_answer (udp_header + length original) w) ≡ rewalked original r from w
rereading-by-answer how room original r from (listed options fill) e = λ i. rereads (record {
  user = places 0 r;
  verdict = Read;
  options = places from (length original);
  count = length options;
  fill = fill;
  apc = (apc-by-answer (take r original) (items_in options)) i;
})
rereading-by-answer how room original r from (faulty f remains) e =
    let left : length (drop from original) ≡ length original - from = length-drop from original in
    let within : remains ≤ length (drop from original) = (fault-byte how room (drop from original) f remains e).within in
    ap (original_faulty r f) (offset-counted original remains (omega arith))
