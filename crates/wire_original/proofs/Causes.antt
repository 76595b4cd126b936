-- Refusal 5 of a rereading has one cause, an unsafe option that the walk of the original's list meets. "tail" (document 02, R-2) and "padded" (R-6) have
-- one each too, a tail or eight NOPs in a row that the walk comes to, and with either the user data is delivered. A fault is met at 8 plus its place.
-- Assumes nothing.
use mathlib.Core.Path.{◌≡◌, refl, sym, ap, ◌∙◌}
use mathlib.Core.Bool.{Bool, true, false}
use mathlib.Core.List.{List, [], ◌∷◌}
use mathlib.Core.Option.{Option as Refused, none, some}
use Prim.Native.Nat.{ℕ, ◌+◌, ◌≤◌}
use native.Mathlib.Omega.{arith}
use lib.Dec.{ltb}
use lib.ListN.{length, drop}
use Rattle.number_tests.specs.Tests.{first_of}
use Rattle.number_offsets.specs.Offsets.{udp_header}
use Rattle.number_offsets.specs.declared.PacketOffset.{PacketOffset}
use Rattle.wire_nops.specs.declared.Strictness.{Strictness}
use Rattle.wire_nops.specs.declared.Strictness.TheVariants.{Strict}
use Rattle.wire_options.specs.Walk.{Walked, listed, faulty, option_limit}
use Rattle.wire_options.specs.Strict.{walk_by}
use Rattle.wire_options.specs.declared.walk.Fault.{Fault}
use Rattle.wire_options.specs.declared.walk.Fault.TheVariants.{Malformed as malformed_list, Unsafe as unsafe_list, FragData as frag_data, Crowded as crowded_list, Tail as tailed, Padded as padded_list}
use Rattle.wire_options.proofs.Paddings.{Padding, padded-cause}
use Rattle.wire_options.proofs.Tails.{Tailed, tailed-by}
use Rattle.wire_surplus.specs.Surplus.{start_of}
use Rattle.std.specs.Prelude.{Option, Some, None, Result, Ok, Err}
use Rattle.wire_surplus.specs.declared.Unlisted.{Unlisted}
use Rattle.wire_surplus.specs.declared.Unlisted.TheVariants.{Empty, Short as short_area, Pad as bad_pad, Unsummed as no_sum, BadSum as bad_sum}
use Rattle.wire_reading.specs.Reading.{is_odd}
use Rattle.wire_reading.specs.Reading.{verdict_of}
use Rattle.wire_reading.specs.declared.Verdict.TheVariants.{Tail, Padded}
use Rattle.wire_reading.proofs.Faults.{fault_in, fault-named}
use Rattle.wire_original.specs.Rereading.{original_limit, ReAnswer, refused, rereads, original_optionless, offset_for, rewalked, restarted, re_tests, re_answered, rereading}
use Rattle.wire_original.specs.Original.{OriginalReading as Rereading}
use Rattle.wire_original.proofs.Refusals.{re-accepted}

-- an option list behind the option checksum at place `at` of the area, and what its walk comes to
pub record ListWalks (how : Strictness) (original : List ℕ) (r : ℕ) (w : Walked) : Type 0 where
  pub at : ℕ
  pub starts : start_of (is_odd (udp_header + r)) true (drop r original) ≡ Ok at
  pub walks : walk_by how option_limit 0 (drop (r + at) original) ≡ w

-- the same list, and what stands in it
pub record InList (original : List ℕ) (r : ℕ) (P : List ℕ → Type 0) : Type 0 where
  pub at : ℕ
  pub starts : start_of (is_odd (udp_header + r)) true (drop r original) ≡ Ok at
  pub holds : P (drop (r + at) original)

-- the fault that an answer names, and where it was met
abbrev faults_in : ReAnswer → Option (Fault × PacketOffset)
faults_in (refused n) = None
faults_in (rereads x) = fault_in x.verdict

module _ (how : Strictness) (original : List ℕ) (r : ℕ) where
  abbrev start : Result ℕ Unlisted
  start = start_of (is_odd (udp_header + r)) true (drop r original)

  -- ---- 5 comes of an unsafe option, and of nothing else

  walked-five : (from : ℕ) (w : Walked) → rewalked original r from w ≡ refused 5 → (remains : ℕ) × (w ≡ faulty unsafe_list remains)
  walked-five from (faulty unsafe_list n) q = (n, refl)
  walked-five from (listed options fill) q = cc
  walked-five from (faulty malformed_list n) q = cc
  walked-five from (faulty frag_data n) q = cc
  walked-five from (faulty crowded_list n) q = cc
  walked-five from (faulty tailed n) q = cc
  walked-five from (faulty padded_list n) q = cc

  started-five : (s : Result ℕ Unlisted) → start ≡ s → restarted how original r s ≡ refused 5 → (remains : ℕ) × ListWalks how original r (faulty unsafe_list remains)
  started-five (Err Empty) e q = cc
  started-five (Err short_area) e q = cc
  started-five (Err bad_pad) e q = cc
  started-five (Err no_sum) e q = cc
  started-five (Err bad_sum) e q = cc
  started-five (Ok at) e q =
      let w = walked-five (r + at) (walk_by how option_limit 0 (drop (r + at) original)) q in
      (w.0, record { at = at; starts = e; walks = w.1 })

  pub five-cause : rereading how original r ≡ refused 5 → (remains : ℕ) × ListWalks how original r (faulty unsafe_list remains)
  unfolding rereading first_of
  five-cause = go (ltb original_limit (length original)) (ltb (length original) r)
    where
      go : (t u : Bool) → re_answered (first_of ((t, 2) ∷ (u, 6) ∷ [])) (restarted how original r start) ≡ refused 5
          → (remains : ℕ) × ListWalks how original r (faulty unsafe_list remains)
      go true u q = absurd (let z : ◌≡◌ {A = ℕ} 2 5 = cc in omega arith)
      go false true q = absurd (let z : ◌≡◌ {A = ℕ} 6 5 = cc in omega arith)
      go false false q = started-five start refl q

  -- ---- tail and padded deliver the user data, 0 to r

  walks-to : (w : Walked) → length original ≤ original_limit → r ≤ length original → (l : ListWalks how original r w)
      → rereading how original r ≡ rewalked original r (r + l.at) w
  walks-to w g h l =
      re-accepted how original r g h ∙ ap (restarted how original r) l.starts ∙ ap (rewalked original r (r + l.at)) l.walks

  pub tail-delivered : (remains : ℕ) → length original ≤ original_limit → r ≤ length original → ListWalks how original r (faulty tailed remains)
      → rereading how original r ≡ original_optionless r (Tail (offset_for original remains))
  tail-delivered remains g h l = walks-to (faulty tailed remains) g h l

  pub padded-delivered : (remains : ℕ) → length original ≤ original_limit → r ≤ length original → ListWalks how original r (faulty padded_list remains)
      → rereading how original r ≡ original_optionless r (Padded (offset_for original remains))
  padded-delivered remains g h l = walks-to (faulty padded_list remains) g h l

  -- ---- a verdict that names a fault comes of a walk that came to it

  -- the walk came to that fault, met at that offset
  abbrev pub FaultAt : Fault → PacketOffset → Type 0
  FaultAt x there = (remains : ℕ) × (ListWalks how original r (faulty x remains)) × (there ≡ offset_for original remains)

  abbrev WalkedTo : Fault → PacketOffset → Walked → Type 0
  WalkedTo x there w = (remains : ℕ) × (w ≡ faulty x remains) × (there ≡ offset_for original remains)

  named : (x y : Fault) (there : PacketOffset) (remains : ℕ) → ◌≡◌ {A = Option (Fault × PacketOffset)} (Some (y, offset_for original remains)) (Some (x, there))
      → WalkedTo x there (faulty y remains)
  named x y there remains q =
      let pair : ◌≡◌ {A = Fault × PacketOffset} (y, offset_for original remains) (x, there) = cc in
      (remains, ap (λ (z : Fault × PacketOffset). faulty z.0 remains) pair, sym (ap (λ (z : Fault × PacketOffset). z.1) pair))

  walked-fault : (x : Fault) (there : PacketOffset) (from : ℕ) (w : Walked) → faults_in (rewalked original r from w) ≡ Some (x, there) → WalkedTo x there w
  walked-fault x there from (listed options fill) q = cc
  walked-fault x there from (faulty unsafe_list n) q = cc
  walked-fault x there from (faulty malformed_list n) q = named x malformed_list there n q
  walked-fault x there from (faulty frag_data n) q = named x frag_data there n q
  walked-fault x there from (faulty crowded_list n) q = named x crowded_list there n q
  walked-fault x there from (faulty tailed n) q = named x tailed there n q
  walked-fault x there from (faulty padded_list n) q = named x padded_list there n q

  started-fault : (x : Fault) (there : PacketOffset) (s : Result ℕ Unlisted) → start ≡ s → faults_in (restarted how original r s) ≡ Some (x, there) → FaultAt x there
  started-fault x there (Err Empty) e q = cc
  started-fault x there (Err short_area) e q = cc
  started-fault x there (Err bad_pad) e q = cc
  started-fault x there (Err no_sum) e q = cc
  started-fault x there (Err bad_sum) e q = cc
  started-fault x there (Ok at) e q =
      let w = walked-fault x there (r + at) (walk_by how option_limit 0 (drop (r + at) original)) q in
      (w.0, record { at = at; starts = e; walks = w.1 }, w.2)

  pub rereading-fault : (x : Fault) (there : PacketOffset) (y : Rereading) → rereading how original r ≡ rereads y → y.verdict ≡ verdict_of x there
      → FaultAt x there
  unfolding rereading
  rereading-fault x there y e v = go (first_of (re_tests original r)) (ap faults_in e ∙ ap fault_in v ∙ fault-named x there)
    where
      go : (o : Refused ℕ) → faults_in (re_answered o (restarted how original r start)) ≡ Some (x, there) → FaultAt x there
      go none q = started-fault x there start refl q
      go (some n) q = cc

  -- "tail" comes of a tail in the original's list, and is met where its first byte stands
  pub rereading-tail : (x : Rereading) (there : PacketOffset) → rereading how original r ≡ rereads x → x.verdict ≡ Tail there
      → InList original r (λ l. (remains : ℕ) × (Tailed option_limit 0 l remains) × (there ≡ offset_for original remains))
  rereading-tail x there e v =
      let f = rereading-fault tailed there x e v in
      let l = f.1 in
      record { at = l.at; starts = l.starts; holds = (f.0, tailed-by how option_limit (drop (r + l.at) original) f.0 l.walks, f.2) }

  -- "padded" comes of strict reading, and of eight NOPs in a row that the walk of the original's list comes to; it is met at the eighth
  pub rereading-padded : (x : Rereading) (there : PacketOffset) → rereading how original r ≡ rereads x → x.verdict ≡ Padded there
      → (how ≡ Strict) × InList original r (λ l. (remains : ℕ) × (Padding option_limit l remains) × (there ≡ offset_for original remains))
  rereading-padded x there e v =
      let f = rereading-fault padded_list there x e v in
      let l = f.1 in
      let c = padded-cause how option_limit (drop (r + l.at) original) f.0 l.walks in
      (c.0, record { at = l.at; starts = l.starts; holds = (f.0, c.1, f.2) })
