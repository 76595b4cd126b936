-- The option list that a rereading with "read" names: the walk of it, with the rereading's count and fill.
-- Assumes nothing.
use mathlib.Core.Path.{◌≡◌, refl, sym, ap, subst, ◌∙◌}
use mathlib.Core.Bool.{Bool, true, false}
use mathlib.Core.List.{List}
use mathlib.Core.Option.{Option, none, some}
use Prim.Native.Nat.{ℕ, ◌+◌, ◌≤◌}
use native.Mathlib.Omega.{arith}
use borrow.Author.Tests.{ltb-false}
use lib.ListN.{length, drop, length-drop}
use Rattle.number_tests.proofs.Tests.{first-none}
use Rattle.number_tests.specs.Tests.{first_of}
use Rattle.number_offsets.specs.Offsets.{udp_header}
use Rattle.wire_nops.specs.declared.Strictness.{Strictness}
use Rattle.wire_options.specs.Walk.{Walked, listed, faulty, option_limit}
use Rattle.wire_options.specs.Strict.{walk_by}
use Rattle.wire_options.proofs.Stricts.{listed_plain}
use Rattle.wire_options.specs.declared.walk.Fault.TheVariants.{Malformed as malformed_list, Unsafe as unsafe_list, FragData as frag_data, Crowded as crowded_list, Tail as tailed, Padded as padded_list}
use Rattle.wire_surplus.specs.Surplus.{start_of}
use Rattle.wire_reading.specs.Reading.{is_odd, is_read}
use Rattle.wire_original.specs.Rereading.{ReAnswer, refused, rereads, original_optionless, offset_for, rewalked, restarted, re_tests, re_answered, rereading}
use Rattle.std.specs.Prelude.{Result, Ok, Err}
use Rattle.wire_surplus.specs.declared.Unlisted.{Unlisted}
use Rattle.wire_surplus.specs.declared.Unlisted.TheVariants.{Empty, Short as short_area, Pad as bad_pad, Unsummed as no_sum, BadSum as bad_sum}
use Rattle.wire_reading.specs.declared.Verdict.{Verdict}
use Rattle.wire_reading.specs.declared.Verdict.TheVariants.{Bare, Short, Pad, Unsummed, BadSum, Malformed, FragData, Crowded, Tail, Padded, Read}
use Rattle.wire_original.specs.Original.{OriginalReading as Rereading}
use Rattle.wire_surplus.proofs.Starts.{start-list}
use Rattle.wire_options.proofs.Rests.{Fills}
use Rattle.wire_reading.proofs.Lists.{Lists, lists-fill, not-read}

abbrev pub RelistsIn : List ℕ → Rereading → Type 0
RelistsIn original r = Lists original r.options.from.0 r.options.to.0 r.count r.fill

-- what holds of a rereading, said of an answer
abbrev verdict_in : ReAnswer → Bool
verdict_in (refused n) = false
verdict_in (rereads x) = is_read x.verdict

abbrev RelistsBy : List ℕ → ReAnswer → Type 0
RelistsBy original (refused n) = ⊥
RelistsBy original (rereads x) = RelistsIn original x

module _ (how : Strictness) (original : List ℕ) (r : ℕ) (x : Rereading) (v : x.verdict ≡ Read) where
  optionless-not : (verdict : Verdict) → is_read verdict ≡ false → original_optionless r verdict ≡ rereads x → ⊥
  optionless-not verdict e q = not-read x.verdict (sym (ap verdict_in q) ∙ e) v

  rewalked-lists : (from : ℕ) (w : Walked) → from ≤ length original → walk_by how option_limit 0 (drop from original) ≡ w
      → rewalked original r from w ≡ rereads x → RelistsIn original x
  rewalked-lists from (listed options fill) h e q =
      subst (RelistsBy original) q (record { found = options; ordered = h; ends = refl; walks = listed_plain how option_limit (drop from original) options fill e; counts = refl })
  rewalked-lists from (faulty unsafe_list n) h e q = cc
  rewalked-lists from (faulty malformed_list n) h e q = absurd (optionless-not (Malformed (offset_for original n)) refl q)
  rewalked-lists from (faulty frag_data n) h e q = absurd (optionless-not (FragData (offset_for original n)) refl q)
  rewalked-lists from (faulty crowded_list n) h e q = absurd (optionless-not (Crowded (offset_for original n)) refl q)
  rewalked-lists from (faulty tailed n) h e q = absurd (optionless-not (Tail (offset_for original n)) refl q)
  rewalked-lists from (faulty padded_list n) h e q = absurd (optionless-not (Padded (offset_for original n)) refl q)

  restarted-lists : (odd : Bool) (start : Result ℕ Unlisted) → r ≤ length original → start_of odd true (drop r original) ≡ start
      → restarted how original r start ≡ rereads x → RelistsIn original x
  restarted-lists odd (Err Empty) h e q = absurd (optionless-not Bare refl q)
  restarted-lists odd (Err short_area) h e q = absurd (optionless-not Short refl q)
  restarted-lists odd (Err bad_pad) h e q = absurd (optionless-not Pad refl q)
  restarted-lists odd (Err no_sum) h e q = absurd (optionless-not Unsummed refl q)
  restarted-lists odd (Err bad_sum) h e q = absurd (optionless-not BadSum refl q)
  restarted-lists odd (Ok at) h e q =
      let within : at ≤ length (drop r original) = start-list odd true (drop r original) at e in
      rewalked-lists (r + at) (walk_by how option_limit 0 (drop (r + at) original)) (omega (arith, simp length-drop at within)) refl q

pub rereading-lists : (how : Strictness) (original : List ℕ) (r : ℕ) (x : Rereading) → rereading how original r ≡ rereads x → x.verdict ≡ Read → RelistsIn original x
unfolding rereading
rereading-lists how original r x e v = go (first_of (re_tests original r)) refl e
  where
    start : Result ℕ Unlisted
    start = start_of (is_odd (udp_header + r)) true (drop r original)

    go : (o : Option ℕ) → first_of (re_tests original r) ≡ o → re_answered o (restarted how original r start) ≡ rereads x → RelistsIn original x
    go (some n) f q = cc
    go none f q =
        let second = (first-none _ _ (first-none _ _ f).1).0 in
        restarted-lists how original r x v (is_odd (udp_header + r)) start (ltb-false (length original) r second) refl q

-- Document 02, R-2: with "read" the fill is zero bytes throughout.
pub rereading-fill : (how : Strictness) (original : List ℕ) (r : ℕ) (x : Rereading) → rereading how original r ≡ rereads x → x.verdict ≡ Read
    → Fills x.options.from.0 original x.fill
rereading-fill how original r x e v = lists-fill original x.options.from.0 x.options.to.0 x.count x.fill (rereading-lists how original r x e v)
