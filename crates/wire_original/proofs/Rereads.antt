-- What is claimed of every rereading: its user data is what stands before the option start, and options are reported only with "read". Both go by
-- what the area's start and the walk come to.
-- Assumes nothing.
use mathlib.Core.Path.{◌≡◌, refl, subst}
use mathlib.Core.Bool.{true}
use mathlib.Core.List.{List}
use mathlib.Core.Logic.{◌⊎◌, inl, inr}
use mathlib.Core.Option.{Option, none, some}
use Prim.Native.Nat.{ℕ, ◌+◌}
use lib.ListN.{drop}
use Rattle.number_tests.specs.Tests.{first_of}
use Rattle.number_offsets.specs.Offsets.{udp_header}
use Rattle.wire_nops.specs.declared.Strictness.{Strictness}
use Rattle.wire_options.specs.Walk.{Walked, listed, faulty, option_limit}
use Rattle.wire_options.specs.Strict.{walk_by}
use Rattle.wire_options.specs.declared.walk.Fault.TheVariants.{
  Malformed as malformed_list,
  Unsafe as unsafe_list,
  FragData as frag_data,
  Crowded as crowded_list,
  Tail as tailed,
  Padded as padded_list,
}
use Rattle.wire_surplus.specs.Surplus.{start_of}
use Rattle.wire_reading.specs.Reading.{unlisted_verdict, is_odd}
use Rattle.wire_original.specs.Rereading.{places, ReAnswer, refused, rereads, original_optionless, offset_for, rewalked, restarted, re_tests, re_answered, rereading}
use Rattle.std.specs.Prelude.{Result, Ok, Err}
use Rattle.wire_surplus.specs.declared.Unlisted.{Unlisted}
use Rattle.wire_reading.specs.declared.Apc.TheVariants.{Absent}
use Rattle.wire_reading.specs.declared.Verdict.{Verdict}
use Rattle.wire_reading.specs.declared.Verdict.TheVariants.{Malformed, FragData, Crowded, Tail, Padded, Read}
use Rattle.wire_original.specs.Original.{OriginalReading as Rereading}

-- nothing is reported of the area
pub record Silent (x : Rereading) : Type 0 where
  pub no_list : x.options ≡ places 0 0
  pub no_count : x.count ≡ 0
  pub no_fill : x.fill ≡ 0
  pub no_apc : x.apc ≡ Absent

pub record Reread (r : ℕ) (x : Rereading) : Type 0 where
  pub user : x.user ≡ places 0 r
  pub options_only_with_read : (x.verdict ≡ Read) ⊎ Silent x

-- said of an answer
abbrev RereadBy : ℕ → ReAnswer → Type 0
RereadBy r (refused n) = Unit {0}
RereadBy r (rereads x) = Reread r x

optionless-by : (r : ℕ) (verdict : Verdict) → RereadBy r (original_optionless r verdict)
optionless-by r verdict = record {
  user = refl;
  options_only_with_read = inr (record { no_list = refl; no_count = refl; no_fill = refl; no_apc = refl });
}

rewalked-by : (original : List ℕ) (r from : ℕ) (w : Walked) → RereadBy r (rewalked original r from w)
rewalked-by original r from (listed options fill) = record { user = refl; options_only_with_read = inl refl }
rewalked-by original r from (faulty unsafe_list n) = tt
rewalked-by original r from (faulty malformed_list n) = optionless-by r (Malformed (offset_for original n))
rewalked-by original r from (faulty frag_data n) = optionless-by r (FragData (offset_for original n))
rewalked-by original r from (faulty crowded_list n) = optionless-by r (Crowded (offset_for original n))
rewalked-by original r from (faulty tailed n) = optionless-by r (Tail (offset_for original n))
rewalked-by original r from (faulty padded_list n) = optionless-by r (Padded (offset_for original n))

restarted-by : (how : Strictness) (original : List ℕ) (r : ℕ) (start : Result ℕ Unlisted) → RereadBy r (restarted how original r start)
restarted-by how original r (Err unlisted) = optionless-by r (unlisted_verdict unlisted)
restarted-by how original r (Ok at) = rewalked-by original r (r + at) (walk_by how option_limit 0 (drop (r + at) original))

pub reread-claims : (how : Strictness) (original : List ℕ) (r : ℕ) (x : Rereading) → rereading how original r ≡ rereads x → Reread r x
unfolding rereading
reread-claims how original r x e = subst (RereadBy r) e (go (first_of (re_tests original r)))
  where
    start : Result ℕ Unlisted
    start = start_of (is_odd (udp_header + r)) true (drop r original)

    go : (o : Option ℕ) → RereadBy r (re_answered o (restarted how original r start))
    go none = restarted-by how original r start
    go (some n) = tt
