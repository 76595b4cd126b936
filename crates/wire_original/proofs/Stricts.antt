-- Document 02, R-6, of an original: any strict answer but "padded" is the plain answer, and with "padded" the user data is delivered.
-- Assumes nothing.
use mathlib.Core.Path.{◌≡◌, refl, ap}
use mathlib.Core.List.{List}
use mathlib.Core.Logic.{◌⊎◌, inl, inr, ⊎_elim}
use mathlib.Core.Bool.{true}
use mathlib.Core.Option.{Option, none, some}
use Prim.Native.Nat.{ℕ, ◌+◌}
use lib.ListN.{drop}
use Rattle.number_tests.specs.Tests.{first_of}
use Rattle.number_offsets.specs.Offsets.{udp_header}
use Rattle.number_offsets.specs.declared.PacketOffset.{PacketOffset}
use Rattle.wire_nops.specs.declared.Strictness.{Strictness}
use Rattle.wire_nops.specs.declared.Strictness.TheVariants.{Plain}
use Rattle.wire_options.specs.Walk.{option_limit}
use Rattle.wire_options.proofs.Stricts.{padded-or-plain}
use Rattle.wire_surplus.specs.Surplus.{start_of}
use Rattle.std.specs.Prelude.{Result, Ok, Err}
use Rattle.wire_surplus.specs.declared.Unlisted.{Unlisted}
use Rattle.wire_reading.specs.Reading.{is_odd}
use Rattle.wire_reading.specs.declared.Verdict.TheVariants.{Padded}
use Rattle.wire_original.specs.Rereading.{ReAnswer, original_optionless, rewalked, restarted, re_tests, re_answered, rereading}

module _ (how : Strictness) (original : List ℕ) (r : ℕ) where
  abbrev OrPlain : ReAnswer → ReAnswer → Type 0
  OrPlain a b = ((at : PacketOffset) × (a ≡ original_optionless r (Padded at))) ⊎ (a ≡ b)

  restarted-or-plain : (start : Result ℕ Unlisted) → OrPlain (restarted how original r start) (restarted Plain original r start)
  restarted-or-plain (Err unlisted) = inr refl
  restarted-or-plain (Ok at) =
      ⊎_elim (λ p. inl (_, ap (rewalked original r (r + at)) p.1)) (λ e. inr (ap (rewalked original r (r + at)) e))
      (padded-or-plain how option_limit (drop (r + at) original))

  pub rereading-or-plain : ((at : PacketOffset) × (rereading how original r ≡ original_optionless r (Padded at)))
      ⊎ (rereading how original r ≡ rereading Plain original r)
  unfolding rereading
  rereading-or-plain = go (first_of (re_tests original r))
    where
      start : Result ℕ Unlisted
      start = start_of (is_odd (udp_header + r)) true (drop r original)

      go : (o : Option ℕ) → OrPlain (re_answered o (restarted how original r start)) (re_answered o (restarted Plain original r start))
      go (some n) = inr refl
      go none = restarted-or-plain start
