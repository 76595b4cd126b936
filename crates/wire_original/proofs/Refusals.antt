-- Each refusal of a rereading from the facts that lead to it, and the rereading where none applies.
-- Assumes nothing.
use mathlib.Core.Path.{◌≡◌}
use mathlib.Core.Bool.{true}
use mathlib.Core.List.{List}
use Prim.Native.Nat.{ℕ, ◌+◌, ◌≤◌, ◌<◌}
use borrow.Author.Tests.{lt-ltb, le-ltb}
use lib.ListN.{length, drop}
use Rattle.number_tests.specs.Tests.{first_of}
use Rattle.number_offsets.specs.Offsets.{udp_header}
use Rattle.wire_nops.specs.declared.Strictness.{Strictness}
use Rattle.wire_reading.specs.Reading.{is_odd}
use Rattle.wire_original.specs.Rereading.{original_limit, restarted, rereading, refused as refused_again}
use Rattle.wire_surplus.specs.Surplus.{start_of}

module _ (how : Strictness) (o : List ℕ) (r : ℕ) where
  pub re-long : original_limit < length o → rereading how o r ≡ refused_again 2
  unfolding rereading first_of
  re-long h = simp (lt-ltb original_limit (length o) h)

  pub re-past : length o ≤ original_limit → length o < r → rereading how o r ≡ refused_again 6
  unfolding rereading first_of
  re-past g h = simp (le-ltb original_limit (length o) g, lt-ltb (length o) r h)

  pub re-accepted : length o ≤ original_limit → r ≤ length o → rereading how o r ≡ restarted how o r (start_of (is_odd (udp_header + r)) true (drop r o))
  unfolding rereading first_of
  re-accepted g h = simp (le-ltb original_limit (length o) g, le-ltb (length o) r h)
