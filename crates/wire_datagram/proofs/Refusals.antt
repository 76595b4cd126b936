-- Each refusal from the facts that lead to it, and the reading where none applies.
-- Assumes nothing.
use mathlib.Core.Path.{◌≡◌}
use mathlib.Core.Bool.{false, not, and-false}
use mathlib.Core.List.{List, ◌++◌}
use mathlib.Core.Logic.{◌⊎◌, inl, inr}
use Prim.Native.Nat.{ℕ, ◌≤◌, ◌<◌}
use borrow.Author.Tests.{eq-eqb, ne_eqb, lt-ltb, le-ltb}
use lib.Dec.{eqb}
use lib.ListN.{length, take}
use Rattle.number_tests.specs.Tests.{first_of}
use Rattle.number_offsets.specs.Offsets.{udp_header}
use Rattle.number_checksum.specs.Checksum.{word_sum, folded, all_ones}
use Rattle.wire_nops.specs.declared.Strictness.{Strictness}
use Rattle.wire_reading.specs.Reading.{payload_limit}
use Rattle.wire_datagram.specs.Reading.{udp_length, udp_checksum, pseudo_header, accepted, refused, reads, reading}

-- what refusals 1 to 3 leave of a payload
pub record Sized (payload : List ℕ) : Type 0 where
  pub least : udp_header ≤ length payload
  pub most : length payload ≤ payload_limit
  pub header : udp_header ≤ udp_length payload
  pub within : udp_length payload ≤ length payload

-- the sum that refusal 4 looks at
abbrev pub sum_of : List ℕ → List ℕ → List ℕ → ℕ
sum_of p s d = folded (word_sum false (pseudo_header s d (udp_length p) ++ take (udp_length p) p))

module _ (how : Strictness) (p s d : List ℕ) where
  pub refused-short : length p < udp_header → reading how p s d ≡ refused 1
  unfolding reading first_of
  refused-short h = simp (lt-ltb (length p) udp_header h)

  pub refused-long : udp_header ≤ length p → payload_limit < length p → reading how p s d ≡ refused 2
  unfolding reading first_of
  refused-long g h = simp (le-ltb (length p) udp_header g, lt-ltb payload_limit (length p) h)

  pub refused-small : udp_header ≤ length p → length p ≤ payload_limit → udp_length p < udp_header → reading how p s d ≡ refused 3
  unfolding reading first_of
  refused-small g h l = simp (le-ltb (length p) udp_header g, le-ltb payload_limit (length p) h, lt-ltb (udp_length p) udp_header l)

  pub refused-large : udp_header ≤ length p → length p ≤ payload_limit → udp_header ≤ udp_length p → length p < udp_length p → reading how p s d ≡ refused 3
  unfolding reading first_of
  refused-large g h l m =
      simp
      (le-ltb (length p) udp_header g, le-ltb payload_limit (length p) h, le-ltb (udp_length p) udp_header l, lt-ltb (length p) (udp_length p) m)

  pub refused-sum : Sized p → (udp_checksum p ≡ 0 → ⊥) → (sum_of p s d ≡ all_ones → ⊥) → reading how p s d ≡ refused 4
  unfolding reading first_of
  refused-sum z c w =
      simp (
        le-ltb (length p) udp_header z.least,
        le-ltb payload_limit (length p) z.most,
        le-ltb (udp_length p) udp_header z.header,
        le-ltb (length p) (udp_length p) z.within,
        ne_eqb (udp_checksum p) 0 c,
        ne_eqb (sum_of p s d) all_ones w,
      )

  pub reading-accepted : Sized p → ((udp_checksum p ≡ 0) ⊎ (sum_of p s d ≡ all_ones)) → reading how p s d ≡ reads (accepted how p)
  unfolding reading first_of
  reading-accepted z (inl e) =
      simp (
        le-ltb (length p) udp_header z.least,
        le-ltb payload_limit (length p) z.most,
        le-ltb (udp_length p) udp_header z.header,
        le-ltb (length p) (udp_length p) z.within,
        eq-eqb (udp_checksum p) 0 e,
      )
  reading-accepted z (inr e) =
      simp (
        le-ltb (length p) udp_header z.least,
        le-ltb payload_limit (length p) z.most,
        le-ltb (udp_length p) udp_header z.header,
        le-ltb (length p) (udp_length p) z.within,
        eq-eqb (sum_of p s d) all_ones e,
        and-false (not (eqb (udp_checksum p) 0)),
      )
