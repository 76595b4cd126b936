use mathlib.Core.Path.{◌≡◌}
use Prim.Native.Nat.{◌+◌, ◌*◌, ◌/◌, ◌<◌}
use lib.ListN.{length, take}
use Rattle.number_crc32c.specs.Crc.{ones, register}
use Rattle.number_crc32c.proofs.state_after_words.Given as goal

abbrev pub invariant-loop-k : goal.invariant-loop-k
invariant-loop-k l = record {
  count : l.count ≡ (length l.bytes / 4 + 3) / 4;
  more : l.k < l.count → l.state ≡ register ones (take (16 * l.k) l.bytes);
  done : l.k ≡ l.count → l.state ≡ register ones (take (length l.bytes / 4 * 4) l.bytes);
}
