-- `number_varint::encode` meets its contract: each turn stores one byte of the encoding, so the stores to come always lead to the same buffer.
use mathlib.Core.Path.{◌≡◌, refl, ap, sym, ◌∙◌}
use mathlib.Core.List.{List, [], ◌∷◌}
use Prim.Native.Nat.{ℕ, ◌+◌, ◌≤◌, ◌<◌}
use native.Mathlib.Omega.{arith}
use lib.ListN.{length}
use lib.Seq.{sets, sets-eq}
use borrow.Author.Tests.{le-leb, lt-leb}
use Rattle.number_varint.specs.SevenBit.{encoded}
use Rattle.number_varint.specs.Answer.{given, end_of, fits, placed, EncodedAt}
use Rattle.std.proofs.Common.{Ok, Err}
use Rattle.number_varint.specs.declared.Full.{Full}
use Rattle.number_varint.proofs.Groups.{encodes, encodes-last}
use Rattle.number_varint.proofs.encode.Goals as goal
use Rattle.number_varint.proofs.encode.Goals.{After-loop-rest, In-loop-rest}

too_small : (value : ℕ) (buffer : List ℕ) (at : ℕ) (full : Full) → length buffer < at + length (encoded value) → EncodedAt value buffer at (Err full) buffer
unfolding fits end_of
too_small value buffer at full h = record { answered = rw (lt-leb _ _ h); written = rw (lt-leb _ _ h) }

stored : (value : ℕ) (buffer : List ℕ) (at next : ℕ) (left : List ℕ) → at + length (encoded value) ≤ length buffer
    → next ≡ at + length (encoded value) → left ≡ sets buffer at (encoded value) → EncodedAt value buffer at (Ok next) left
unfolding fits end_of placed
stored value buffer at next left h e f =
    record { answered = rw (le-leb _ _ h) (ap given e); written = rw (le-leb _ _ h) (f ∙ sets-eq (encoded value) buffer at h) }

-- after the loop: the last byte
end : (c : After-loop-rest) → c.loop-rest.invariant.bytes ≡ c.loop-rest.rest ∷ []
end c = encodes-last c.loop-rest.invariant.encodes_rest c.loop-rest-test.false

pub returns-then-buffer-at : goal.returns-then-buffer-at
returns-then-buffer-at c = too_small _ _ _ _ (omega arith)

pub returns-then-buffer-at-2 : goal.returns-then-buffer-at-2
returns-then-buffer-at-2 c = too_small _ _ _ _ (omega arith)

pub loop-rest-init : goal.loop-rest-init
loop-rest-init c = record {
  bytes = encoded c.args.value;
  encodes_rest = encodes c.args.value c.ranges.value.fits;
  ends = refl;
  as_long = refl;
  leaves = refl;
}

pub returns : goal.returns
returns c = let k = c.loop-rest in
    let q = end c in
    stored _ _ _ _ _ (omega arith) (omega (arith, ap length q)) (ap (sets k.buffer k.i) (sym q) ∙ k.invariant.leaves)
