-- Bytes written one behind the other are written as one list: laying one list behind another lays both (`overlay-append`).
-- Assumes nothing.
use mathlib.Core.Path.{◌≡◌, sym, ap, ap₂, ◌∙◌}
use mathlib.Core.Bool.{cond}
use mathlib.Core.List.{List, [], ◌++◌, append_assoc}
use Prim.Native.Nat.{ℕ, ◌+◌, ◌≤◌}
use native.Mathlib.Omega.{arith}
use native.Mathlib.Nat.{add-zero}
use borrow.Author.Tests.{le-leb}
use lib.ListN.{length, take, drop, length-append, take-append-drop}
use Rattle.std.proofs.Common.{Result}
use Rattle.number_octets.specs.Octets.{overlay}
use Rattle.number_octets.proofs.Laws.{length-overlay, overlay-append}
use Rattle.number_varint.specs.SevenBit.{encoded}
use Rattle.number_varint.specs.Answer.{given, refused, too_small, encoded_answer, end_of, fits, placed, EncodedAt}
use Rattle.number_varint.specs.declared.Full.{Full}
use Rattle.list_options.specs.Listing.{WrittenAt}

pub overlay-none : (buffer : List ℕ) (at : ℕ) → overlay buffer at [] ≡ buffer
overlay-none buffer at = ap (λ (n : ℕ). take at buffer ++ drop n buffer) (add-zero at) ∙ take-append-drop at buffer

pub written_none : (buffer : List ℕ) (at : ℕ) → WrittenAt [] buffer at at buffer
written_none buffer at = record { ends = omega arith; all = sym (overlay-none buffer at) }

pub written-length : {code buffer : List ℕ} {at next : ℕ} {left : List ℕ} → WrittenAt code buffer at next left → at + length code ≤ length buffer
    → length left ≡ length buffer
written-length {code} {buffer} {at} w h = ap length w.all ∙ length-overlay buffer at code h

-- one list behind another
pub written_both : {a b buffer : List ℕ} {at mid next : ℕ} {then left : List ℕ} → WrittenAt a buffer at mid then → WrittenAt b then mid next left
    → at + length (a ++ b) ≤ length buffer → WrittenAt (a ++ b) buffer at next left
written_both {a} {b} {buffer} {at} w v h =
    record {
      ends = omega (arith, w.ends, v.ends, length-append a b);
      all = v.all ∙ ap₂ (λ (t : List ℕ) (n : ℕ). overlay t n b) w.all w.ends ∙ overlay-append buffer at a b h;
    }

-- a number that fits
pub written-number : {value : ℕ} {buffer : List ℕ} {at : ℕ} {answer : Result ℕ Full} {left : List ℕ} → EncodedAt value buffer at answer left
    → at + length (encoded value) ≤ length buffer → (encoded_answer answer ≡ given (at + length (encoded value))) × (left ≡ overlay buffer at (encoded value))
unfolding fits end_of placed
written-number {value} {buffer} {at} {answer} {left} e h =
    let there = le-leb (at + length (encoded value)) (length buffer) h in (
      e.answered ∙ ap (λ t. cond t (given (at + length (encoded value))) (refused too_small)) there,
      e.written
          ∙ ap (λ t. cond t (take at buffer ++ encoded value ++ drop (at + length (encoded value)) buffer) buffer) there
          ∙ append_assoc (take at buffer) (encoded value) (drop (at + length (encoded value)) buffer),
    )
