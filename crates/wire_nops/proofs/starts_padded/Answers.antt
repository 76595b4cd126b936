-- `wire_nops::starts_padded` meets its contract: eight NOPs are two words of four, and any other word ends the row too early.
use mathlib.Core.Path.{◌≡◌, sym, ap, ◌∙◌}
use mathlib.Core.Bool.{Bool, true, false}
use mathlib.Core.List.{List, reverse}
use Prim.Native.Nat.{ℕ, ◌+◌, ◌≤◌, ◌<◌}
use native.Mathlib.Omega.{arith}
use borrow.Author.Tests.{leb-true, eqb-true, eqb-false}
use lib.Dec.{eqb}
use lib.ListN.{length, drop, get_or}
use Rattle.number_octets.specs.Octets.{number, part}
use Rattle.wire_nops.specs.Nops.{nops_of, is_padding}
use Rattle.wire_nops.specs.declared.Strictness.TheVariants.{Strict}
use Rattle.wire_nops.proofs.Counts.{nops-within, nops-four, padding-many, padding-few, padding-word}
use Rattle.wire_nops.proofs.starts_padded.Goals as goal
use Rattle.wire_nops.proofs.starts_padded.Goals.{then-list-ge-PADDING, else-list-ge-PADDING}

-- behind four NOPs, whether the next word is four more decides
decides : (l : List ℕ) → 8 ≤ length l → ((k : ℕ) → get_or l k 0 < 256) → nops_of l ≡ 4 + nops_of (drop 4 l) → (t : Bool) → eqb (number (reverse (part 4 4 l))) 16843009 ≡ t
    → t ≡ is_padding Strict (nops_of l)
decides l h small one true e = let two = nops-four l 4 h small (eqb-true _ 16843009 e) in sym (padding-many l (omega arith))
decides l h small one false e = sym (padding-word l 4 (omega arith) (eqb-false _ 16843009 e))

pub returns-then-get_u32_little-eq-FOUR_NOPS : goal.returns-then-get_u32_little-eq-FOUR_NOPS
returns-then-get_u32_little-eq-FOUR_NOPS c =
    let l = c.args.list.now in
    let octets : (k : ℕ) → get_or l k 0 < 256 = λ k. omega (arith, c.type_inv.list k) in
    let last = c.get_u32_little-then-get_u32_little-eq-FOUR_NOPS in
    elim c.if-list-ge-PADDING.branch [
      | then-list-ge-PADDING w ↦
          let four = eqb-true w.get_u32_little.result 16843009 (sym w.value-is ∙ c.if-get_u32_little-eq-FOUR_NOPS.true) in
          let one = nops-four l 0 (omega arith) octets (sym w.get_u32_little.ensures ∙ four) in
          decides l (omega arith) octets one (eqb last.result 16843009) (ap (λ (w : ℕ). eqb w 16843009) (sym last.ensures))
      | else-list-ge-PADDING w ↦ absurd (omega (arith, leb-true 8 (length l) (sym w.value-is ∙ c.if-get_u32_little-eq-FOUR_NOPS.true)))
    ]

pub returns-else-get_u32_little-eq-FOUR_NOPS : goal.returns-else-get_u32_little-eq-FOUR_NOPS
returns-else-get_u32_little-eq-FOUR_NOPS c =
    let l = c.args.list.now in
    c.if-get_u32_little-eq-FOUR_NOPS.false ∙ sym (elim c.if-list-ge-PADDING.branch [
      | then-list-ge-PADDING w ↦
          let other = eqb-false w.get_u32_little.result 16843009 (sym w.value-is ∙ c.if-get_u32_little-eq-FOUR_NOPS.false) in
          padding-word l 0 (omega arith) (λ e. other (w.get_u32_little.ensures ∙ e))
      | else-list-ge-PADDING w ↦ padding-few l (omega (arith, nops-within l))
    ])
