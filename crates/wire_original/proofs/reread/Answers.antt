-- `wire_original::reread` meets its contract: the code makes the papers' tests in order, and `restarted` computes at how the area starts.
use mathlib.Core.Path.{◌≡◌, sym, ap, ◌∙◌}
use mathlib.Core.Bool.{true}
use mathlib.Core.List.{List}
use Prim.Native.Nat.{ℕ, ◌+◌, ◌-◌, ◌%◌, ◌≤◌}
use native.Mathlib.Omega.{arith}
use lib.Dec.{eqb}
use lib.ListN.{length, drop, length-drop}
use Rattle.std.specs.Prelude.{Result, Ok}
use Rattle.number_octets.specs.Octets.{part}
use Rattle.number_octets.proofs.Laws.{part-rest}
use Rattle.number_offsets.specs.Offsets.{udp_header}
use Rattle.wire_nops.specs.declared.Strictness.{Strictness}
use Rattle.wire_surplus.specs.Surplus.{start_of}
use Rattle.wire_surplus.specs.declared.Unlisted.{Unlisted}
use Rattle.wire_reading.specs.Reading.{is_odd}
use Rattle.wire_original.specs.Rereading.{original_limit, original_optionless, restarted, rereading}
use Rattle.wire_original.proofs.Refusals.{re-long, re-past, re-accepted}
use Rattle.wire_surplus.proofs.Starts.{start-empty, start-list}
use Rattle.wire_original.proofs.reread.Goals as goal

-- the area is all that stands behind the option start, and 8 + r has the parity of r
begun : (l : List ℕ) (r : ℕ) (result start : Result ℕ Unlisted) → result ≡ start_of (is_odd r) true (part r (length l - r) l) → result ≡ start
    → start ≡ start_of (is_odd (udp_header + r)) true (drop r l)
unfolding udp_header
begun l r result start e met =
    let parity : (8 + r) % 2 ≡ r % 2 = omega arith in
    sym met ∙ e ∙ ap (start_of (is_odd r) true) (part-rest r l) ∙ ap (λ (n : ℕ). start_of (eqb n 1) true (drop r l)) (sym parity)

-- what an original that no refusal meets comes to
taken : (how : Strictness) (l : List ℕ) (r : ℕ) (start : Result ℕ Unlisted) → length l ≤ original_limit → r ≤ length l
    → start ≡ start_of (is_odd (udp_header + r)) true (drop r l) → restarted how l r start ≡ rereading how l r
taken how l r start most within e = ap (restarted how l r) e ∙ sym (re-accepted how l r most within)

-- where the list starts is within the original
list-within : (l : List ℕ) (r at : ℕ) → r ≤ length l → Ok at ≡ start_of (is_odd (udp_header + r)) true (drop r l) → r + at ≤ length l
list-within l r at h e = omega (arith, simp length-drop at (start-list (is_odd (udp_header + r)) true (drop r l) at (sym e)))

pub returns-then-original-gt-ORIGINAL_LIMIT : goal.returns-then-original-gt-ORIGINAL_LIMIT
unfolding original_limit
returns-then-original-gt-ORIGINAL_LIMIT c = let a = c.args in
    sym (re-long a.strictness a.original.now a.option_start.0 c.if-original-gt-ORIGINAL_LIMIT.true)

pub returns-then-original-r : goal.returns-then-original-r
unfolding original_limit
returns-then-original-r c = let a = c.args in
    sym (re-past a.strictness a.original.now a.option_start.0 c.if-original-gt-ORIGINAL_LIMIT.false c.if-original-r.true)

-- no area behind the option start
pub returns-then-original-r-2 : goal.returns-then-original-r-2
unfolding original_limit
returns-then-original-r-2 c = let a = c.args in
    let l = a.original.now in
    let r : ℕ = a.option_start.0 in
    let none : length (drop r l) ≡ 0 = simp length-drop (omega arith) in
    c.optionless.ensures
    ∙ taken a.strictness l r _ c.if-original-gt-ORIGINAL_LIMIT.false c.if-original-r.false (sym (start-empty true (drop r l) (is_odd (udp_header + r)) none))

pub overflow_add-r : goal.overflow_add-r
overflow_add-r c = let a = c.args in
    omega (arith, list-within a.original.now a.option_start.0 _ c.if-original-r.false (begun a.original.now a.option_start.0 _ _ c.start_of.ensures c.in-Ok.is))

pub relisted-requires : goal.relisted-requires
relisted-requires c = let a = c.args in
    (omega arith, list-within a.original.now a.option_start.0 _ c.if-original-r.false (begun a.original.now a.option_start.0 _ _ c.start_of.ensures c.in-Ok.is))

pub returns-in-Ok : goal.returns-in-Ok
unfolding original_limit
returns-in-Ok c = let a = c.args in
    c.relisted.ensures
    ∙ taken a.strictness a.original.now a.option_start.0 _ c.if-original-gt-ORIGINAL_LIMIT.false c.if-original-r.false
    (begun a.original.now a.option_start.0 _ _ c.start_of.ensures c.in-Ok.is)

pub returns-in-Err : goal.returns-in-Err
unfolding original_limit
returns-in-Err c = let a = c.args in
    c.optionless-in-Err.ensures ∙ ap (original_optionless a.option_start.0) c.from.ensures
    ∙ taken a.strictness a.original.now a.option_start.0 _ c.if-original-gt-ORIGINAL_LIMIT.false c.if-original-r.false
    (begun a.original.now a.option_start.0 _ _ c.start_of.ensures c.in-Err.is)
