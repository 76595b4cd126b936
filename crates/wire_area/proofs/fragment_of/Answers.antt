-- `wire_area::fragment_of` meets its contract: the code tests what the definition does, counted from the list.
use mathlib.Core.Path.{◌≡◌, sym, ap, ap₂, ◌∙◌}
use Prim.Native.Nat.{ℕ, ◌+◌, ◌<◌, ◌≤◌}
use native.Mathlib.Omega.{arith}
use borrow.Author.Tests.{le-leb, lt-leb}
use Rattle.std.specs.Prelude.{Option, None}
use Rattle.number_offsets.specs.Offsets.{place_of}
use Rattle.number_offsets.specs.declared.OriginalOffset.{OriginalOffset}
use Rattle.wire_area.specs.Area.{placed_at, fragment_of}
use Rattle.wire_area.specs.declared.Fields.{Fields}
use Rattle.wire_area.proofs.fragment_of.Goals as goal
use Rattle.wire_area.proofs.fragment_of.Goals.{
  then-start-base-via-then-start-base,
  then-start-base-via-else-start-base+then-start-base-2,
  then-start-base-via-else-start-base+else-start-base-2+then-size-start,
}

-- what passes the tests on Frag. Start is placed by the two other fields
placed : (fields : Fields) (base behind size : ℕ) → base + behind ≤ fields.start.0 → fields.start.0 ≤ base + size
    → fragment_of fields base behind size ≡ placed_at fields (base + size) (place_of fields.offset) (place_of fields.option_start)
unfolding fragment_of
placed fields base behind size low high = simp (le-leb (base + behind) fields.start.0 low, le-leb fields.start.0 (base + size) high)

before : (fields : Fields) (base behind size : ℕ) → fields.start.0 < base + behind → None ≡ fragment_of fields base behind size
unfolding fragment_of
before fields base behind size low = simp (lt-leb (base + behind) fields.start.0 low)

past : (fields : Fields) (base behind size : ℕ) → base + behind ≤ fields.start.0 → base + size < fields.start.0 → None ≡ fragment_of fields base behind size
unfolding fragment_of
past fields base behind size low high = simp (le-leb (base + behind) fields.start.0 low, lt-leb fields.start.0 (base + size) high)

pub returns-then-start-base : goal.returns-then-start-base
returns-then-start-base c = let a = c.args in
    elim c.then-start-base.branch [
      | then-start-base-via-then-start-base w ↦ before a.fields a.base.0 a.behind a.size (omega (arith, w))
      | then-start-base-via-else-start-base+then-start-base-2 w ↦ before a.fields a.base.0 a.behind a.size (omega (arith, w))
      | then-start-base-via-else-start-base+else-start-base-2+then-size-start w ↦ past a.fields a.base.0 a.behind a.size (omega (arith, w)) (omega (arith, w))
    ]

pub returns-in_err-place : goal.returns-in_err-place
returns-in_err-place c = let a = c.args in
    c.from_residual.ensures ∙ ap (λ (p : Option OriginalOffset). placed_at a.fields (a.base.0 + a.size) p (place_of a.fields.option_start)) c.in_err-place.ensures
    ∙ sym (placed a.fields a.base.0 a.behind a.size (omega (arith, c)) (omega (arith, c)))

pub returns-in_err-option_start : goal.returns-in_err-option_start
returns-in_err-option_start c = let a = c.args in
    c.from_residual-in_err-option_start.ensures
    ∙ ap₂ (placed_at a.fields (a.base.0 + a.size)) c.in_ok-place.ensures c.in_err-option_start.ensures
    ∙ sym (placed a.fields a.base.0 a.behind a.size (omega (arith, c)) (omega (arith, c)))

pub returns : goal.returns
returns c = let a = c.args in
    ap₂ (placed_at a.fields (a.base.0 + a.size)) c.in_ok-place.ensures c.in_ok-option_start.ensures
    ∙ sym (placed a.fields a.base.0 a.behind a.size (omega (arith, c)) (omega (arith, c)))
