-- `list_readings::list_reading` meets its contract: the part is listed where the test holds, and else the empty part, whose walk has no option.
use mathlib.Core.Path.{◌≡◌, sym, ap₂, subst⁻¹, ◌∙◌}
use mathlib.Core.Bool.{Bool, true, false}
use mathlib.Core.List.{List, []}
use native.Mathlib.Omega.{arith}
use Prim.Native.Nat.{ℕ, ◌-◌, ◌≤◌}
use lib.ListN.{length}
use Rattle.number_octets.specs.Octets.{part}
use Rattle.wire_options.specs.Walk.{Walked, listed, walk_from, option_limit}
use Rattle.wire_reading.specs.declared.Verdict.{Verdict}
use Rattle.list_options.specs.Listing.{ListedInto}
use Rattle.list_readings.specs.Catalogue.{is_listed, walk_of_value}
use Rattle.list_readings.proofs.Values.{extent-inside, value-listed, value_none}
use Rattle.list_readings.proofs.list_reading.Goals as goal

-- by the code's test and the ends that its calls give
module _ (bytes : List ℕ) (verdict : Verdict) (from to : ℕ) where
  inside : {test : Bool} {start end : ℕ} → test ≡ is_listed verdict from to (length bytes) → test ≡ true → start ≡ from → end ≡ to
      → (start ≤ end) × (end ≤ length bytes)
  inside is holds s e = let h = extent-inside verdict from to (length bytes) (sym is ∙ holds) in (omega (arith, h.0), omega (arith, h.1))

  listed-part : {test : Bool} {start end : ℕ} → test ≡ is_listed verdict from to (length bytes) → test ≡ true → start ≡ from → end ≡ to
      → walk_of_value bytes verdict from to ≡ walk_from option_limit 0 (part start (end - start) bytes)
  listed-part is holds s e =
      value-listed bytes verdict from to (sym is ∙ holds)
      ∙ ap₂ (λ (a b : ℕ). walk_from option_limit 0 (part a (b - a) bytes)) (sym s) (sym e)

  listed-none : {test : Bool} → test ≡ is_listed verdict from to (length bytes) → test ≡ false → walk_of_value bytes verdict from to ≡ listed [] 0
  listed-none is fails = value_none bytes verdict from to (sym is ∙ fails)

pub slice_bounds-list_options-count : goal.slice_bounds-list_options-count
slice_bounds-list_options-count g c = let a = c.args in
    let extent = g.E.Span in
    omega
    (arith, inside a.bytes.now a.reading.verdict (extent.from a.reading.options) (extent.to a.reading.options) c.is_listed.ensures c.if-is_listed.true c.start.ensures c.end.ensures)

pub returns-then-is_listed : goal.returns-then-is_listed
returns-then-is_listed g c = let a = c.args in
    let extent = g.E.Span in
    subst⁻¹ (λ (w : Walked). ListedInto w a.buffer.now c.list_options.result c.list_options.new.buffer)
    (listed-part a.bytes.now a.reading.verdict (extent.from a.reading.options) (extent.to a.reading.options) c.is_listed.ensures c.if-is_listed.true c.start.ensures c.end.ensures)
    c.list_options.ensures

pub returns : goal.returns
unfolding walk_from
returns g c = let a = c.args in
    let extent = g.E.Span in
    subst⁻¹ (λ (w : Walked). ListedInto w a.buffer.now c.list_options-2.result c.list_options-2.new.buffer)
    (listed-none a.bytes.now a.reading.verdict (extent.from a.reading.options) (extent.to a.reading.options) c.is_listed.ensures c.if-is_listed.false)
    c.list_options-2.ensures
