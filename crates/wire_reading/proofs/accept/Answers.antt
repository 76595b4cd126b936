-- `wire_reading::accept` meets its contract: `started` computes at how the area starts.
use mathlib.Core.Path.{◌≡◌, sym, ap, ◌∙◌}
use mathlib.Core.Bool.{Bool}
use mathlib.Core.List.{List}
use Prim.Native.Nat.{ℕ, ◌+◌, ◌-◌, ◌≤◌}
use native.Mathlib.Omega.{arith}
use lib.ListN.{length, drop, length-take, length-drop}
use Rattle.std.specs.Prelude.{Result, Ok}
use Rattle.number_octets.specs.Octets.{part}
use Rattle.number_octets.proofs.Laws.{part-rest}
use Rattle.number_offsets.specs.Offsets.{udp_header}
use Rattle.wire_surplus.specs.Surplus.{start_of}
use Rattle.wire_surplus.specs.declared.Unlisted.{Unlisted}
use Rattle.wire_reading.specs.Reading.{payload_limit, is_odd, started}
use Rattle.wire_surplus.proofs.Starts.{start-empty, start-list}
use Rattle.wire_reading.proofs.accept.Goals as goal

-- the area is all that stands behind the UDP length
begun : (odd unused : Bool) (size : ℕ) (payload : List ℕ) (result start : Result ℕ Unlisted) → result ≡ start_of odd unused (part size (length payload - size) payload)
    → result ≡ start → start ≡ start_of odd unused (drop size payload)
begun odd unused size payload result start e met = sym met ∙ e ∙ ap (start_of odd unused) (part-rest size payload)

-- where the list starts is within the payload
within : (odd unused : Bool) (size at : ℕ) (payload : List ℕ) → size ≤ length payload → Ok at ≡ start_of odd unused (drop size payload) → size + at ≤ length payload
within odd unused size at payload h e =
    omega (arith, simp length-drop at (start-list odd unused (drop size payload) at (sym e)))

-- no area behind the UDP length
pub returns-then-payload-size : goal.returns-then-payload-size
returns-then-payload-size c = let a = c.args in
    c.optionless.ensures ∙ ap (started a.strictness a.payload.now a.size)
    (sym (start-empty a.unused (drop a.size a.payload.now) (is_odd a.size) (simp length-drop (omega arith))))

pub start_of-requires : goal.start_of-requires
unfolding payload_limit udp_header
start_of-requires c = simp (length-take, length-drop) (omega (arith, c.requires, c.if-payload-size.false))

pub overflow_add-size : goal.overflow_add-size
overflow_add-size c = let a = c.args in
    omega (arith, within _ _ _ _ _ c.requires.1 (begun (is_odd a.size) a.unused a.size a.payload.now _ _ c.start_of.ensures c.in-Ok.is))

pub listed-requires : goal.listed-requires
listed-requires c = let a = c.args in
    (c.requires.0, omega arith, within _ _ _ _ _ c.requires.1 (begun (is_odd a.size) a.unused a.size a.payload.now _ _ c.start_of.ensures c.in-Ok.is))
