-- An option list that reaches to the end of the bytes: its walk gives as many options as are counted, and the fill, which is zero bytes. And only "read"
-- passes the test that goes before the options are looked at.
-- Assumes nothing.
use mathlib.Core.Path.{◌≡◌, refl, sym, ap, ◌∙◌}
use mathlib.Core.Bool.{true, false}
use mathlib.Core.List.{List}
use Prim.Native.Nat.{ℕ, ◌+◌, ◌-◌, ◌≤◌}
use native.Mathlib.Omega.{arith}
use lib.ListN.{length, drop, length-drop}
use lib.Seq.{drop-drop}
use Rattle.number_octets.specs.Octets.{part}
use Rattle.number_octets.proofs.Laws.{part-rest}
use Rattle.wire_options.specs.Walk.{Located, listed, walk_from, option_limit}
use Rattle.wire_options.proofs.Rests.{Fills}
use Rattle.wire_options.proofs.Fills.{walk-fills}
use Rattle.wire_reading.specs.Reading.{is_read}
use Rattle.wire_reading.specs.declared.Verdict.{Verdict}
use Rattle.wire_reading.specs.declared.Verdict.TheVariants.{Bare, Short, Pad, Unsummed, BadSum, Malformed, Unsafe, FragData, Crowded, Tail, Padded, Read, Piece}
use Rattle.wire_reading.specs.Packet.{PacketReading as Reading}

-- what the bytes from `from` to `to` list
pub record Lists (bytes : List ℕ) (from to count fill : ℕ) : Type 0 where
  pub found : List Located
  pub ordered : from ≤ to
  pub ends : to ≡ length bytes
  pub walks : walk_from option_limit 0 (drop from bytes) ≡ listed found fill
  pub counts : length found ≡ count

-- they are all the bytes from `from` on
pub lists-part : (bytes : List ℕ) (from to count fill : ℕ) → Lists bytes from to count fill → part from (to - from) bytes ≡ drop from bytes
lists-part bytes from to count fill l = ap (λ (n : ℕ). part from (n - from) bytes) l.ends ∙ part-rest from bytes

-- the last `fill` bytes are zero, and stand within the option list
pub lists-fill : (bytes : List ℕ) (from to count fill : ℕ) → Lists bytes from to count fill → Fills from bytes fill
lists-fill bytes from to count fill l =
    let f = walk-fills option_limit 0 (drop from bytes) l.found fill (omega arith) l.walks in
    let left : length (drop from bytes) ≡ length bytes - from = length-drop from bytes in
    let within : fill + from ≤ length bytes = omega (arith, f.within, l.ordered, l.ends) in
    let place : from + (length (drop from bytes) - fill) ≡ length bytes - fill = omega arith in
    record { within = within; zeros = ap (λ (n : ℕ). drop n bytes) (sym place) ∙ sym (drop-drop (length (drop from bytes) - fill) from bytes) ∙ f.zeros }

abbrev pub ListsIn : List ℕ → Reading → Type 0
ListsIn payload r = Lists payload r.options.from.0 r.options.to.0 r.count r.fill

pub not-read : (verdict : Verdict) → is_read verdict ≡ false → verdict ≡ Read → ⊥
not-read verdict e q = let z : true ≡ false = sym (ap is_read q) ∙ e in cc

-- no other verdict passes the test
pub read-verdict : (verdict : Verdict) → is_read verdict ≡ true → verdict ≡ Read
read-verdict Bare e = cc
read-verdict Short e = cc
read-verdict Pad e = cc
read-verdict Unsummed e = cc
read-verdict BadSum e = cc
read-verdict (Malformed at) e = cc
read-verdict (Unsafe at) e = cc
read-verdict (FragData at) e = cc
read-verdict (Crowded at) e = cc
read-verdict (Tail at) e = cc
read-verdict (Padded at) e = cc
read-verdict Read e = refl
read-verdict (Piece f) e = cc
