-- `client_reassembly::old` meets its contract: the subtraction that stops at 0 compares as the definition does (`behind`).
use Prim.Native.Nat.{◌+◌}
use mathlib.Core.Bool.{Bool, ◌&&◌}
use mathlib.Core.Logic.{inr}
use mathlib.Core.Path.{sym, ap, ◌∙◌}
use native.Mathlib.Omega.{arith}
use lib.Dec.{leb}
use Rattle.client_record.specs.Limits.{lifetime}
use Rattle.client_reassembly.proofs.Laws.{behind}
use Rattle.client_reassembly.specs.Advance.{old}
use Rattle.client_reassembly.proofs.old.Goals as goal

pub returns-then-live : goal.returns-then-live
unfolding old lifetime
returns-then-live c = let s = c.args in
    ap (leb lifetime) c.saturating_sub.ensures ∙ behind s.a.opened s.time lifetime (inr (omega arith))
    ∙ ap (λ (b : Bool). b && leb (s.a.opened + lifetime) s.time) (sym c.if-live.true ∙ c.live.ensures)

pub returns-else-live : goal.returns-else-live
unfolding old lifetime
returns-else-live c = let s = c.args in
    c.if-live.false ∙ sym (ap (λ (b : Bool). b && leb (s.a.opened + lifetime) s.time) (sym c.live.ensures ∙ c.if-live.false))
