-- `list_options::behind_nops` meets its contract: the NOPs of the rest are counted, and lie within it.
use mathlib.Core.Path.{◌≡◌, ap, ◌∙◌}
use mathlib.Core.List.{List}
use Prim.Native.Nat.{ℕ, ◌+◌}
use native.Mathlib.Omega.{arith}
use lib.ListN.{drop, length-drop}
use Rattle.number_octets.proofs.Laws.{part-rest}
use Rattle.wire_nops.specs.Nops.{nops_of}
use Rattle.wire_nops.proofs.Counts.{nops-within}
use Rattle.list_options.proofs.behind_nops.Goals as goal

pub returns : goal.returns
returns c =
    let at = c.args.at in
    let all : List ℕ = c.args.options.now in
    let n : c.leading_nops.result ≡ nops_of (drop at all) = c.leading_nops.ensures.0 ∙ ap nops_of (part-rest at all) in
    (ap (λ (k : ℕ). at + k) n, omega (arith, n, nops-within (drop at all), length-drop at all))
