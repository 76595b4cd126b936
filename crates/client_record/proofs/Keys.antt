-- The comparison that `Flow` derives is the definition's: addresses byte by byte, and then the ports.
-- Assumes nothing.
use Prim.Native.Nat.{ℕ}
use mathlib.Core.Path.{◌≡◌, refl, ap, ap₂}
use mathlib.Core.Bool.{Bool, ◌&&◌}
use mathlib.Core.List.{List, [], ◌∷◌}
use lib.Dec.{eqb}
use lib.Pointwise.{pointwise}
use Rattle.client_record.specs.declared.Flow.{Flow}
use Rattle.client_record.specs.Lists.{same_bytes}
use Rattle.client_record.specs.Record.{same_flow}

pub pointwise_same : (a b : List ℕ) → pointwise eqb a b ≡ same_bytes a b
unfolding same_bytes
pointwise_same [] [] = refl
pointwise_same [] (y ∷ ys) = refl
pointwise_same (x ∷ xs) [] = refl
pointwise_same (x ∷ xs) (y ∷ ys) = ap (λ (t : Bool). eqb x y && t) (pointwise_same xs ys)

-- what `==` of two flows ensures
pub derived_flow : (x y : Flow)
    → pointwise eqb x.source y.source
    && (pointwise eqb x.destination y.destination && (eqb x.source_port y.source_port && eqb x.destination_port y.destination_port))
    ≡ same_flow x y
unfolding same_flow
derived_flow x y =
    ap₂ (λ (s d : Bool). s && (d && (eqb x.source_port y.source_port && eqb x.destination_port y.destination_port)))
    (pointwise_same x.source y.source) (pointwise_same x.destination y.destination)
