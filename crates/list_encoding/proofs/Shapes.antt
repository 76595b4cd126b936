-- The fields of every kind, by the rows of the table of kinds. Assumes nothing.
use Prim.Native.Nat.{ℕ, ◌≤◌}
use lib.Dec.{lit≤}
use lib.ListN.{length}
use Rattle.list_entry.specs.Shape.{shape_of}
use Rattle.list_entry.specs.Option.{total}
use Rattle.list_encoding.specs.Wire.{widths_of}
use Rattle.list_entry.proofs.Shapes.{shape-cases}

-- the fields of a kind are at most eight bytes
pub shape-short : (kind : ℕ) → total (widths_of (shape_of kind)) ≤ 8
unfolding total
shape-short kind =
    shape-cases kind (λ shape. total (widths_of shape) ≤ 8) (λ e. lit≤ tt) (λ e. lit≤ tt) (λ e. lit≤ tt) (λ e. lit≤ tt) (λ e. lit≤ tt) (λ e. lit≤ tt)
    (λ g h. lit≤ tt) (lit≤ tt)

-- and at most two
pub shape-few : (kind : ℕ) → length (widths_of (shape_of kind)) ≤ 2
shape-few kind =
    shape-cases kind (λ shape. length (widths_of shape) ≤ 2) (λ e. lit≤ tt) (λ e. lit≤ tt) (λ e. lit≤ tt) (λ e. lit≤ tt) (λ e. lit≤ tt) (λ e. lit≤ tt)
    (λ g h. lit≤ tt) (lit≤ tt)
