-- How an option of each kind stands in an encoded option list, document 01's docket ("Dockets and the writer").
use Rattle.std.specs.Prelude.{ℕ, cond, List, [], eqb, leb}
use Rattle.wire_step.specs.Kinds.{apc, widths_of}

-- "its kind and fields as numbers", the fields given by their widths in bytes; "a body length (0 to 65,531) and the raw body"; or refused
pub data Shape : Type 0 where
  fields : List ℕ → Shape
  raw : Shape
  barred : Shape

-- The table of document 01: APC has no field here ("the writer works it out"), MDS 16 bits, MRDS 16 and 8 bits, REQ and RES 32 bits, TIME 32 bits
-- twice; kinds 9 to 191 have a body; kinds 0, 1, 3 and 192 to 255 are refused.
unfoldable pub shape_of : ℕ → Shape
shape_of kind =
    cond (eqb kind apc) (fields [])
    (cond (eqb kind 4) (fields (widths_of 4))
    (cond (eqb kind 5) (fields (widths_of 5))
    (cond (eqb kind 6) (fields (widths_of 6))
    (cond (eqb kind 7) (fields (widths_of 7))
    (cond (eqb kind 8) (fields (widths_of 8))
    (cond (leb 9 kind) (cond (leb kind 191) raw barred) barred))))))
