-- The bytes of a record, and of a struct's fields.
use Rattle.std.specs.Prelude.{ℕ, ◌+◌}
use mir.Syntax.{Ty, ty_int, ty_bool, ty_float, ty_ptr, ty_ref, ty_array, ty_unit, ty_struct, ty_enum, ty_param, ty_const, ty_array_p, ty_named, Tys, tnil, tcons}
use prog.Memory.{size}
use denote.Param.{layout}
use Rattle.client_record.specs.contracts.Client as Client'

-- the bytes of a client's record, as it is laid out
unfoldable pub record_size : ℕ
record_size = size (layout Client'.the_row)

-- the bytes of a struct's fields, without what may lie between them
abbrev pub sizes : Tys → ℕ
sizes tnil = 0
sizes (tcons τ τs) = size τ + sizes τs

abbrev pub field_bytes : Ty → ℕ
field_bytes (ty_struct name τs) = sizes τs
field_bytes (ty_int w) = size (ty_int w)
field_bytes ty_bool = size ty_bool
field_bytes (ty_float f) = size (ty_float f)
field_bytes ty_ptr = size ty_ptr
field_bytes (ty_ref κ μ τ) = size (ty_ref κ μ τ)
field_bytes (ty_array τ n) = size (ty_array τ n)
field_bytes ty_unit = size ty_unit
field_bytes (ty_enum name τss) = size (ty_enum name τss)
field_bytes (ty_param ι) = size (ty_param ι)
field_bytes (ty_const ι) = size (ty_const ι)
field_bytes (ty_array_p τ ι) = size (ty_array_p τ ι)
field_bytes (ty_named ν θ) = size (ty_named ν θ)
