-- The sizes of what crosses the surface, computed from the layouts: what sizeof must say of the structs of include/wuraketozo.h, in its order.
-- Assumes nothing.
use Prim.Native.Nat.{◌+◌, ◌*◌}
use mathlib.Core.Path.{◌≡◌, refl}
use mathlib.Core.List.{[], ◌∷◌}
use prog.Memory.{size}
use denote.Param.{layout}
use Rattle.wire_reading.specs.contracts.Extent as Extent
use Rattle.wire_original.specs.contracts.OriginalExtent as OriginalExtent
use Rattle.client_record.specs.Limits.{fragment_limit, assembly_limit}
use Rattle.client_record.specs.contracts.Flow as Flow
use Rattle.client_record.specs.contracts.Fragment as Held
use Rattle.client_record.specs.contracts.Assembly as Assembly
use Rattle.client_record.specs.contracts.Client as Client
use Rattle.host_values.specs.contracts.Address as Address
use Rattle.host_readings.specs.contracts.Reading as Reading
use Rattle.host_rereadings.specs.contracts.Rereading as Rereading
use Rattle.host_values.specs.contracts.Listing as Listing
use Rattle.host_options.specs.contracts.PacketOption as PacketOption
use Rattle.host_options.specs.contracts.OriginalOption as OriginalOption
use Rattle.host_values.specs.contracts.Written as Written
use Rattle.host_values.specs.contracts.Figures as Figures
use Rattle.host_values.specs.contracts.Answer as Answer
use Rattle.host_values.specs.contracts.Fragment as Fragment
use Rattle.host_values.specs.contracts.Received as Received
use Rattle.host_limits.specs.Layout.{record_size, field_bytes}

-- nine numbers, and for each assembly its flow, three more numbers and its fragments
pub record-size-is : record_size ≡ 72 + assembly_limit * (12 + 20 + fragment_limit * 8)
unfolding record_size assembly_limit fragment_limit
record-size-is = refl

-- an address, bytes of a payload, bytes of an original; a reading, a rereading, a listing, an option of either, what was written
pub read-and-written : size (layout Address.the_row)
    ∷ size (layout Extent.the_row)
    ∷ size (layout OriginalExtent.the_row)
    ∷ size (layout Reading.the_row)
    ∷ size (layout Rereading.the_row)
    ∷ size (layout Listing.the_row)
    ∷ size (layout PacketOption.the_row)
    ∷ size (layout OriginalOption.the_row)
    ∷ size (layout Written.the_row)
    ∷ []
    ≡ 4 ∷ 16 ∷ 16 ∷ 112 ∷ 72 ∷ 24 ∷ 32 ∷ 32 ∷ 16 ∷ []
read-and-written = refl

-- a flow, a held fragment, an assembly; an account, an answer, a fragment that is offered, what was received
pub of-the-table : size (layout Flow.the_row)
    ∷ size (layout Held.the_row)
    ∷ size (layout Assembly.the_row)
    ∷ size (layout Figures.the_row)
    ∷ size (layout Answer.the_row)
    ∷ size (layout Fragment.the_row)
    ∷ size (layout Received.the_row)
    ∷ []
    ≡ 12 ∷ 8 ∷ (12 + 20 + fragment_limit * 8) ∷ 56 ∷ 80 ∷ 48 ∷ 200 ∷ []
unfolding fragment_limit
of-the-table = refl

-- ---- no gap

-- a flow, a held fragment, an assembly, a record: the bytes of the fields are all the bytes there are, so each byte of a record counts
pub no_gap : field_bytes (layout Flow.the_row) ∷ field_bytes (layout Held.the_row) ∷ field_bytes (layout Assembly.the_row) ∷ field_bytes (layout Client.the_row) ∷ []
    ≡ size (layout Flow.the_row) ∷ size (layout Held.the_row) ∷ size (layout Assembly.the_row) ∷ size (layout Client.the_row) ∷ []
no_gap = refl
