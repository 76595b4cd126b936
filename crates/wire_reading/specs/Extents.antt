-- What stands in a packet between two offsets.
use Rattle.std.specs.Prelude.{List, ℕ, ◌-◌}
use Rattle.number_octets.specs.Octets.{part}
use Rattle.wire_reading.specs.declared.Extent.{Extent}

-- the bytes of an extent, and how many they are
abbrev pub size_of : Extent → ℕ
size_of extent = extent.to.0 - extent.from.0

abbrev pub bytes_in : Extent → List ℕ → List ℕ
bytes_in extent payload = part extent.from.0 (size_of extent) payload
