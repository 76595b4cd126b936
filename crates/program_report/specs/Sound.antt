-- What holds of every reading that a payload has: names for what private functions ask.
use Rattle.std.specs.Prelude.{◌≡◌, true, List, ℕ, ◌≤◌, length}
use Rattle.wire_options.specs.Walk.{walk_from, option_limit}
use Rattle.wire_reading.specs.Extents.{bytes_in}
use Rattle.wire_reading.specs.Reading.{is_read}
use Rattle.wire_reading.specs.declared.Extent.{Extent}
use Rattle.wire_reading.specs.Packet.{PacketReading as Reading}
use Rattle.program_lines.specs.Lines.{is_listed}

-- an extent of a payload whose bytes are a list of options without fault
pub record Listable (payload : List ℕ) (options : Extent) : Type 0 where
  pub ordered : options.from.0 ≤ options.to.0
  pub within : options.to.0 ≤ length payload
  pub walks : is_listed (walk_from option_limit 0 (bytes_in options payload)) ≡ true

pub record Sound (payload : List ℕ) (reading : Reading) : Type 0 where
  pub user : reading.user.from.0 ≤ reading.user.to.0
  pub options : is_read reading.verdict ≡ true → Listable payload reading.options
