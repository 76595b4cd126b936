-- What listing a reading and writing a payload answer, as values of include/wuraketozo.h.
use Rattle.std.specs.Prelude.{ℕ}
use Rattle.list_encoding.specs.Encoding.{Answer, given, refused}
use Rattle.list_options.specs.Listing as Transcribe
use Rattle.host_values.specs.declared.Listing.{Listing}
use Rattle.host_values.specs.declared.Written.{Written}

-- how long the list is, and the fill
abbrev pub host_listing : Answer Transcribe.Listing → Listing
host_listing (given l) = record { refusal = 0; size = l.size; fill = l.fill }
host_listing (refused n) = record { refusal = n; size = 0; fill = 0 }

-- how long the payload is
abbrev pub host_written : Answer ℕ → Written
host_written (given size) = record { refusal = 0; size = size }
host_written (refused n) = record { refusal = n; size = 0 }
