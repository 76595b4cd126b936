-- A reading of an original: its positions are places in it.
use Rattle.wire_original.specs.declared.OriginalExtent.{OriginalExtent}
use Rattle.wire_reading.specs.declared.Reading.{Reading}

abbrev pub OriginalReading : Type 0
OriginalReading = Reading OriginalExtent
