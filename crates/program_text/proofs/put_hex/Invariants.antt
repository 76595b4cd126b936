use lib.ListN.{take}
use Rattle.program_text.specs.Digits.{hex_of}
use Rattle.program_text.specs.Put.{Put}
use Rattle.program_text.proofs.put_hex.Given as goal

abbrev pub invariant-loop-byte : goal.invariant-loop-byte
invariant-loop-byte l = Put l.initial.text l.at (hex_of (take l.byte-index l.bytes)) l.end l.text
