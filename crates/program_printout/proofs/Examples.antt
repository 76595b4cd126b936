-- The program's text, computed from its input bytes.
-- Assumes nothing.
use mathlib.Core.Path.{◌≡◌, refl}
use mathlib.Core.List.{List, [], ◌∷◌}
use Prim.Native.Nat.{ℕ}
use Rattle.number_tests.specs.Tests.{first_of}
use Rattle.number_octets.specs.Octets.{number, octets}
use Rattle.number_offsets.specs.Offsets.{udp_header}
use Rattle.number_checksum.specs.Checksum.{word_sum, folded}
use Rattle.wire_nops.specs.Nops.{nops_of}
use Rattle.wire_step.specs.Kinds.{class_of}
use Rattle.wire_step.specs.Step.{header_of, step_of}
use Rattle.wire_options.specs.Walk.{walk_from, option_limit}
use Rattle.wire_area.specs.Area.{area_of}
use Rattle.wire_surplus.specs.Surplus.{start_of}
use Rattle.wire_datagram.specs.Reading.{pseudo_header, accepted, reading}
use Rattle.wire_reading.specs.Reading.{payload_limit}
use Rattle.program_text.specs.Digits.{digits_in, decimal_of}
use Rattle.program_text.specs.Offsets.{at_offset}
use Rattle.program_lines.specs.Lines.{numbers_of, option_line, option_lines}
use Rattle.program_verdict.specs.Words.{verdict_line}
use Rattle.program_report.specs.Report.{number_line, listing_of, reading_text, report_of}
use Rattle.program_printout.specs.Input.{text_of}

-- an input that ends within the addresses: refused 1
missing : text_of (192 ∷ 0 ∷ 2 ∷ 1 ∷ 198 ∷ 51 ∷ 100 ∷ []) ≡ 114 ∷ 101 ∷ 102 ∷ 117 ∷ 115 ∷ 101 ∷ 100 ∷ 32 ∷ 49 ∷ 10 ∷ []
unfolding text_of number_line decimal_of digits_in
missing = refl

-- the addresses 192.0.2.1 and 198.51.100.7, and the payload of figure 1
line-1 : List ℕ
line-1 =
    192 ∷ 0 ∷ 2 ∷ 1 ∷ 198 ∷ 51 ∷ 100 ∷ 7 ∷ 18 ∷ 52 ∷ 0 ∷ 53 ∷ 0 ∷ 8 ∷ 1 ∷ 57 ∷ 248 ∷ 197 ∷ 6 ∷ 6 ∷ 0 ∷ 0 ∷ 1 ∷ 44 ∷ []

-- document 01's example, as document 02's R-7 has it: user 0, verdict read, kind 6 300 at 10, fill 0
program-line-1 : text_of line-1
    ≡ 117 ∷ 115 ∷ 101 ∷ 114 ∷ 32 ∷ 48 ∷ 10 ∷ 118 ∷ 101 ∷ 114 ∷ 100 ∷ 105 ∷ 99 ∷ 116 ∷ 32 ∷ 114 ∷ 101 ∷ 97 ∷ 100 ∷ 10 ∷ 107 ∷ 105 ∷ 110 ∷ 100 ∷ 32 ∷ 54 ∷ 32 ∷ 51 ∷ 48 ∷ 48 ∷ 32 ∷ 97 ∷ 116 ∷ 32 ∷ 49 ∷ 48 ∷ 10 ∷ 102 ∷ 105 ∷ 108 ∷ 108 ∷ 32 ∷ 48 ∷ 10 ∷ []
unfolding line-1 number udp_header word_sum folded class_of header_of step_of walk_from nops_of area_of option_limit start_of payload_limit first_of accepted reading
    pseudo_header octets text_of report_of reading_text listing_of option_lines option_line at_offset number_line verdict_line numbers_of decimal_of digits_in
program-line-1 = refl
