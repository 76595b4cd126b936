-- `number_offsets::place_of` meets its contract: the code's test is the definition's.
use Rattle.std.proofs.Common.{arith}
use Rattle.std.proofs.lemmas.Grind.{common_steps}
use borrow.Author.Tests.{lt-ltb, le-ltb}
use Rattle.number_offsets.specs.Offsets.{place_of, udp_header}
use Rattle.number_offsets.proofs.place_of.Goals as goal

pub returns-then-at-lt-UDP_HEADER : goal.returns-then-at-lt-UDP_HEADER
unfolding place_of udp_header
returns-then-at-lt-UDP_HEADER c = let e = lt-ltb c.args.field 8 (omega arith) in simp e

pub returns : goal.returns
unfolding place_of udp_header
returns c = let e = le-ltb c.args.field 8 (omega arith) in simp (c.from-at.ensures, e)
