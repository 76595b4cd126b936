-- `client_reassembly::advance` meets its contract: the tests in order decide between its three answers.
use Rattle.number_tests.specs.Tests.{first_of}
use Rattle.client_record.specs.Record.{sound_record}
use Rattle.client_reassembly.specs.Advance.{advance_on}
use borrow.Author.Tests.{lt-ltb, le-ltb}
use mathlib.Core.Bool.{true, false}
use mathlib.Core.Path.{◌≡◌, sym, ◌∙◌}
use Rattle.client_reassembly.proofs.advance.Goals as goal

pub returns-then-not-sound : goal.returns-then-not-sound
unfolding advance_on first_of
returns-then-not-sound c = let e : sound_record c.args.client ≡ false = sym c.sound.ensures ∙ c.if-not-sound.true in
    record { client = simp e; reply = simp e }

pub returns-then-time-client : goal.returns-then-time-client
unfolding advance_on first_of
returns-then-time-client c = let e : sound_record c.args.client ≡ true = sym c.sound.ensures ∙ c.if-not-sound.false in
    record { client = simp (e, lt-ltb _ _ c.if-time-client.true); reply = simp (e, lt-ltb _ _ c.if-time-client.true) }

pub returns : goal.returns
unfolding advance_on first_of
returns c = let e : sound_record c.args.client ≡ true = sym c.sound.ensures ∙ c.if-not-sound.false in
    record { client = simp (e, le-ltb _ _ c.if-time-client.false) c.elapsed.ensures; reply = simp (e, le-ltb _ _ c.if-time-client.false) }
