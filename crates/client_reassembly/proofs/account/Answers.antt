-- `client_reassembly::account` meets its contract: the test of the record decides between its two answers.
use Rattle.number_tests.specs.Tests.{first_of}
use Rattle.client_record.specs.Record.{sound_record}
use Rattle.client_reassembly.specs.Advance.{account_on, figures}
use mathlib.Core.Bool.{true, false}
use mathlib.Core.Path.{◌≡◌, sym, ◌∙◌}
use Rattle.client_reassembly.proofs.account.Goals as goal

pub returns-then-not-sound : goal.returns-then-not-sound
unfolding account_on first_of
returns-then-not-sound c = let e : sound_record c.args.client ≡ false = sym c.sound.ensures ∙ c.if-not-sound.true in
    record { client = simp e; reply = simp e }

pub returns : goal.returns
unfolding account_on first_of figures
returns c = let e : sound_record c.args.client ≡ true = sym c.sound.ensures ∙ c.if-not-sound.false in
    record { client = simp e; reply = simp e }
