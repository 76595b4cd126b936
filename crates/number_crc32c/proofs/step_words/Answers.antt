-- `number_crc32c::step_words` meets its contract. The loop's invariant: the sums of the words passed (`word-added`).
use mathlib.Core.Path.{refl}
use Rattle.number_crc32c.proofs.Words.{word-added}
use Rattle.number_crc32c.proofs.step_words.Goals as goal

pub loop-word-preserved : goal.loop-word-preserved
loop-word-preserved c = word-added refl c.loop-word.invariant c.move_word-sums.ensures
