use Rattle.number_crc32c.proofs.Words.{WordsAdded}
use Rattle.number_crc32c.proofs.step_words.Given as goal

abbrev pub invariant-loop-word : goal.invariant-loop-word
invariant-loop-word l = WordsAdded l.a l.b l.c l.d l.word-index l.sums.one l.sums.two l.sums.three l.sums.four
