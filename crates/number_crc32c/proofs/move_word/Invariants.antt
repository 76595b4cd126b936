use Rattle.number_crc32c.proofs.Digits.{Rest, BytesAdded}
use Rattle.number_crc32c.proofs.move_word.Given as goal

abbrev pub invariant-loop : goal.invariant-loop
invariant-loop l = Rest l.n l.counter l.rest
    × BytesAdded 32 0 l.n l.counter l.by_32.one l.by_32.two l.by_32.three l.by_32.four
    × BytesAdded 64 l.before.one l.n l.counter l.by_64.one l.by_64.two l.by_64.three l.by_64.four
    × BytesAdded 96 l.before.two l.n l.counter l.by_96.one l.by_96.two l.by_96.three l.by_96.four
    × BytesAdded 128 l.before.three l.n l.counter l.by_128.one l.by_128.two l.by_128.three l.by_128.four
