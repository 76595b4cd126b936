-- `number_crc32c::move_word` meets its contract. The loop's invariant: of each distance, the sums are the steps of the bytes passed (`byte-added`).
use Rattle.number_crc32c.proofs.Digits.{rest-next, byte-added}
use Rattle.number_crc32c.proofs.move_word.Goals as goal

pub loop-preserved : goal.loop-preserved
loop-preserved c = let inv = c.loop.invariant in
    let small = c.ranges.n.fits in
    let row = c.entries-row.ensures in (
      rest-next inv.0,
      byte-added 8 _ small inv.0 inv.1 row.0 row.1 c.added-by_32.ensures,
      byte-added 40 _ small inv.0 inv.2 row.2 row.3 c.added-by_64.ensures,
      byte-added 72 _ small inv.0 inv.3 row.4 row.5 c.added-by_96.ensures,
      byte-added 104 _ small inv.0 inv.4 row.6 row.7 c.added-by_128.ensures,
    )
