-- `list_options::Met::put` meets its contract: the content is written right behind the kind.
use native.Mathlib.Omega.{arith}
use lib.ListN.{length-append}
use Rattle.number_varint.specs.SevenBit.{encoded}
use Rattle.list_options.specs.Listing.{content_code}
use Rattle.list_options.proofs.Contents.{option-code}
use Rattle.list_options.proofs.Writes.{written-length, written_both}
use Rattle.list_options.proofs.Met.put.Goals as goal

pub put-next-requires : goal.put-next-requires
put-next-requires c =
    let p = c.args.self.now in
    let room = rw (option-code _ _ _ c.content-content.ensures) at c.requires in
    omega (arith, room, length-append (encoded p.kind) (content_code p.rest.now c.content-content.result))

pub put_content-requires : goal.put_content-requires
put_content-requires c =
    let p = c.args.self.now in
    let x = content_code p.rest.now c.content-content.result in
    let w = c.put-next.ensures in
    let room = rw (option-code _ _ _ c.content-content.ensures) at c.requires in
    let both = length-append (encoded p.kind) x in
    (c.content-content.ensures.within, omega (arith, room, both, w.ends, written-length w (omega (arith, room, both))))

pub returns : goal.returns
returns c =
    let whole = option-code _ _ _ c.content-content.ensures in
    rw whole (written_both c.put-next.ensures c.put_content.ensures (rw whole at c.requires))
