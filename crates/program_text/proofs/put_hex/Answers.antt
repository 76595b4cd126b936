-- `program_text::put_hex` meets its contract. The loop's invariant: the digits of the bytes so far are put.
use mathlib.Core.Path.{◌≡◌, sym, ap}
use native.Mathlib.Omega.{arith}
use lib.ListN.{take}
use lib.Seq.{take_all}
use Rattle.program_text.specs.Digits.{hex_of}
use Rattle.program_text.proofs.Puts.{put_as, put-none, put-append, put-length, put-room}
use Rattle.program_text.proofs.Hexes.{hex-more}
use Rattle.program_text.proofs.put_hex.Goals as goal

pub loop-byte-init : goal.loop-byte-init
unfolding hex_of
loop-byte-init c = put-none c.args.text.now c.args.at

pub put_byte-end-requires : goal.put_byte-end-requires
put_byte-end-requires c = put-room c.requires c.loop-byte.invariant

pub loop-byte-preserved : goal.loop-byte-preserved
loop-byte-preserved c =
    put_as (sym (hex-more c.args.bytes.now c.loop-byte.byte-index (omega arith))) (put-append c.requires c.loop-byte.invariant c.put_byte-end.ensures)

pub shape_of-text : goal.shape_of-text
shape_of-text c = put-length c.requires c.loop-byte.invariant

pub returns : goal.returns
returns c = let b = c.args.bytes.now in
    let all : take c.loop-byte.byte-index b ≡ b = take_all c.loop-byte.byte-index b (omega arith) in
    put_as (ap hex_of all) c.loop-byte.invariant
