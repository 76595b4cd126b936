-- `table_receiver::receive` meets its contract. In the fragment's arm the payload is read as that fragment (`met`), whose bytes lie in the payload; in
-- the others the payload is no fragment, and nothing was touched.
use mathlib.Core.Path.{sym, ap, ◌∙◌}
use native.Mathlib.Omega.{arith}
use Rattle.std.proofs.lemmas.Result.{err_from_is_err_and}
use Rattle.table_receiver.specs.Receive.{piece_in, Packet, fate_of}
use Rattle.table_rules.specs.Table.{table_of}
use Rattle.table_receiver.proofs.Facts.{met, met-other, other-leaves, fragment-leaves}
use Rattle.table_receiver.proofs.receive.Goals as goal

pub returns-in_err-reading : goal.returns-in_err-reading
returns-in_err-reading c =
    let a = c.args in
    let p : Packet = record { time = a.time; source = a.source; destination = a.destination; strictness = a.strictness; payload = a.payload.now } in
    let e = c.in_err-reading.ensures in
    let q = err_from_is_err_and c.from_residual.result c.from_residual.ensures.1 in
    rw (q.1, q.2) (other-leaves a.k p a.out.now (table_of a.records.now a.store.now) _ (ap piece_in (sym e)) (ap fate_of e))

pub arrival_of-arrival-requires : goal.arrival_of-arrival-requires
arrival_of-arrival-requires c = (met _ _ _ _ _ c.in_ok-reading.ensures _ c.in-Piece.is).header

pub slice_bounds-offer-count : goal.slice_bounds-offer-count
slice_bounds-offer-count c =
    let w = (met _ _ _ _ _ c.in_ok-reading.ensures _ c.in-Piece.is).within in
    omega (arith, w.starts, w.ends)

pub slice_bounds-offer-start : goal.slice_bounds-offer-start
slice_bounds-offer-start c =
    let w = (met _ _ _ _ _ c.in_ok-reading.ensures _ c.in-Piece.is).within in
    omega (arith, w.starts, w.ends)

pub slice_bounds-offer-end : goal.slice_bounds-offer-end
slice_bounds-offer-end c =
    let w = (met _ _ _ _ _ c.in_ok-reading.ensures _ c.in-Piece.is).within in
    omega (arith, w.starts, w.ends)

pub returns-in-Piece : goal.returns-in-Piece
returns-in-Piece c =
    let a = c.args in
    let p : Packet = record { time = a.time; source = a.source; destination = a.destination; strictness = a.strictness; payload = a.payload.now } in
    fragment-leaves a.k p a.out.now (table_of a.records.now a.store.now) c.in-Piece.fragment _ _ _ _ _
    (met _ _ _ _ _ c.in_ok-reading.ensures _ c.in-Piece.is).is c.arrival_of-arrival.ensures c.offer-answer.ensures

pub returns-in_default : goal.returns-in_default
returns-in_default c =
    let a = c.args in
    let p : Packet = record { time = a.time; source = a.source; destination = a.destination; strictness = a.strictness; payload = a.payload.now } in
    let e = c.in_ok-reading.ensures in
    other-leaves a.k p a.out.now (table_of a.records.now a.store.now) _ (met-other _ _ _ _ _ e c.in_default.not-Piece) (ap fate_of e)
