-- `list_writer::write` meets its contract: the check gives the options or the refusal, and the size decides the rest.
use mathlib.Core.Path.{sym, ap, ◌∙◌}
use native.Mathlib.Omega.{arith}
use Rattle.std.proofs.lemmas.Result.{err_from_is_err_and}
use Rattle.list_encoding.specs.Encoding.{refused}
use Rattle.list_writer.specs.Answer.{Outcome, datagram_for, written_answer}
use Rattle.list_writer.proofs.Outcomes.{sound-list, refused-list, long, room, put-there, put-large, put_refused}
use Rattle.list_writer.proofs.write.Goals as goal

pub returns-in_err-options : goal.returns-in_err-options
returns-in_err-options c = let a = c.args in
    let p = err_from_is_err_and c.from_residual.result c.from_residual.ensures.1 in
    let e = refused-list a.list.now _ c.in_err-options.ensures in
    let d = datagram_for a.source a.destination a.source_port a.destination_port a.«data».now a.fill in
    let o = put_refused d a.list.now a.buffer.now _ e in
    record {
      answered = ap written_answer p.1 ∙ ap refused p.2 ∙ sym (ap (λ (x : Outcome). x.answer) o);
      left = sym (ap (λ (x : Outcome). x.buffer) o);
    }

pub invariant_of-datagram : goal.invariant_of-datagram
invariant_of-datagram c = let a = c.args in
    let t = a.«data».now in
    let z = c.in_ok-options.options in
    let i = sound-list a.list.now z.count z.size c.in_ok-options.ensures in
    let f = sym c.fits.ensures ∙ c.if-fits.true in
    let r = room a.source a.destination a.source_port a.destination_port t a.list.now a.fill a.buffer.now z.size i.0 i.1 i.2 f in
    let n = long a.source a.destination a.source_port a.destination_port t a.list.now a.fill a.buffer.now z.size i.0 i.1 i.2 in
    record { fits = omega (arith, r.0, n) }

pub put_payload-requires : goal.put_payload-requires
put_payload-requires c = let a = c.args in
    let t = a.«data».now in
    let z = c.in_ok-options.options in
    let i = sound-list a.list.now z.count z.size c.in_ok-options.ensures in
    room a.source a.destination a.source_port a.destination_port t a.list.now a.fill a.buffer.now z.size i.0 i.1 i.2
    (sym c.fits.ensures ∙ c.if-fits.true)

pub returns-then-fits : goal.returns-then-fits
returns-then-fits c = let a = c.args in
    let t = a.«data».now in
    let z = c.in_ok-options.options in
    let i = sound-list a.list.now z.count z.size c.in_ok-options.ensures in
    let p =
    put-there a.source a.destination a.source_port a.destination_port t a.list.now a.fill a.buffer.now z.size i.0 i.1 i.2
    (sym c.fits.ensures ∙ c.if-fits.true) c.put_payload.ensures in
    record { answered = p.0; left = p.1 }

pub returns : goal.returns
returns c = let a = c.args in
    let t = a.«data».now in
    let z = c.in_ok-options.options in
    let i = sound-list a.list.now z.count z.size c.in_ok-options.ensures in
    let o =
    put-large a.source a.destination a.source_port a.destination_port t a.list.now a.fill a.buffer.now z.size i.0 i.1 i.2
    (sym c.fits.ensures ∙ c.if-fits.false) in
    record { answered = sym (ap (λ (x : Outcome). x.answer) o); left = sym (ap (λ (x : Outcome). x.buffer) o) }
