-- `client_offer::offer` meets its contract: the tests decide, and where none applies the record has what `take` asks once its time is set.
use mathlib.Core.Path.{refl, sym, ap, ◌∙◌, subst}
use mathlib.Core.List.{List}
use mathlib.Core.Option.{Option}
use Prim.Native.Nat.{ℕ}
use lib.ListN.{length}
use Rattle.client_record.specs.declared.Client.{Client}
use Rattle.client_record.specs.Record.{within_plan}
use Rattle.client_reassembly.specs.declared.Arrival.{Arrival}
use Rattle.client_reassembly.specs.Advance.{elapse}
use Rattle.client_reassembly.specs.Offer.{Outcome, taken, refuse_or, fragment_on}
use Rattle.client_reassembly.specs.Post.{Share, Taking}
use Rattle.client_reassembly.proofs.Fates.{left-of}
use Rattle.client_record.proofs.SoundParts.{sound-parts}
use Rattle.client_reassembly.proofs.Kept.{elapse-planned}
use Rattle.client_reassembly.proofs.Passes.{Passes, passes}
use Rattle.client_reassembly.proofs.Steady.{elapse-held, elapse-each, elapse-room}
use Rattle.client_offer.proofs.offer.Goals as goal

-- the outcome, told which test applies
outcome : Client → List ℕ → List ℕ → Arrival → List ℕ → Option ℕ → Outcome
outcome c share out o bytes r = refuse_or c share out r (taken (elapse o.time c) share out o bytes)

-- its share is the same once its time is set
own-elapsed : (t : ℕ) (c : Client) (share : List ℕ) → Share c share → Share (elapse t c) share
unfolding elapse
own-elapsed t c share own = record { plan = own.plan; size = own.size }

pub returns-in-Err : goal.returns-in-Err
unfolding fragment_on outcome
returns-in-Err c =
    let x = c.args in
    left-of (ap (outcome x.client x.share.now x.out.now x.o x.bytes.now) (sym c.in-Err.ensures))
    (record { client = refl; reply = refl; share_left = refl; out_left = refl })

pub elapsed-c-requires : goal.elapsed-c-requires
elapsed-c-requires c =
    let x = c.args in
    (passes x.client (length x.out.now) x.o (length x.bytes.now) (sym c.in_default.ensures)).sound

pub take-requires : goal.take-requires
unfolding within_plan
take-requires c =
    let x = c.args in
    let k : Passes x.client (length x.out.now) x.o (length x.bytes.now) =
    passes x.client (length x.out.now) x.o (length x.bytes.now) (sym c.in_default.ensures) in
    subst (λ (d : Client). Taking d x.share.now x.out.now x.o x.bytes.now) (sym c.elapsed-c.ensures)
    (record {
      sized = k.sized;
      room = elapse-room x.o.time x.client k.sound (length x.bytes.now) k.offered;
      held = elapse-held x.o.time x.client k.sound;
      each = elapse-each x.o.time x.client k.sound;
      planned = elapse-planned x.o.time x.client (sound-parts x.client k.sound).planned;
      own = own-elapsed x.o.time x.client x.share.now c.requires;
      out_size = k.out;
    })

pub returns : goal.returns
unfolding fragment_on outcome
returns c =
    let x = c.args in
    left-of
    (ap (outcome x.client x.share.now x.out.now x.o x.bytes.now) (sym c.in_default.ensures)
    ∙ ap (λ (d : Client). taken d x.share.now x.out.now x.o x.bytes.now) (sym c.elapsed-c.ensures))
    c.take.ensures
