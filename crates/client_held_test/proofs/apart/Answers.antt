-- `client_held_test::apart` meets its contract: the loop's invariant says that none of the first `k` fragments ends past `most`, that
-- no two of them overlap and that the set has their places (`Marks`), so the next one overlaps one of them exactly if one of its places is in it.
use Prim.Native.Nat.{ℕ, ◌+◌, ◌/◌, ◌<◌}
use mathlib.Core.Bool.{Bool, false, ◌&&◌, and-false}
use mathlib.Core.Path.{◌≡◌, refl, sym, ap, ap₂, ◌∙◌}
use native.Mathlib.Omega.{arith}
use borrow.Author.Tests.{le-leb, lt-leb}
use lib.Dec.{leb}
use lib.ListN.{length, get_or}
use Rattle.number_tests.proofs.Tests.{true-false}
use Rattle.number_sets.proofs.Sets.{blank}
use Rattle.client_record.specs.declared.Assembly.{Assembly}
use Rattle.client_record.specs.Limits.{datagram_limit}
use Rattle.client_record.specs.Lists.{all, any, pairs}
use Rattle.client_record.specs.Record.{end, non_empty, held_fragments}
use Rattle.client_record.proofs.Held.{none, held_at}
use Rattle.client_record.proofs.Completion.{not_yes}
use Rattle.client_record.proofs.Lists.{all-next, all-front}
use Rattle.client_record.proofs.SoundParts.{all-at}
use Rattle.client_held_test.proofs.OnePass.{apart_all}
use Rattle.client_held_test.proofs.Places.{full-some, marks-more, apart_more, taken-overlaps}
use Rattle.client_held_test.proofs.apart.Goals as goal

-- one ends past it
past-fails : (a : Assembly) (i most : ℕ) → i < length (held_fragments a) → most < end (get_or (held_fragments a) i none)
    → all (λ f. leb (end f) most) (held_fragments a) && apart_all (held_fragments a) ≡ false
past-fails a i most h l =
    ap (λ (x : Bool). x && apart_all (held_fragments a))
    (not_yes _ (λ e. true-false (sym (all-at (λ f. leb (end f) most) (held_fragments a) i none h e) ∙ lt-leb (end (get_or (held_fragments a) i none)) most l)))

pub loop-k-init : goal.loop-k-init
unfolding all pairs any datagram_limit
loop-k-init c = (refl, refl, λ j. blank ((datagram_limit + 63) / 64) j, refl)

pub returns-then-most-past_of : goal.returns-then-most-past_of
returns-then-most-past_of c = let a = c.args.a in
    let h : c.loop-k.k < length (held_fragments a) = omega (arith, c.requires.held.count) in
    let past = c.past_of.ensures.value ∙ ap end (held_at a c.loop-k.k none h) in
    sym (past-fails a c.loop-k.k _ h (omega (arith, past, c.if-most-past_of.true)))

pub include-requires : goal.include-requires
unfolding datagram_limit
include-requires c = let a = c.args.a in
    let h : c.loop-k.k < length (held_fragments a) = omega (arith, c.requires.held.count) in
    let same = held_at a c.loop-k.k none h in
    let full = all-at non_empty (held_fragments a) c.loop-k.k none h c.requires.each in
    let past = c.past_of.ensures.value ∙ ap end same in
    rw (c.end_of.ensures, same)
    (record { some = full-some _ full; room = omega (arith, past, c.if-most-past_of.false, c.requires.within, c.loop-k.invariant.3) })

pub returns-then-not-include : goal.returns-then-not-include
returns-then-not-include c = let a = c.args.a in
    let h : c.loop-k.k < length (held_fragments a) = omega (arith, c.requires.held.count) in
    let same = held_at a c.loop-k.k none h in
    let inc = rw (c.end_of.ensures, same) at c.include.ensures in
    let taken = taken-overlaps (held_fragments a) c.loop-k.k none h _ c.loop-k.invariant.2 (inc.taken c.if-not-include.true) in
    let short : Bool = all (λ f. leb (end f) c.args.most) (held_fragments a) in
    sym (ap (λ (x : Bool). short && x) taken ∙ and-false short)

pub loop-k-preserved : goal.loop-k-preserved
loop-k-preserved c = let a = c.args.a in
    let h : c.loop-k.k < length (held_fragments a) = omega (arith, c.requires.held.count) in
    let same = held_at a c.loop-k.k none h in
    let inc = rw (c.end_of.ensures, same) at c.include.ensures in
    let full = all-at non_empty (held_fragments a) c.loop-k.k none h c.requires.each in
    let each = all-front non_empty (held_fragments a) c.loop-k.k c.requires.each in
    let past = c.past_of.ensures.value ∙ ap end same in (
      all-next (held_fragments a) c.loop-k.k none h (λ f. leb (end f) c.args.most)
          ∙ ap₂ ◌&&◌ c.loop-k.invariant.0 (le-leb (end (get_or (held_fragments a) c.loop-k.k none)) c.args.most (omega (arith, past, c.if-most-past_of.false))),
      apart_more (held_fragments a) c.loop-k.k none h _ c.loop-k.invariant.2 full each c.loop-k.invariant.1 (inc.clear c.if-not-include.false),
      marks-more (held_fragments a) c.loop-k.k none h _ c.loop-k.invariant.2 _ inc.joined,
      inc.size ∙ c.loop-k.invariant.3,
    )
