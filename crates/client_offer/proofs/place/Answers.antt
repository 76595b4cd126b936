-- `client_offer::place` meets its contract: the three tests decide in the definition's order, and the fragment's bytes lie within the place.
use mathlib.Core.Path.{◌≡◌, refl, sym, ap, ◌∙◌}
use mathlib.Core.Bool.{false}
use mathlib.Core.List.{List}
use Prim.Native.Nat.{ℕ, ◌+◌, ◌-◌, ◌*◌, ◌<◌}
use native.Mathlib.Omega.{arith}
use lib.ListN.{length}
use borrow.Author.Tests.{eq-eqb, ne_eqb}
use Rattle.number_octets.specs.Octets.{part}
use Rattle.client_record.specs.Limits.{datagram_limit, fragment_limit, assembly_limit, share_size}
use Rattle.client_record.specs.Record.{end}
use Rattle.client_reassembly.specs.Offer.{repeats, is_conflict, is_full, base, joined, start_of}
use Rattle.client_record.proofs.Shapes.{slots}
use Rattle.client_reassembly.proofs.Joins.{added-compatible}
use Rattle.client_reassembly.proofs.Fates.{left-of, placed-repeated, placed-conflict, placed-full, placed-joined}
use mathlib.Core.Bool.{Bool}
use Rattle.client_record.specs.declared.Assembly.{Assembly}
use Rattle.client_record.specs.declared.Fragment.{Fragment}
use Rattle.client_offer.proofs.place.Goals as goal

-- the test of a repeat is the definition's
repeat-is : (a : Assembly) (f : Fragment) (p : ℕ) (share bytes : List ℕ) (r : Bool)
    → (let start = p * datagram_limit + f.offset in r ≡ repeats a f (part start (start + f.length - start) share) bytes)
    → r ≡ repeats a f (part (start_of p f) f.length share) bytes
unfolding start_of base
repeat-is a f p share bytes r e =
    let start = p * datagram_limit + f.offset in
    let size : start + f.length - start ≡ f.length = omega arith in
    e ∙ ap (λ (n : ℕ). repeats a f (part start n share) bytes) size

pub overflow_mul-start : goal.overflow_mul-start
unfolding datagram_limit assembly_limit share_size end
overflow_mul-start c = omega arith

pub overflow_add-start : goal.overflow_add-start
unfolding datagram_limit assembly_limit share_size end
overflow_add-start c = omega arith

pub overflow_add-stop : goal.overflow_add-stop
unfolding datagram_limit assembly_limit share_size end
overflow_add-stop c = omega arith

pub slice_bounds-repeats-end : goal.slice_bounds-repeats-end
unfolding datagram_limit assembly_limit share_size end
slice_bounds-repeats-end c = omega arith

pub returns-then-repeats : goal.returns-then-repeats
unfolding datagram_limit
returns-then-repeats c =
    let x = c.args in
    left-of (placed-repeated x.c x.share.now x.out.now x.p x.a x.f x.bytes.now (sym (repeat-is x.a x.f x.p x.share.now x.bytes.now _ c.repeats.ensures) ∙ c.if-repeats.true))
    (record { client = c.repeating.ensures; reply = refl; share_left = refl; out_left = refl })

pub returns-then-conflicts_any : goal.returns-then-conflicts_any
unfolding is_conflict datagram_limit
returns-then-conflicts_any c =
    let x = c.args in
    left-of
    (placed-conflict x.c x.share.now x.out.now x.p x.a x.f x.bytes.now (sym (repeat-is x.a x.f x.p x.share.now x.bytes.now _ c.repeats.ensures) ∙ c.if-repeats.false)
    (sym c.conflicts_any.ensures ∙ c.if-conflicts_any.true))
    (record { client = c.conflicting.ensures; reply = refl; share_left = refl; out_left = refl })

pub returns-then-a-eq-FRAGMENT_LIMIT : goal.returns-then-a-eq-FRAGMENT_LIMIT
unfolding is_conflict is_full fragment_limit datagram_limit
returns-then-a-eq-FRAGMENT_LIMIT c =
    let x = c.args in
    left-of
    (placed-full x.c x.share.now x.out.now x.p x.a x.f x.bytes.now (sym (repeat-is x.a x.f x.p x.share.now x.bytes.now _ c.repeats.ensures) ∙ c.if-repeats.false)
    (sym c.conflicts_any.ensures ∙ c.if-conflicts_any.false) (eq-eqb x.a.count fragment_limit c.if-a-eq-FRAGMENT_LIMIT.true))
    (record { client = c.rejecting.ensures; reply = refl; share_left = refl; out_left = refl })

pub copy-requires : goal.copy-requires
unfolding datagram_limit assembly_limit share_size end
copy-requires c = omega arith

pub join-requires : goal.join-requires
unfolding fragment_limit is_conflict
join-requires c =
    let k = c.requires in
    let x = c.args in
    let all_slots : length x.a.fragments ≡ fragment_limit = slots x.a _ c.well_formed.1.1.1.1.0 in
    let room : x.a.count < fragment_limit = omega (arith, c.if-a-eq-FRAGMENT_LIMIT.false, k.slots) in
    let apart : is_conflict x.a x.f ≡ false = sym c.conflicts_any.ensures ∙ c.if-conflicts_any.false in
    record {
      ending = k.ending;
      free = room;
      ends = k.ends;
      apart = added-compatible x.a x.f (omega arith) k.apart apart;
      last_end = k.last_end;
      place = k.place;
      own = record { plan = k.own.plan; size = c.copy.auto.target ∙ k.own.size };
      out_size = k.out_size;
    }

pub returns : goal.returns
unfolding is_conflict is_full fragment_limit start_of base datagram_limit
returns c =
    let x = c.args in
    left-of
    (placed-joined x.c x.share.now x.out.now x.p x.a x.f x.bytes.now (sym (repeat-is x.a x.f x.p x.share.now x.bytes.now _ c.repeats.ensures) ∙ c.if-repeats.false)
    (sym c.conflicts_any.ensures ∙ c.if-conflicts_any.false) (ne_eqb x.a.count fragment_limit c.if-a-eq-FRAGMENT_LIMIT.false)
    ∙ ap (λ (share : List ℕ). joined x.c share x.out.now x.p x.a x.f) (sym c.copy.ensures))
    c.join.ensures
