-- `client_offer::join` meets its contract: the completion test decides, and what is handed out lies within the place and within out.
use mathlib.Core.Path.{◌≡◌, sym, ap, ap₂, ◌∙◌}
use mathlib.Core.Bool.{true, false}
use Prim.Native.Nat.{ℕ, ◌+◌, ◌-◌, ◌*◌, ◌<◌, ◌≤◌}
use native.Mathlib.Omega.{arith}
use lib.ListN.{length, drop}
use Rattle.number_tests.proofs.Tests.{cond_yes, cond_no}
use Rattle.number_octets.specs.Octets.{part, overlay}
use Rattle.client_record.specs.declared.Fragment.{Fragment}
use Rattle.client_record.specs.declared.Assembly.{Assembly}
use Rattle.client_record.specs.Limits.{datagram_limit, fragment_limit, assembly_limit, share_size}
use Rattle.client_record.specs.Record.{end, last_of, whole, held_fragments}
use Rattle.client_record.proofs.Lists.{front_below}
use Rattle.client_record.proofs.Shapes.{slots}
use Rattle.client_reassembly.specs.Answer.{stored, delivered}
use Rattle.client_reassembly.specs.Offer.{Outcome, leaving, added, storing, base, handed_out, joined}
use Rattle.client_reassembly.proofs.Joins.{added-within}
use Rattle.client_record.specs.Lists.{all}
use Rattle.client_record.specs.Record.{fits}
use Rattle.client_offer.proofs.join.Goals as goal

-- the last one of those that are held with f, and its end
last-is : (a : Assembly) (f : Fragment) (b : Assembly) (l : Fragment) → b ≡ added a f → l ≡ last_of (held_fragments b)
    → l ≡ last_of (held_fragments (added a f))
last-is a f b l with-f e = e ∙ ap (λ (b : Assembly). last_of (held_fragments b)) with-f

within : (a : Assembly) (f : Fragment) (b : Assembly) (l : Fragment) (n : ℕ) → b ≡ added a f → l ≡ last_of (held_fragments b) → n ≡ end l
    → length a.fragments ≡ fragment_limit → a.count < fragment_limit → all fits (held_fragments a) ≡ true → end f ≤ datagram_limit
    → n ≤ datagram_limit
within a f b l n with-f e at all_slots free ends last_end =
    omega (arith, at ∙ ap end (last-is a f b l with-f e), added-within a f (omega arith) ends last_end)

pub overflow_mul-start : goal.overflow_mul-start
unfolding datagram_limit assembly_limit share_size
overflow_mul-start c = omega (arith, c.requires.ending.within)

pub overflow_add-stop : goal.overflow_add-stop
unfolding datagram_limit assembly_limit share_size fragment_limit
overflow_add-stop c =
    let x = c.args in
    let k = c.requires in
    omega (
      arith,
      within x.a x.f _ _ _ c.added-b.ensures c.last_of-last.ensures c.end_of-length.ensures (slots x.a _ c.well_formed.1.1.1.1.0) k.free k.ends k.last_end,
      k.ending.within,
    )

pub slice_bounds-copy-end : goal.slice_bounds-copy-end
unfolding datagram_limit assembly_limit share_size fragment_limit
slice_bounds-copy-end c =
    let x = c.args in
    let k = c.requires in
    omega (
      arith,
      within x.a x.f _ _ _ c.added-b.ensures c.last_of-last.ensures c.end_of-length.ensures (slots x.a _ c.well_formed.1.1.1.1.0) k.free k.ends k.last_end,
      k.place,
      k.own.size,
    )

pub copy-requires : goal.copy-requires
unfolding datagram_limit fragment_limit
copy-requires c =
    let x = c.args in
    let k = c.requires in
    let start = x.p * datagram_limit in
    omega (
      arith,
      within x.a x.f _ _ _ c.added-b.ensures c.last_of-last.ensures c.end_of-length.ensures (slots x.a _ c.well_formed.1.1.1.1.0) k.free k.ends k.last_end,
      k.out_size,
      front_below (start + c.end_of-length.result - start) (drop start x.share.now),
    )

pub returns-then-whole : goal.returns-then-whole
unfolding joined handed_out base datagram_limit
returns-then-whole c =
    let x = c.args in
    let last = last-is x.a x.f _ _ c.added-b.ensures c.last_of-last.ensures in
    let end_is = c.end_of-length.ensures ∙ ap end last in
    let whole-now : whole (held_fragments (added x.a x.f)) ≡ true =
    sym (ap (λ (b : Assembly). whole (held_fragments b)) c.added-b.ensures) ∙ sym c.whole.ensures ∙ c.if-whole.true in
    let is : joined x.c x.share.now x.out.now x.p x.a x.f ≡ handed_out x.c x.share.now x.out.now x.p x.a x.f =
    cond_yes (whole (held_fragments (added x.a x.f))) _ _ whole-now in
    let start = x.p * datagram_limit in
    let size : start + c.end_of-length.result - start ≡ c.end_of-length.result = omega arith in
    record {
      client = c.delivering.ensures ∙ sym (ap (λ (o : Outcome). o.client) is);
      reply = ap₂ delivered end_is (ap (λ (f : Fragment). f.option_start) last) ∙ sym (ap (λ (o : Outcome). o.reply) is);
      share_left = sym (ap (λ (o : Outcome). o.share) is);
      out_left = c.copy.ensures
          ∙ ap (λ (n : ℕ). overlay x.out.now 0 (part start n x.share.now)) (size ∙ end_is)
          ∙ sym (ap (λ (o : Outcome). o.out) is);
    }

pub returns : goal.returns
unfolding joined
returns c =
    let x = c.args in
    let not_yet : whole (held_fragments (added x.a x.f)) ≡ false =
    sym (ap (λ (b : Assembly). whole (held_fragments b)) c.added-b.ensures) ∙ sym c.whole.ensures ∙ c.if-whole.false in
    let is : joined x.c x.share.now x.out.now x.p x.a x.f
    ≡ leaving (storing x.p (added x.a x.f) x.f.length x.c) x.share.now x.out.now stored =
    cond_no (whole (held_fragments (added x.a x.f))) _ _ not_yet in
    record {
      client = c.storing.ensures ∙ ap (λ (b : Assembly). storing x.p b x.f.length x.c) c.added-b.ensures
          ∙ sym (ap (λ (o : Outcome). o.client) is);
      reply = sym (ap (λ (o : Outcome). o.reply) is);
      share_left = sym (ap (λ (o : Outcome). o.share) is);
      out_left = sym (ap (λ (o : Outcome). o.out) is);
    }
