-- `client_offer::take` meets its contract: the place decides, and the assembly there is within its limits (`assembly-fit`).
use mathlib.Core.Path.{◌≡◌, refl, sym, ap, ap₂, ◌∙◌, subst}
use Prim.Native.Nat.{ℕ, ◌<◌}
use native.Mathlib.Omega.{arith}
use lib.Dec.{leb}
use lib.ListN.{length}
use borrow.Author.Tests.{le-leb, lt-leb}
use Rattle.client_record.specs.declared.Fragment.{Fragment}
use Rattle.client_record.specs.declared.Assembly.{Assembly}
use Rattle.client_record.specs.Limits.{assembly_limit}
use Rattle.client_record.specs.Record.{end, within_plan}
use Rattle.client_record.proofs.Shapes.{places}
use Rattle.client_reassembly.specs.Offer.{fragment_of, no_room, assembly_for, placed}
use Rattle.client_reassembly.specs.Post.{Room}
use Rattle.client_reassembly.proofs.Fates.{left-of, taken-rejected, taken-placed}
use Rattle.client_reassembly.proofs.Places.{room-place}
use Rattle.client_reassembly.proofs.Steady.{Fit, assembly-fit}
use mathlib.Core.Bool.{true}
use Rattle.client_record.specs.declared.Client.{Client}
use Rattle.client_reassembly.specs.declared.Arrival.{Arrival}
use Rattle.client_reassembly.specs.Offer.{place_for}
use Rattle.client_offer.proofs.take.Goals as goal

-- there is no room exactly where the place is past the plan
room-is : (c : Client) (o : Arrival) (p : ℕ) → within_plan c ≡ true → p ≡ place_for o c.assemblies
    → no_room c.plan o c.assemblies ≡ leb c.plan p
unfolding within_plan
room-is c o p planned at = room-place o c.assemblies c.plan planned ∙ ap (leb c.plan) (sym at)

pub returns-then-plan-p : goal.returns-then-plan-p
returns-then-plan-p c =
    let x = c.args in
    left-of
    (taken-rejected x.c x.share.now x.out.now x.o x.bytes.now
    (room-is x.c x.o _ c.requires.planned c.place_for-p.ensures ∙ le-leb _ _ c.if-plan-p.true))
    (record { client = c.rejecting.ensures; reply = refl; share_left = refl; out_left = refl })

pub place-requires : goal.place-requires
unfolding fragment_of end assembly_limit
place-requires c =
    let x = c.args in
    let k = c.requires in
    let f = c.fragment_of-f.result in
    let e = c.fragment_of-f.ensures in
    let p = c.place_for-p.result in
    let all_places : length x.c.assemblies ≡ assembly_limit = places x.c _ c.well_formed.0 in
    let within : p < assembly_limit = omega (arith, k.own.plan, c.if-plan-p.false) in
    let h : p < length x.c.assemblies = omega arith in
    let fit : Fit x.c c.assembly_for-a.result = subst (Fit x.c) (sym c.assembly_for-a.ensures) (assembly-fit x.c x.o p k.held k.each h) in
    let size : f.length ≡ length x.bytes.now = ap (λ (g : Fragment). g.length) e in
    let room : Room x.c f.length = subst (Room x.c) (sym size) k.room in
    record {
      ending = record { room = room; within = within; held = fit.held };
      slots = fit.slots;
      ends = fit.ends;
      apart = fit.apart;
      last_end = omega (arith, ap end e, k.sized.ends);
      bytes_size = sym size;
      place = c.if-plan-p.false;
      own = k.own;
      out_size = k.out_size;
    }

pub returns : goal.returns
returns c =
    let x = c.args in
    let xs = x.c.assemblies in
    let p = c.place_for-p.result in
    let pe = c.place_for-p.ensures in
    let f = c.fragment_of-f.result in
    let fe = c.fragment_of-f.ensures in
    left-of
    (taken-placed x.c x.share.now x.out.now x.o x.bytes.now
    (room-is x.c x.o p c.requires.planned pe ∙ lt-leb x.c.plan p c.if-plan-p.false)
    ∙ sym (ap₂ (λ (q : ℕ) (g : Fragment). placed x.c x.share.now x.out.now q (assembly_for x.o q xs) g x.bytes.now) pe fe)
    ∙ ap (λ (a : Assembly). placed x.c x.share.now x.out.now p a f x.bytes.now) (sym c.assembly_for-a.ensures))
    c.place.ensures
