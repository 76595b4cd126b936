-- `list_options::put_options` meets its contract. The loop's invariant: what was written and the options still to come make up the whole
-- (`PutSoFar`). Assumes nothing.
use mathlib.Core.Path.{◌≡◌, refl, sym, ap, ◌∙◌}
use mathlib.Core.List.{List, [], ◌++◌, append_assoc, append-nil}
use Prim.Native.Nat.{ℕ, ◌+◌, ◌≤◌}
use native.Mathlib.Omega.{arith}
use lib.ListN.{length, drop, length-append}
use Rattle.number_octets.specs.Octets.{overlay}
use Rattle.number_octets.proofs.Laws.{part-rest, part_bytes}
use Rattle.wire_step.specs.Step.{step_of}
use Rattle.wire_options.specs.Walk.{item_of, walk_from, option_limit, options_of}
use Rattle.wire_options.proofs.Runs.{run-some}
use Rattle.wire_options.proofs.Rests.{Taken, rest_over, rest-nops}
use Rattle.list_entry.specs.Option.{encoded_option}
use Rattle.list_options.specs.Listing.{unworked, WrittenAt}
use Rattle.list_options.proofs.Writes.{written_none, written-length, written_both}
use Rattle.list_options.proofs.Rests.{whole, code, code-none, code-first, rest-sound, taken, none-left}
use Rattle.list_options.proofs.put_options.Goals as goal
use Rattle.list_options.proofs.put_options.Invariants.{PutSoFar}

-- what was written, in a buffer with room for the whole
module _ (all buffer₀ : List ℕ) (start at out : ℕ) (buffer : List ℕ) (i : PutSoFar all buffer₀ start at out buffer)
    (fits : start + length (whole all) ≤ length buffer₀) where
  so_far : length i.done + length (code i.options) ≡ length (whole all)
  so_far = sym (length-append i.done (code i.options)) ∙ ap length i.sum

  as_long : length buffer ≡ length buffer₀
  as_long = written-length i.written (omega (arith, so_far, fits))

  -- nothing more to write
  ended : [] ≡ i.options → buffer ≡ overlay buffer₀ start (whole all)
  ended e =
      i.written.all
      ∙ ap (overlay buffer₀ start) (sym (append-nil i.done) ∙ ap (λ (x : List ℕ). i.done ++ x) (sym (code-none e)) ∙ i.sum)

  -- the option that was found
  module _ (kind header size : ℕ) (t : Taken all at i.options kind header size) where
    abbrev one : List ℕ
    one = encoded_option (unworked (item_of kind header size (drop at all)))

    -- there is room for it
    one-fits : length i.done + length one ≤ length (whole all)
    one-fits = omega (arith, so_far, ap length (code-first t.splits), length-append one (code t.later))

    room : out + length one ≤ length buffer
    room = omega (arith, one-fits, as_long, fits, i.written.ends)

    -- it is written behind the others
    put-more : {next : ℕ} {left : List ℕ} → WrittenAt one buffer out next left → PutSoFar all buffer₀ start (at + size) next left
    put-more w = record {
      done = i.done ++ one;
      options = t.later;
      rest = t.rest;
      sum = append_assoc i.done one (code t.later) ∙ ap (λ (x : List ℕ). i.done ++ x) (sym (code-first t.splits)) ∙ i.sum;
      written = written_both i.written w (omega (arith, one-fits, length-append i.done one, fits));
    }

pub loop-at-init : goal.loop-at-init
loop-at-init c = (
  omega arith,
  record {
    done = [];
    options = options_of (walk_from option_limit 0 c.args.options.now);
    rest = rest-sound c.args.options.now c.requires.0;
    sum = refl;
    written = written_none _ _;
  },
)

pub loop-at-smaller-in-Nop : goal.loop-at-smaller-in-Nop
loop-at-smaller-in-Nop c =
    let at = c.loop-at.at in
    let all : List ℕ = c.args.options.now in
    omega (arith, c.behind_nops-at.ensures, run-some (drop at all) (sym (c.next-met.ensures ∙ ap step_of (part-rest at all)) ∙ c.in-Nop.is))

pub loop-at-preserved-in-Nop : goal.loop-at-preserved-in-Nop
loop-at-preserved-in-Nop c = let i = c.loop-at.invariant.1 in (
  c.behind_nops-at.ensures.1,
  record {
    done = i.done;
    options = i.options;
    rest = rw c.behind_nops-at.ensures.0 (rest-nops i.rest);
    sum = i.sum;
    written = i.written;
  },
)

pub invariant_of-option : goal.invariant_of-option
invariant_of-option c = record {
  stands = sym c.next-met.ensures ∙ c.in-Found.is;
  listed = (taken c.loop-at.invariant.1.rest c.loop-at-test.true c.next-met.ensures c.in-Found.is).other;
  bytes = part_bytes c.loop-at.at _ c.args.options.now (λ i. omega (arith, c.type_inv.options i));
}

pub put-out-requires : goal.put-out-requires
put-out-requires c =
    let t = taken c.loop-at.invariant.1.rest c.loop-at-test.true c.next-met.ensures c.in-Found.is in
    rw (part-rest c.loop-at.at c.args.options.now) (
    room c.args.options.now c.args.buffer.now c.args.start c.loop-at.at c.loop-at.out c.loop-at.buffer c.loop-at.invariant.1 c.requires.1 c.in-Found.kind c.in-Found.header c.in-Found.size t)

pub overflow_add-at : goal.overflow_add-at
overflow_add-at c = let t = taken c.loop-at.invariant.1.rest c.loop-at-test.true c.next-met.ensures c.in-Found.is in omega (arith, t.some, t.fits)

pub loop-at-smaller : goal.loop-at-smaller
loop-at-smaller c = let t = taken c.loop-at.invariant.1.rest c.loop-at-test.true c.next-met.ensures c.in-Found.is in omega (arith, t.some, t.fits)

pub loop-at-preserved : goal.loop-at-preserved
loop-at-preserved c =
    let t = taken c.loop-at.invariant.1.rest c.loop-at-test.true c.next-met.ensures c.in-Found.is in
    let put = rw (part-rest c.loop-at.at c.args.options.now) at c.put-out.ensures in
    (t.fits, put-more c.args.options.now c.args.buffer.now c.args.start c.loop-at.at c.loop-at.out c.loop-at.buffer c.loop-at.invariant.1 c.requires.1 c.in-Found.kind c.in-Found.header c.in-Found.size t put)

pub returns-in_default : goal.returns-in_default
returns-in_default c = ended c.args.options.now c.args.buffer.now c.args.start c.loop-at.at c.loop-at.out c.loop-at.buffer c.loop-at.invariant.1 c.requires.1
    (none-left c.loop-at.invariant.1.rest c.loop-at-test.true _ c.next-met.ensures c.in_default.not-Nop c.in_default.not-Found)

pub returns : goal.returns
returns c = ended c.args.options.now c.args.buffer.now c.args.start c.loop-at.at c.loop-at.out c.loop-at.buffer c.loop-at.invariant.1 c.requires.1
    (rest_over c.loop-at.invariant.1.rest c.loop-at-test.false)
