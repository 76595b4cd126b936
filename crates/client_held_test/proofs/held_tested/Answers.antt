-- `client_held_test::held_tested` meets its contract: what is asked comes to where fragments end and whether two overlap (`decided`), and of rising ones
-- the pass knows both.
use Prim.Native.Nat.{ℕ}
use mathlib.Core.Bool.{Bool, true, not, ◌&&◌, and-true}
use mathlib.Core.Path.{◌≡◌, sym, ap, ap₂, ◌∙◌}
use native.Mathlib.Omega.{arith}
use lib.Dec.{leb}
use borrow.Author.Tests.{not-true, not-false}
use Rattle.std.specs.Bool.{then_some}
use Rattle.client_record.specs.Lists.{all}
use Rattle.client_record.specs.Record.{end, non_empty, compatible, whole, held_fragments, bytes_held}
use Rattle.client_held_test.specs.Held.{most_of}
use Rattle.client_held_test.proofs.OnePass.{apart_all, unsound, most-within, rising-apart, rising-ends, decided}
use Rattle.client_held_test.proofs.held_tested.Goals.{then-s-2, else-s-2}
use Rattle.client_held_test.proofs.held_tested.Goals as goal

pub returns-then-s : goal.returns-then-s
returns-then-s c = let a = c.args.a in
    ap (λ (x : Bool). then_some (x && (compatible (held_fragments a) && not (whole (held_fragments a)))) (bytes_held a))
    (sym (unsound (held_fragments a) (not-true _ (sym c.sweep-s.ensures.empty ∙ c.if-s.true))))

pub apart-sound-requires : goal.apart-sound-requires
apart-sound-requires c = let a = c.args.a in
    record {
      held = c.requires;
      each = not-false _ (sym c.sweep-s.ensures.empty ∙ c.if-s.false);
      within = omega (arith, c.most_end-most.ensures, most-within (held_fragments a) c.sweep-s.result.total);
    }

pub returns : goal.returns
unfolding bytes_held
returns c = let fs = held_fragments c.args.a in
    let total = c.sweep-s.result.total in
    let full : all non_empty fs ≡ true = not-false _ (sym c.sweep-s.ensures.empty ∙ c.if-s.false) in
    let sound : c.if-s-2.sound ≡ all (λ f. leb (end f) (most_of fs total)) fs && apart_all fs =
    elim c.if-s-2.branch [
      | then-s-2 w ↦ w.sound-is ∙ w.apart-sound.ensures ∙ ap (λ (most : ℕ). all (λ f. leb (end f) most) fs && apart_all fs) c.most_end-most.ensures
      | else-s-2 w ↦
          let rises = not-false _ (sym c.sweep-s.ensures.falls ∙ w.if-s-2.false) in
          w.sound-is ∙ ap₂ leb c.sweep-s.ensures.end c.most_end-most.ensures ∙ rising-ends (most_of fs total) 0 fs rises (omega arith)
          ∙ sym (ap (λ (x : Bool). all (λ f. leb (end f) (most_of fs total)) fs && x) (rising-apart 0 fs rises) ∙ and-true _)
    ] in
    c.then_some.ensures
    ∙ ap₂ then_some (sound ∙ sym (decided fs total full (sym c.sweep-s.ensures.total))) c.sweep-s.ensures.total
