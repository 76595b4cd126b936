-- `client_record_test::sound` meets its contract: the five tests are the definition's; what is held counts where each assembly passes.
use Prim.Native.Nat.{ℕ}
use mathlib.Core.Bool.{Bool, true, false, ◌&&◌, and_assoc, and-true, and-false}
use mathlib.Core.Path.{◌≡◌, refl, sym, ap, ◌∙◌}
use lib.Dec.{eqb}
use borrow.Author.Tests.{eqb-true, eqb-false, eq-eqb, ne_eqb}
use Rattle.std.specs.Bool.{then_some}
use Rattle.std.specs.Option.{option_eq}
use Rattle.std.specs.Prelude.{Option, Some}
use Rattle.client_record.specs.declared.Client.{Client}
use Rattle.client_record.specs.Lists.{all, sum}
use Rattle.client_record.specs.Record.{bytes_held, sound_assembly, keys_differ, held_right, balanced, within_plan, sound_record}
use Rattle.client_record_test.proofs.sound.Goals.{Joined-eq, then-eq, else-eq}
use Rattle.client_record_test.proofs.sound.Goals as goal

-- a test that the definition has last is made with the first
last-first : (a w h k b : Bool) → ((a && w) && h) && (k && b) ≡ a && (k && (h && (b && w)))
last-first true true true true b = sym (and-true b)
last-first true true true false b = refl
last-first true true false true b = refl
last-first true true false false b = refl
last-first true false h true b = sym (ap (λ (x : Bool). h && x) (and-false b) ∙ and-false h)
last-first true false h false b = refl
last-first false w h k b = refl

-- the bytes where the test passes are these
told : (t : Bool) (m n : ℕ) → option_eq eqb (then_some t m) (Some n) ≡ t && eqb n m
told true m n = go (eqb n m) refl
  where
    go : (x : Bool) → eqb n m ≡ x → eqb m n ≡ x
    go true e = eq-eqb m n (sym (eqb-true n m e))
    go false e = ne_eqb m n (λ q. eqb-false n m e (sym q))
told false m n = refl

tests : (c : Client) (q : Bool) → q ≡ option_eq eqb (then_some (all (sound_assembly c.time) c.assemblies && within_plan c) (sum bytes_held c.assemblies)) (Some c.held)
    → q && (keys_differ c.assemblies && balanced c) ≡ sound_record c
unfolding sound_record held_right
tests c q e =
    ap (λ (x : Bool). x && (keys_differ c.assemblies && balanced c)) (e ∙ told _ _ c.held)
    ∙ last-first (all (sound_assembly c.time) c.assemblies) (within_plan c) (eqb c.held (sum bytes_held c.assemblies)) (keys_differ c.assemblies) (balanced c)

-- the first two of the code's tests
both-made : (c : Joined-eq) → c.if-eq.value ≡ c.eq.result && keys_differ c.args.c.assemblies
both-made c = let k = keys_differ c.args.c.assemblies in
    elim c.if-eq.branch [
      | then-eq w ↦ w.value-is ∙ w.keys_differ.ensures ∙ ap (λ (b : Bool). b && k) (sym w.if-eq.true)
      | else-eq w ↦ w.value-is ∙ w.if-eq.false ∙ ap (λ (b : Bool). b && k) (sym w.if-eq.false)
    ]

made : (c : Joined-eq) → c.if-eq.value && balanced c.args.c ≡ sound_record c.args.c
made c =
    ap (λ (b : Bool). b && balanced c.args.c) (both-made c) ∙ and_assoc c.eq.result (keys_differ c.args.c.assemblies) (balanced c.args.c)
    ∙ tests c.args.c c.eq.result (c.eq.ensures ∙ ap (λ (o : Option ℕ). option_eq eqb o (Some c.args.c.held)) c.assemblies_tested.ensures)

pub returns-then-keys_differ : goal.returns-then-keys_differ
returns-then-keys_differ c =
    c.balanced.ensures ∙ ap (λ (b : Bool). b && balanced c.args.c) (sym c.if-keys_differ.true) ∙ made (goal.at.returns-then-keys_differ c).Joined-eq

pub returns-else-keys_differ : goal.returns-else-keys_differ
returns-else-keys_differ c =
    c.if-keys_differ.false ∙ ap (λ (b : Bool). b && balanced c.args.c) (sym c.if-keys_differ.false) ∙ made (goal.at.returns-else-keys_differ c).Joined-eq
