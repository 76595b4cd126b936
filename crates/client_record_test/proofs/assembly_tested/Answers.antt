-- `client_record_test::assembly_tested` meets its contract: of a live assembly and of an unused one the tests are the definition's, with those of the
-- spare slots last.
use Prim.Native.Nat.{ℕ}
use mathlib.Core.Bool.{Bool, true, false, not, ◌&&◌, cond, and-true, and-false}
use mathlib.Core.Path.{◌≡◌, refl, sym, ap, ap₂, ◌∙◌}
use Rattle.std.specs.Bool.{then_some}
use lib.Dec.{eqb, leb}
use lib.ListN.{take}
use borrow.Author.Tests.{eqb-true, eq-eqb, not-false}
use Rattle.number_tests.proofs.Tests.{cond_yes, cond_no}
use Rattle.client_record.specs.declared.Assembly.{Assembly}
use Rattle.client_record.specs.Limits.{fragment_limit}
use Rattle.client_record.specs.Lists.{all, sum}
use Rattle.client_record.specs.Record.{fresh_flow, same_flow, sound_fragment, is_fresh_fragment, compatible, whole, live, held_fragments, spare_slots}
use Rattle.client_record.specs.Record.{bytes_held, is_fresh_assembly, opened_within, sound_live, sound_assembly}
use Rattle.client_record.proofs.Held.{spare-all}
use Rattle.client_record_test.specs.Parts.{unused_fields, sound_fields}
use Rattle.client_record_test.proofs.assembly_tested.Goals as goal

-- the spare slots of a live assembly last
live-parts : (t : ℕ) (a : Assembly) → sound_live t a ≡ sound_fields t a && all is_fresh_fragment (spare_slots a)
unfolding sound_live sound_fields
live-parts t a =
    go (leb a.count fragment_limit) (all sound_fragment (held_fragments a)) (compatible (held_fragments a)) (not (whole (held_fragments a))) (opened_within t a) _
  where
    go : (n s c w o f : Bool) → n && (s && (c && (w && (o && f)))) ≡ (n && ((s && (c && w)) && o)) && f
    go true true true true o f = refl
    go true true true false o f = refl
    go true true false w o f = refl
    go true false c w o f = refl
    go false s c w o f = refl

-- and those of an unused one, which are all
fresh-parts : (a : Assembly) → a.count ≡ 0 → is_fresh_assembly a ≡ unused_fields a && all is_fresh_fragment (spare_slots a)
unfolding is_fresh_assembly unused_fields
fresh-parts a e =
    go (same_flow a.flow fresh_flow) (eqb a.identification 0) (eqb a.opened 0) (eqb a.count 0) _ _ (eq-eqb a.count 0 e)
    (ap (all is_fresh_fragment) (sym (spare-all a e)))
  where
    go : (f i o n s t : Bool) → n ≡ true → s ≡ t → f && (i && (o && (n && s))) ≡ (f && (i && o)) && t
    go true true true n s t e k = ap₂ ◌&&◌ e k
    go true true false n s t e k = refl
    go true false o n s t e k = refl
    go false i o n s t e k = refl

none-held : (a : Assembly) → a.count ≡ 0 → bytes_held a ≡ 0
unfolding bytes_held held_fragments sum
none-held a e = ap (λ (n : ℕ). sum (λ f. f.length) (take n a.fragments)) e

-- with something in its spare slots none passes
strayed : (t : ℕ) (a : Assembly) → all is_fresh_fragment (spare_slots a) ≡ false → sound_assembly t a ≡ false
unfolding sound_assembly live
strayed t a e = go (live a) refl
  where
    go : (b : Bool) → live a ≡ b → cond b (sound_live t a) (is_fresh_assembly a) ≡ false
    go true l = live-parts t a ∙ ap (λ (x : Bool). sound_fields t a && x) e ∙ and-false (sound_fields t a)
    go false l = fresh-parts a (eqb-true a.count 0 (not-false _ l)) ∙ ap (λ (x : Bool). unused_fields a && x) e ∙ and-false (unused_fields a)

pub returns-then-not-spare_fresh : goal.returns-then-not-spare_fresh
returns-then-not-spare_fresh c = let s = c.args in
    sym (ap (λ (x : Bool). then_some x (bytes_held s.a)) (strayed s.time s.a (sym c.spare_fresh.ensures ∙ c.if-not-spare_fresh.true)))

pub returns-then-live : goal.returns-then-live
unfolding sound_assembly
returns-then-live c = let s = c.args in
    let spare = sym c.spare_fresh.ensures ∙ c.if-not-spare_fresh.false in
    c.live_tested.ensures
    ∙ ap (λ (x : Bool). then_some x (bytes_held s.a))
    (sym (live-parts s.time s.a ∙ ap (λ (x : Bool). sound_fields s.time s.a && x) spare ∙ and-true (sound_fields s.time s.a))
    ∙ sym (cond_yes (live s.a) _ _ (sym c.live.ensures ∙ c.if-live.true)))

pub returns : goal.returns
unfolding sound_assembly live
returns c = let s = c.args in
    let spare = sym c.spare_fresh.ensures ∙ c.if-not-spare_fresh.false in
    let dead = sym c.live.ensures ∙ c.if-live.false in
    let none = eqb-true s.a.count 0 (not-false _ dead) in
    c.then_some.ensures
    ∙ ap₂ then_some
    (c.unused.ensures ∙ sym (fresh-parts s.a none ∙ ap (λ (x : Bool). unused_fields s.a && x) spare ∙ and-true (unused_fields s.a))
    ∙ sym (cond_no (live s.a) _ _ dead)) (sym (none-held s.a none))
