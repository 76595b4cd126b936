-- `client_record_test::assemblies_tested` meets its contract: the loop's invariant says that the first `i` assemblies pass, that none of them is live
-- past the plan, and that `total` is what they hold (`sum-next`). The first that fails decides.
use Rattle.client_record.proofs.Shapes.{places}
use Rattle.client_record.proofs.Completion.{not_yes}
use Rattle.client_record.proofs.Lists.{take_next, all-behind, all-next, sum-next}
use Rattle.client_record.proofs.SoundParts.{all-at}
use Rattle.client_record.specs.declared.Assembly.{Assembly}
use Rattle.client_record.specs.declared.Client.{Client}
use Rattle.client_record.specs.Record.{live, bytes_held, sound_assembly, within_plan}
use Rattle.client_record.specs.Lists.{all, sum}
use Rattle.client_record.specs.Limits.{assembly_limit}
use Rattle.number_tests.proofs.Tests.{true-false}
use Rattle.std.specs.Prelude.{Option, Some, None}
use Rattle.std.specs.Bool.{then_some}
use borrow.Author.Tests.{lt-ltb}
use lib.Dec.{ltb}
use Rattle.std.proofs.lemmas.List.{get_or-drop, length-drop}
use lib.Seq.{take-length, length-take-le}
use lib.ListN.{length, take, drop, get_or, drop_of_length-le}
use Prim.Native.Nat.{ℕ, ◌+◌, ◌-◌, ◌<◌, ◌≤◌}
use mathlib.Core.Bool.{Bool, true, false, not, ◌&&◌, ◌||◌, or-true, and-false}
use mathlib.Core.List.{List, []}
use mathlib.Core.Path.{◌≡◌, refl, sym, ap, ap₂, ◌∙◌}
use borrow.Author.Rules.{rules}
use native.Mathlib.Omega.{arith}
use Rattle.client_record_test.proofs.assemblies_tested.Goals.{else-plan-i-via-then-plan-i+else-live, else-plan-i-via-else-plan-i}
use Rattle.client_record_test.proofs.assemblies_tested.Goals as goal
use Rattle.client_record_test.proofs.assemblies_tested.Invariants.{free}

-- none is live past the plan, with one more
free-next : (l : List Assembly) (i plan : ℕ) (d : Assembly) → i < length l
    → free (drop plan (take (i + 1) l)) ≡ free (drop plan (take i l)) && (ltb i plan || not (live (get_or l i d)))
free-next l i plan d h =
    ap (λ (m : List Assembly). free (drop plan m)) (take_next l i d h) ∙ all-behind (λ a. not (live a)) plan (take i l) (get_or l i d)
    ∙ ap (λ (n : ℕ). free (drop plan (take i l)) && (ltb n plan || not (live (get_or l i d)))) (length-take-le i l (omega arith))

-- what a read past the places would give
abbrev none : Assembly
none = record {
  flow = record { source = []; destination = []; source_port = 0; destination_port = 0 };
  identification = 0;
  opened = 0;
  count = 0;
  fragments = [];
}

-- what the test of one assembly told
none-fails : (b : Bool) (n : ℕ) → ◌≡◌ {A = Option ℕ} None (then_some b n) → b ≡ false
none-fails true n e = absurd (let z : ◌≡◌ {A = ℕ} 0 1 = cc in omega arith)
none-fails false n e = refl

some-passes : (b : Bool) (m n : ℕ) → ◌≡◌ {A = Option ℕ} (Some m) (then_some b n) → (b ≡ true) × (m ≡ n)
some-passes true m n e = (refl, cc)
some-passes false m n e = absurd (let z : ◌≡◌ {A = ℕ} 0 1 = cc in omega arith)

-- one that fails
module _ (c : Client) (i : ℕ) (d : Assembly) (h : i < length c.assemblies) where
  unsound : sound_assembly c.time (get_or c.assemblies i d) ≡ false → all (sound_assembly c.time) c.assemblies && within_plan c ≡ false
  unsound e =
      ap (λ (x : Bool). x && within_plan c)
      (not_yes (all (sound_assembly c.time) c.assemblies) (λ q. true-false (sym (all-at (sound_assembly c.time) c.assemblies i d h q) ∙ e)))

  unplanned : c.plan ≤ i → live (get_or c.assemblies i d) ≡ true → all (sound_assembly c.time) c.assemblies && within_plan c ≡ false
  unfolding within_plan
  unplanned p e =
      let k = i - c.plan in
      let at : get_or (drop c.plan c.assemblies) k d ≡ get_or c.assemblies i d = get_or-drop c.plan c.assemblies k d
      ∙ ap (λ (n : ℕ). get_or c.assemblies n d) (omega arith) in
      let short : k < length (drop c.plan c.assemblies) = omega (arith, length-drop c.plan c.assemblies) in
      ap (λ (x : Bool). all (sound_assembly c.time) c.assemblies && x)
      (not_yes (free (drop c.plan c.assemblies))
      (λ q. true-false (sym (ap (λ (x : Bool). not x) (sym (ap live at ∙ e)) ∙ all-at (λ a. not (live a)) (drop c.plan c.assemblies) k d short q))))
      ∙ and-false (all (sound_assembly c.time) c.assemblies)

pub loop-i-init : goal.loop-i-init
unfolding all sum
loop-i-init c = (
  refl,
  ap free (drop_of_length-le [] {i = c.args.c.plan} (omega arith)),
  refl,
  search rules,
)

pub returns-then-live : goal.returns-then-live
unfolding assembly_limit
returns-then-live c = let x = c.args.c in
    let len : length x.assemblies ≡ assembly_limit = places x _ c.well_formed.0 in
    let h : c.loop-i.i < length x.assemblies = omega arith in
    ap (λ (b : Bool). then_some b (sum bytes_held x.assemblies))
    (sym (unplanned x c.loop-i.i _ h c.if-plan-i.true (sym c.live.ensures ∙ c.if-live.true)))

pub returns-in_err-assembly_tested : goal.returns-in_err-assembly_tested
unfolding assembly_limit
returns-in_err-assembly_tested c = let x = c.args.c in
    let len : length x.assemblies ≡ assembly_limit = places x _ c.well_formed.0 in
    let h : c.loop-i.i < length x.assemblies = omega arith in
    c.from_residual.ensures
    ∙ ap (λ (b : Bool). then_some b (sum bytes_held x.assemblies)) (sym (unsound x c.loop-i.i _ h (none-fails _ _ c.in_err-assembly_tested.ensures)))

pub loop-i-preserved : goal.loop-i-preserved
unfolding assembly_limit
loop-i-preserved c = let x = c.args.c in
    let i = c.loop-i.i in
    let len : length x.assemblies ≡ assembly_limit = places x _ c.well_formed.0 in
    let h : i < length x.assemblies = omega arith in
    let passed = some-passes _ _ _ c.in_ok-assembly_tested.ensures in
    let planned : ltb i x.plan || not (live (get_or x.assemblies i none)) ≡ true =
    elim c.else-plan-i.branch [
      | else-plan-i-via-then-plan-i+else-live w ↦
          ap (λ (b : Bool). ltb i x.plan || not b) (sym w.live.ensures ∙ w.if-live.false) ∙ or-true (ltb i x.plan)
      | else-plan-i-via-else-plan-i w ↦ ap (λ (b : Bool). b || not (live (get_or x.assemblies i none))) (lt-ltb i x.plan w.if-plan-i.false)
    ] in (
      all-next x.assemblies i _ h (sound_assembly x.time) ∙ ap₂ ◌&&◌ c.loop-i.invariant.0 passed.0,
      free-next x.assemblies i x.plan none h ∙ ap₂ ◌&&◌ c.loop-i.invariant.1 planned,
      ap₂ ◌+◌ c.loop-i.invariant.2 (c.from.ensures ∙ passed.1) ∙ sym (sum-next x.assemblies i _ h bytes_held),
      omega arith,
    )

pub returns : goal.returns
unfolding assembly_limit within_plan
returns c = let x = c.args.c in
    let len : length x.assemblies ≡ assembly_limit = places x _ c.well_formed.0 in
    let e : c.loop-i.i ≡ length x.assemblies = omega arith in
    let all_of = ap (λ (k : ℕ). take k x.assemblies) e ∙ take-length x.assemblies in
    ap₂ then_some
    (ap₂ ◌&&◌ (sym c.loop-i.invariant.0 ∙ ap (all (sound_assembly x.time)) all_of) (sym c.loop-i.invariant.1 ∙ ap (λ (xs : List Assembly). free (drop x.plan xs)) all_of))
    (c.loop-i.invariant.2 ∙ ap (sum bytes_held) all_of)
