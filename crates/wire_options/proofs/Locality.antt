-- No option runs over the EOL that ends a walk, as the fill tells: so the bytes behind that EOL count only as zero or not (document 02, R-2).
-- Assumes nothing.
use mathlib.Core.Path.{◌≡◌, refl, sym, ap, ap₂, ◌∙◌}
use mathlib.Core.Bool.{Bool, true, false, cond}
use mathlib.Core.List.{List, [], ◌∷◌, ◌++◌}
use Prim.Native.Nat.{ℕ, zero, suc, ◌+◌, ◌-◌, ◌≤◌}
use native.Mathlib.Omega.{arith}
use lib.ListN.{length, take, length-append}
use lib.Seq.{take_at}
use Rattle.number_octets.specs.Zeros.{all_zero, zeros_of}
use Rattle.wire_step.specs.Kinds.{class_of, eol}
use Rattle.wire_step.specs.Step.{step_of}
use Rattle.wire_step.specs.declared.Step.{Step}
use Rattle.wire_step.specs.declared.Step.TheVariants.{End, Eol, Nop, Found, Malformed as Unsound, Outlawed}
use Rattle.wire_step.proofs.Steps.{step-found}
use Rattle.wire_step.proofs.Locality.{part_same, step_local, nop-local}
use Rattle.wire_options.specs.Walk.{Located, Walked, listed, faulty, before, located_of, walk_at, walk_from}
use Rattle.wire_options.specs.declared.walk.Fault.TheVariants.{Malformed, Tail}
use Rattle.wire_options.proofs.Rests.{ListsBy, lists-by}
use Rattle.wire_options.proofs.Fills.{walk-fills}

-- what a walk comes to that lists `options` where the bytes `t` behind its EOL are zero; else it is "tail" at the first other byte
abbrev pub ending : List Located → List ℕ → Walked
ending options t = cond (all_zero t) (listed options (suc (length t))) (faulty Tail (suc (length t) - zeros_of (eol ∷ t)))

before-ending : (option : Located) (options : List Located) (t : List ℕ) → before option (ending options t) ≡ ending (option ∷ options) t
before-ending option options t = go (all_zero t)
  where
    go : (z : Bool) → before option (cond z (listed options (suc (length t))) (faulty Tail (suc (length t) - zeros_of (eol ∷ t))))
        ≡ cond z (listed (option ∷ options) (suc (length t))) (faulty Tail (suc (length t) - zeros_of (eol ∷ t)))
    go true = refl
    go false = refl

module _ (x : ℕ) (a t u : List ℕ) (same : length t ≡ length u) where
  abbrev l : List ℕ
  l = x ∷ (a ++ (eol ∷ t))

  abbrev m : List ℕ
  m = x ∷ (a ++ (eol ∷ u))

  -- the law for the bytes behind the first
  abbrev Rest : Type 0
  Rest = (left skip : ℕ) (options : List Located) → skip ≤ length a → walk_from left skip (a ++ (eol ∷ t)) ≡ listed options (suc (length t))
      → walk_from left skip (a ++ (eol ∷ u)) ≡ ending options u

  lengths : length l ≡ length m
  lengths = simp length-append (omega arith)

  fronts : take (suc (length a)) l ≡ take (suc (length a)) m
  fronts = take_at (x ∷ a) (eol ∷ t) (suc (length a)) refl ∙ sym (take_at (x ∷ a) (eol ∷ u) (suc (length a)) refl)

  -- by the step at the front; of an option the fill says that it ends before the EOL
  front : (room : ℕ) (options : List Located) (step : Step) → step_of l ≡ step → ListsBy room l options (suc (length t)) step
      → Rest → walk_from room 0 m ≡ ending options u
  unfolding walk_from
  front room options End e q ih = absurd (omega (arith, q.1))
  front room options Eol e q ih = absurd (omega (arith, q.1, length-append a (eol ∷ t)))
  front room options Unsound e q ih = absurd q
  front room options Outlawed e q ih = absurd q
  front room options Nop e q ih =
      ap (λ (s : Step). walk_at room m s (λ left skip. walk_from left skip (a ++ (eol ∷ u)))) (nop-local x (a ++ (eol ∷ t)) (a ++ (eol ∷ u)) e)
      ∙ ih room 0 options (omega arith) q
  front room options (Found kind header size) e q ih =
      let f = (step-found l kind header size e).sized in
      let left : length (a ++ (eol ∷ t)) ≡ length a + suc (length t) = length-append a (eol ∷ t) in
      let d : suc (length t) + (size - 1) ≤ length (a ++ (eol ∷ t)) =
      (walk-fills q.left (size - 1) (a ++ (eol ∷ t)) q.later (suc (length t)) (omega (arith, f.fits)) q.walks).within in
      let fits : size ≤ suc (length a) = omega (arith, f.least) in
      let step : step_of m ≡ Found kind header size = step_local (suc (length a)) l m kind header size lengths fronts fits e in
      let next : walk_from q.left (size - 1) (a ++ (eol ∷ u)) ≡ ending q.later u =
      ih q.left (size - 1) q.later (omega arith) q.walks in
      let option : located_of kind header size l ≡ located_of kind header size m =
      ap₂ (λ (n : ℕ) (body : List ℕ). record { remains = n; size = size; item = record { kind = kind; body = body } }) lengths
      (part_same header (size - header) (suc (length a)) l m fronts (omega (arith, f.head))) in
      ap (λ (r : ℕ). walk_from r 0 m) q.one
      ∙ ap (λ (s : Step). walk_at (suc q.left) m s (λ left skip. walk_from left skip (a ++ (eol ∷ u)))) step
      ∙ ap (λ (c : Bool). cond c (faulty Malformed (length m)) (before (located_of kind header size m) (walk_from q.left (size - 1) (a ++ (eol ∷ u))))) q.other
      ∙ ap₂ before (sym option) next ∙ before-ending (located_of kind header size l) q.later u ∙ ap (λ (i : List Located). ending i u) (sym q.splits)

behind-from : (room skip : ℕ) (a t u : List ℕ) (options : List Located) → skip ≤ length a → length t ≡ length u
    → walk_from room skip (a ++ (eol ∷ t)) ≡ listed options (suc (length t)) → walk_from room skip (a ++ (eol ∷ u)) ≡ ending options u
unfolding walk_from step_of class_of all_zero
behind-from room (suc skip) [] t u options h same q = absurd (omega arith)
behind-from room zero [] t u options h same q = ap (λ (i : List Located). ending i u) (ended (all_zero t) q)
  where
    ended : (z : Bool) → cond z (listed [] (suc (length t))) (faulty Tail (suc (length t) - zeros_of (eol ∷ t))) ≡ listed options (suc (length t)) → [] ≡ options
    ended true q = cc
    ended false q = absurd (let z : ◌≡◌ {A = ℕ} 0 1 = cc in omega arith)
behind-from room (suc skip) (x ∷ a) t u options h same q = behind-from room skip a t u options (omega arith) same q
behind-from room zero (x ∷ a) t u options h same q =
    let l : List ℕ = x ∷ (a ++ (eol ∷ t)) in
    front x a t u same room options (step_of l) refl (lists-by room l options (suc (length t)) (step_of l) (omega arith) refl q) (λ left skip more within e. behind-from left skip a t u more within same e)

-- Bytes behind EOL count only as zero or not. The fill counts from the EOL to the end, so it says that the walk ended at this one: with other
-- bytes behind it the walk ends there too, with the same options and the same fill if they are all zero, else with "tail".
pub behind-eol : (room : ℕ) (a t u : List ℕ) (options : List Located) → length t ≡ length u
    → walk_from room 0 (a ++ (eol ∷ t)) ≡ listed options (suc (length t)) → walk_from room 0 (a ++ (eol ∷ u)) ≡ ending options u
behind-eol room a t u options same q = behind-from room 0 a t u options (omega arith) same q
