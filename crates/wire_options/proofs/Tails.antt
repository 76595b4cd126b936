-- Where a walk comes to "tail" (document 02, R-2): at an EOL with a byte behind it that is not zero, where with zeros behind it the walk would list
-- its options. It is met at the first such byte. So no other fault is called tail, and a fault in front of EOL is met first.
-- Assumes nothing.
use mathlib.Core.Path.{◌≡◌, refl, sym, ap, ◌∙◌}
use mathlib.Core.Bool.{Bool, true, false, cond}
use mathlib.Core.List.{List, [], ◌∷◌, ◌++◌}
use mathlib.Core.Logic.{⊎_elim}
use Prim.Native.Nat.{ℕ, zero, suc, ◌-◌, ◌≤◌}
use native.Mathlib.Omega.{arith}
use lib.Dec.{eqb}
use lib.ListN.{length, take, replicate, length-append, length-replicate}
use lib.Seq.{take_at}
use Rattle.number_octets.specs.Zeros.{all_zero, zeros_of}
use Rattle.number_octets.proofs.ZeroBytes.{zero-alike}
use Rattle.wire_nops.specs.declared.Strictness.{Strictness}
use Rattle.wire_step.specs.Kinds.{class_of, eol, frag}
use Rattle.wire_step.specs.Step.{step_of}
use Rattle.wire_step.specs.declared.Step.{Step}
use Rattle.wire_step.specs.declared.Step.TheVariants.{End, Eol, Nop, Found, Malformed as Unsound, Outlawed}
use Rattle.wire_step.proofs.Steps.{step-found, eol-byte}
use Rattle.wire_step.proofs.Locality.{nop-local, step_local}
use Rattle.wire_options.specs.Walk.{Located, Walked, listed, faulty, before, located_of, sound, ends_at, walk_at, walk_from}
use Rattle.wire_options.specs.Strict.{walk_by}
use Rattle.wire_options.specs.declared.walk.Fault.TheVariants.{Malformed, Tail, Padded}
use Rattle.wire_options.proofs.Stricts.{padded-or-plain}
use Rattle.wire_options.proofs.Locality.{behind-eol}

-- an EOL that the walk comes to, with a byte behind it that is not zero; from the first such byte on so many remain
pub record Tailed (room skip : ℕ) (l : List ℕ) (remains : ℕ) : Type 0 where
  pub front : List ℕ
  pub tail : List ℕ
  pub options : List Located
  pub splits : l ≡ front ++ (eol ∷ tail)
  pub reaches : skip ≤ length front
  pub set : all_zero tail ≡ false
  pub met : remains ≡ suc (length tail) - zeros_of (eol ∷ tail)
  pub walks : walk_from room skip (front ++ (eol ∷ replicate (length tail) 0)) ≡ listed options (suc (length tail))

-- ---- by the step at the front

listed-not : (options : List Located) (fill remains : ℕ) → listed options fill ≡ faulty Tail remains → ⊥
listed-not options fill remains e = let z : ◌≡◌ {A = ℕ} 0 1 = cc in omega arith

before-tail : (option : Located) (w : Walked) (remains : ℕ) → before option w ≡ faulty Tail remains → w ≡ faulty Tail remains
before-tail option (listed options fill) remains e = absurd (listed-not (option ∷ options) fill remains e)
before-tail option (faulty f n) remains e = e

module _ (b : ℕ) (bs : List ℕ) (remains : ℕ) where
  abbrev l : List ℕ
  l = b ∷ bs

  -- the law for the bytes behind the first
  abbrev Rest : Type 0
  Rest = (left skip : ℕ) → walk_from left skip bs ≡ faulty Tail remains → Tailed left skip bs remains

  abbrev zeroed : {left skip : ℕ} → Tailed left skip bs remains → List ℕ
  zeroed t = t.front ++ (eol ∷ replicate (length t.tail) 0)

  ends : (room : ℕ) (z : Bool) → all_zero bs ≡ z → b ≡ eol
      → cond z (listed [] (suc (length bs))) (faulty Tail (suc (length bs) - zeros_of (eol ∷ bs))) ≡ faulty Tail remains → Tailed room 0 l remains
  unfolding walk_from step_of class_of all_zero
  ends room true z e q = absurd (listed-not [] (suc (length bs)) remains q)
  ends room false z e q = record {
    front = [];
    tail = bs;
    options = [];
    splits = ap (λ (x : ℕ). x ∷ bs) e;
    reaches = omega arith;
    set = z;
    met = cc;
    walks =
        ap (λ (t : Bool). cond t (listed [] (suc (length {A = ℕ} (replicate (length bs) 0)))) (faulty Tail (suc (length {A = ℕ} (replicate (length bs) 0)) - zeros_of (eol ∷ replicate (length bs) 0)))) (zero-alike (length bs))
        ∙ ap (λ (n : ℕ). listed [] (suc n)) (length-replicate (length bs) 0);
  }

  nop : (room : ℕ) → step_of l ≡ Nop → Tailed room 0 bs remains → Tailed room 0 l remains
  unfolding walk_from
  nop room e t = record {
    front = b ∷ t.front;
    tail = t.tail;
    options = t.options;
    splits = ap (λ (r : List ℕ). b ∷ r) t.splits;
    reaches = omega arith;
    set = t.set;
    met = t.met;
    walks =
        ap (λ (s : Step). walk_at room (b ∷ zeroed t) s (λ left skip. walk_from left skip (zeroed t))) (nop-local b bs (zeroed t) e) ∙ t.walks;
  }

  found : (r kind header size : ℕ) → step_of l ≡ Found kind header size → eqb kind frag ≡ false → Tailed r (size - 1) bs remains → Tailed (suc r) 0 l remains
  unfolding walk_from
  found r kind header size e other t =
      let f = (step-found l kind header size e).sized in
      let n : ℕ = suc (length t.front) in
      let m : List ℕ = b ∷ zeroed t in
      let zeros : length {A = ℕ} (replicate (length t.tail) 0) ≡ length t.tail = length-replicate (length t.tail) 0 in
      let lengths : length l ≡ length m =
      ap (λ (x : List ℕ). suc (length x)) t.splits ∙ omega (arith, length-append t.front (eol ∷ t.tail), length-append t.front (eol ∷ replicate (length t.tail) 0)) in
      let fronts : take n l ≡ take n m =
      ap (λ (x : List ℕ). take n (b ∷ x)) t.splits
      ∙ take_at (b ∷ t.front) (eol ∷ t.tail) n refl ∙ sym (take_at (b ∷ t.front) (eol ∷ replicate (length t.tail) 0) n refl) in
      let fits : size ≤ n = omega (arith, t.reaches, f.least) in
      let step : step_of m ≡ Found kind header size = step_local n l m kind header size lengths fronts fits e in
      record {
        front = b ∷ t.front;
        tail = t.tail;
        options = located_of kind header size m ∷ t.options;
        splits = ap (λ (x : List ℕ). b ∷ x) t.splits;
        reaches = omega arith;
        set = t.set;
        met = t.met;
        walks =
            ap (λ (s : Step). walk_at (suc r) m s (λ left skip. walk_from left skip (zeroed t))) step
            ∙ ap (λ (c : Bool). cond c (faulty Malformed (length m)) (before (located_of kind header size m) (walk_from r (size - 1) (zeroed t)))) other
            ∙ ap (before (located_of kind header size m)) t.walks;
      }

  by-step : (room : ℕ) (step : Step) → step_of l ≡ step → walk_at room l step (λ left skip. walk_from left skip bs) ≡ faulty Tail remains → Rest → Tailed room 0 l remains
  unfolding all_zero
  by-step room End e q ih = absurd (listed-not [] 0 remains q)
  by-step room Unsound e q ih = absurd (let z : ◌≡◌ {A = ℕ} 0 1 = cc in omega arith)
  by-step room Outlawed e q ih = absurd (let z : ◌≡◌ {A = ℕ} 0 1 = cc in omega arith)
  by-step room Nop e q ih = nop room e (ih room 0 q)
  by-step room Eol e q ih =
      let byte : b ≡ eol = eol-byte b bs e in
      ends room (all_zero bs) refl byte (ap (λ (x : ℕ). ends_at (x ∷ bs)) (sym byte) ∙ q)
  by-step room (Found kind header size) e q ih = go (eqb kind frag) room refl q
    where
      go : (t : Bool) (r : ℕ) → eqb kind frag ≡ t
          → cond t (faulty Malformed (length l)) (sound r (located_of kind header size l) (λ left. walk_from left (size - 1) bs)) ≡ faulty Tail remains → Tailed r 0 l remains
      go true r c q = absurd (let z : ◌≡◌ {A = ℕ} 0 1 = cc in omega arith)
      go false zero c q = absurd (let z : ◌≡◌ {A = ℕ} 0 1 = cc in omega arith)
      go false (suc r) c q =
          found r kind header size e c (ih r (size - 1) (before-tail (located_of kind header size l) (walk_from r (size - 1) bs) remains q))

-- ---- the walk

tail_from : (l : List ℕ) (room skip remains : ℕ) → walk_from room skip l ≡ faulty Tail remains → Tailed room skip l remains
unfolding walk_from
tail_from [] room skip remains q = absurd (listed-not [] 0 remains q)
tail_from (b ∷ bs) room (suc skip) remains q =
    let t = tail_from bs room skip remains q in
    record {
      front = b ∷ t.front;
      tail = t.tail;
      options = t.options;
      splits = ap (λ (x : List ℕ). b ∷ x) t.splits;
      reaches = omega (arith, t.reaches);
      set = t.set;
      met = t.met;
      walks = t.walks;
    }
tail_from (b ∷ bs) room zero remains q = by-step b bs remains room (step_of (b ∷ bs)) refl q (λ left skip e. tail_from bs left skip remains e)

-- "tail" has that cause and no other ..
pub tail-cause : (room : ℕ) (l : List ℕ) (remains : ℕ) → walk_from room 0 l ≡ faulty Tail remains → Tailed room 0 l remains
tail-cause room l remains q = tail_from l room 0 remains q

-- .. and where it is there, the walk comes to "tail"
pub tail-met : (room : ℕ) (l : List ℕ) (remains : ℕ) → Tailed room 0 l remains → walk_from room 0 l ≡ faulty Tail remains
tail-met room l remains t =
    let zeros : List ℕ = replicate (length t.tail) 0 in
    let size : length zeros ≡ length t.tail = length-replicate (length t.tail) 0 in
    ap (walk_from room 0) t.splits
    ∙ behind-eol room t.front zeros t.tail t.options size (t.walks ∙ ap (λ (n : ℕ). listed t.options (suc n)) (sym size))
    ∙ simp (t.set, t.met)

-- the same of strict reading: what is called "tail" there has that cause too
pub tailed-by : (how : Strictness) (room : ℕ) (l : List ℕ) (remains : ℕ) → walk_by how room 0 l ≡ faulty Tail remains → Tailed room 0 l remains
tailed-by how room l remains q =
    ⊎_elim
    (λ p. absurd (let both : faulty Padded p.0 ≡ faulty Tail remains = sym p.1 ∙ q in let z : ◌≡◌ {A = ℕ} 0 1 = cc in omega arith))
    (λ p. tail-cause room l remains (sym p ∙ q))
    (padded-or-plain how room l)
