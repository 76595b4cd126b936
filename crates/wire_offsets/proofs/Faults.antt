-- Where a fault is met (document 02, R-7), in either reading: behind NOPs and sound options, at the step that shows it. A walk passes NOPs in a row
-- together, so it is followed from row to row.
-- Assumes nothing.
use mathlib.Core.Path.{◌≡◌, refl, sym, ap, subst, ◌∙◌}
use mathlib.Core.Bool.{Bool, true, false, cond}
use mathlib.Core.List.{List, [], ◌∷◌}
use mathlib.Core.Logic.{◌⊎◌, inl, inr, ⊎_elim}
use Prim.Native.Nat.{ℕ, zero, suc, ◌+◌, ◌-◌, ◌≤◌, ◌<◌}
use native.Mathlib.Omega.{arith}
use borrow.Author.Tests.{eqb-true, eqb-false}
use lib.Dec.{eqb}
use lib.ListN.{length, drop, get_or, length-drop}
use Rattle.number_octets.specs.Zeros.{all_zero, zeros_of}
use Rattle.number_octets.proofs.ZeroBytes.{first-set}
use Rattle.wire_nops.specs.Nops.{nop, nop_limit, nops_of, is_padding}
use Rattle.wire_nops.specs.declared.Strictness.{Strictness}
use Rattle.wire_nops.specs.declared.Strictness.TheVariants.{Plain, Strict}
use Rattle.wire_nops.proofs.Counts.{nops-are, nops-within, padding-limit}
use Rattle.wire_step.specs.Kinds.{frag}
use Rattle.wire_step.specs.Step.{step_of}
use Rattle.wire_step.specs.declared.Step.{Step}
use Rattle.wire_step.specs.declared.Step.TheVariants.{End, Eol, Nop, Found, Malformed as Unsound, Outlawed}
use Rattle.wire_step.proofs.Steps.{step-found}
use Rattle.wire_options.specs.Walk.{Located, Walked, listed, faulty, before, located_of, sound, walk_at, walk_from}
use Rattle.wire_options.specs.Strict.{strict_from, walk_by}
use Rattle.wire_options.specs.declared.walk.Fault.{Fault}
use Rattle.wire_options.specs.declared.walk.Fault.TheVariants.{Malformed, Unsafe, FragData, Crowded, Tail, Padded}
use Rattle.wire_options.proofs.Stricts.{NoNop, by-skip, walk-other}
use Rattle.wire_options.proofs.Runs.{run-passed, run-padded}
use Rattle.wire_options.proofs.Paddings.{Comes, here, over_nop, over_option}
use Rattle.wire_offsets.specs.Places.{place_before, TailAt, PaddedAt, FaultAt}
use Rattle.wire_offsets.proofs.Turns.{no_nop}
use Rattle.wire_offsets.proofs.Suffixes.{Suffix, comes-suffix, suffix-byte}
use Rattle.wire_offsets.proofs.Bytes.{step-some, outlawed-byte, eol-zeros}

-- ---- the cause of a fault

-- `m` stands at the start of the list or right behind an option, so that a row of NOPs starts there
pub data Starts : ℕ → List ℕ → ℕ → List ℕ → Type 0 where
  start : {left : ℕ} {m : List ℕ} → Starts left m left m
  behind : {room left : ℕ} {l m : List ℕ} (kind header size : ℕ) → step_of (drop (nops_of l) l) ≡ Found kind header size → (kind ≡ frag → ⊥)
      → Starts room (drop size (drop (nops_of l) l)) left m → Starts (suc room) l left m

-- What makes a list that may have `room` options faulty, where the walk comes to `m` and `left` options may still come. From the place of the fault on
-- so many bytes remain.
abbrev pub Cause : Strictness → ℕ → List ℕ → ℕ → List ℕ → Fault → ℕ → Type 0
Cause how room l left m Malformed remains =
    (remains ≡ length m) × ((step_of m ≡ Unsound) ⊎ ((header size : ℕ) × (step_of m ≡ Found frag header size)))
Cause how room l left m Unsafe remains = (remains ≡ length m) × (step_of m ≡ Outlawed)
Cause how room l left m Crowded remains =
    (remains ≡ length m) × (left ≡ 0) × ((kind header size : ℕ) × (step_of m ≡ Found kind header size) × (kind ≡ frag → ⊥))
Cause how room l left m Tail remains = (remains ≡ length m - zeros_of m) × (step_of m ≡ Eol) × (all_zero m ≡ false)
Cause how room l left m Padded remains = (remains ≡ length m - 7) × (how ≡ Strict) × Starts room l left m × (8 ≤ nops_of m)
Cause how room l left m FragData remains = ⊥

pub record Met (how : Strictness) (room : ℕ) (l : List ℕ) (fault : Fault) (remains : ℕ) : Type 0 where
  pub left : ℕ
  pub m : List ℕ
  pub comes : Comes room l left m
  pub cause : Cause how room l left m fault remains

-- ---- NOPs in front

comes-nops : (l : List ℕ) {room left : ℕ} {m : List ℕ} → Comes room (drop (nops_of l) l) left m → Comes room l left m
unfolding nops_of
comes-nops [] c = c
comes-nops (b ∷ bs) {room} {left} {m} c = go (eqb b nop) refl c (λ d. comes-nops bs d)
  where
    go : (t : Bool) → eqb b nop ≡ t → Comes room (drop (cond t (1 + nops_of bs) 0) (b ∷ bs)) left m
        → (Comes room (drop (nops_of bs) bs) left m → Comes room bs left m) → Comes room (b ∷ bs) left m
    go false e c ih = c
    go true e c ih =
        let more : 1 + nops_of bs ≡ suc (nops_of bs) = omega arith in
        subst (λ (k : ℕ). Comes room (k ∷ bs) left m) (sym (eqb-true b nop e)) (over_nop (ih (subst (λ (k : ℕ). Comes room (drop k (b ∷ bs)) left m) more c)))

-- ---- one row of NOPs and what stands behind it

listed-not : (options : List Located) (fill : ℕ) (fault : Fault) (remains : ℕ) → listed options fill ≡ faulty fault remains → ⊥
listed-not options fill fault remains e = cc

none-faulty : (how : Strictness) (room : ℕ) (fault : Fault) (remains : ℕ) → walk_by how room 0 [] ≡ faulty fault remains → ⊥
unfolding walk_from strict_from
none-faulty Plain room fault remains e = listed-not [] 0 fault remains e
none-faulty Strict room fault remains e = listed-not [] 0 fault remains e

before-faulty : (option : Located) (w : Walked) (fault : Fault) (remains : ℕ) → before option w ≡ faulty fault remains → w ≡ faulty fault remains
before-faulty option (listed options fill) fault remains e = absurd (listed-not (option ∷ options) fill fault remains e)
before-faulty option (faulty f n) fault remains e = e

-- what holds of one fault holds of the same fault
same-fault : (C : Fault → ℕ → Type 0) (f : Fault) (n : ℕ) {fault : Fault} {remains : ℕ} → faulty f n ≡ faulty fault remains → C f n → C fault remains
same-fault C f n {fault} {remains} e c =
    let p : f ≡ fault = cc in
    let q : n ≡ remains = cc in
    subst (λ (g : Fault). C g remains) p (subst (C f) q c)

-- a sound option at the front, and the fault behind it
record Over (how : Strictness) (room : ℕ) (m : List ℕ) (fault : Fault) (remains : ℕ) : Type 0 where
  left : ℕ
  one : room ≡ suc left
  kind : ℕ
  header : ℕ
  size : ℕ
  found : step_of m ≡ Found kind header size
  other : kind ≡ frag → ⊥
  walks : walk_by how left 0 (drop size m) ≡ faulty fault remains

no-nop-step : (step : Step) → (step ≡ Nop → ⊥) → NoNop step
no-nop-step Nop h = h refl
no-nop-step End h = tt
no-nop-step Eol h = tt
no-nop-step (Found kind header size) h = tt
no-nop-step Unsound h = tt
no-nop-step Outlawed h = tt

module _ (how : Strictness) (fault : Fault) (remains : ℕ) (l : List ℕ) (b : ℕ) (bs : List ℕ) where
  abbrev m : List ℕ
  m = b ∷ bs

  abbrev rest : ℕ → ℕ → Walked
  rest left skip = walk_by how left skip bs

  -- the fault is at the front of `m`, or behind the option there
  abbrev Front : ℕ → Type 0
  Front room = Cause how room l room m fault remains ⊎ Over how room m fault remains

  at_front : (room : ℕ) (f : Fault) (n : ℕ) → Cause how room l room m f n → faulty f n ≡ faulty fault remains → Front room
  at_front room f n c q = inl (same-fault (Cause how room l room m) f n q c)

  ends : (room : ℕ) (t : Bool) → step_of m ≡ Eol → all_zero m ≡ t
      → cond t (listed [] (length m)) (faulty Tail (length m - zeros_of m)) ≡ faulty fault remains → Front room
  ends room true e z q = absurd (listed-not [] (length m) fault remains q)
  ends room false e z q = at_front room Tail (length m - zeros_of m) (refl, e, z) q

  option : (kind header size : ℕ) (t : Bool) (room : ℕ) → step_of m ≡ Found kind header size → eqb kind frag ≡ t
      → cond t (faulty Malformed (length m)) (sound room (located_of kind header size m) (λ left. rest left (size - 1))) ≡ faulty fault remains → Front room
  option kind header size true room e t q =
      at_front room Malformed (length m) (refl, inr (header, size, e ∙ ap (λ (k : ℕ). Found k header size) (eqb-true kind frag t))) q
  option kind header size false zero e t q = at_front 0 Crowded (length m) (refl, refl, (kind, header, size, e, eqb-false kind frag t)) q
  option kind header size false (suc room) e t q =
      let down : suc (size - 1) ≡ size = let f = (step-found m kind header size e).sized in omega (arith, f.least) in
      inr (record {
        left = room;
        one = refl;
        kind = kind;
        header = header;
        size = size;
        found = e;
        other = eqb-false kind frag t;
        walks =
            ap (λ (n : ℕ). walk_by how room 0 (drop n m)) (sym down) ∙ sym (by-skip how room (size - 1) bs)
            ∙ before-faulty (located_of kind header size m) (rest room (size - 1)) fault remains q;
      })

  by-step : (room : ℕ) (step : Step) → step_of m ≡ step → NoNop step → walk_at room m step rest ≡ faulty fault remains → Front room
  by-step room Nop e h q = absurd h
  by-step room End e h q = absurd (listed-not [] 0 fault remains q)
  by-step room Eol e h q = ends room (all_zero m) e refl q
  by-step room Unsound e h q = at_front room Malformed (length m) (refl, inl e) q
  by-step room Outlawed e h q = at_front room Unsafe (length m) (refl, e) q
  by-step room (Found kind header size) e h q = option kind header size (eqb kind frag) room e refl q

front : (how : Strictness) (room : ℕ) (l m : List ℕ) (fault : Fault) (remains : ℕ) → (step_of m ≡ Nop → ⊥) → walk_by how room 0 m ≡ faulty fault remains
    → Cause how room l room m fault remains ⊎ Over how room m fault remains
front how room l [] fault remains h q = absurd (none-faulty how room fault remains q)
front how room l (b ∷ bs) fault remains h q =
    let step : Step = step_of (b ∷ bs) in
    let other : NoNop step = no-nop-step step h in
    by-step how fault remains l b bs room step refl other (sym (walk-other how room b bs step refl other) ∙ q)

-- ---- the walk

-- the cause of a fault behind an option is its cause in the list
lift-cause : (how : Strictness) (room r : ℕ) (l k : List ℕ) (left : ℕ) (m : List ℕ) (fault : Fault) (remains : ℕ)
    → (Starts r k left m → Starts room l left m) → Cause how r k left m fault remains → Cause how room l left m fault remains
lift-cause how room r l k left m Malformed remains s c = c
lift-cause how room r l k left m Unsafe remains s c = c
lift-cause how room r l k left m Crowded remains s c = c
lift-cause how room r l k left m Tail remains s c = c
lift-cause how room r l k left m Padded remains s c = (c.0, c.1, s c.2, c.3)
lift-cause how room r l k left m FragData remains s c = c

met-over : (how : Strictness) (room : ℕ) (l : List ℕ) (fault : Fault) (remains : ℕ) (o : Over how room (drop (nops_of l) l) fault remains)
    → Met how o.left (drop o.size (drop (nops_of l) l)) fault remains → Met how room l fault remains
met-over how room l fault remains o c =
    let k : List ℕ = drop (nops_of l) l in
    subst (λ (r : ℕ). Met how r l fault remains) (sym o.one) (record {
      left = c.left;
      m = c.m;
      comes = comes-nops l (over_option o.kind o.header o.size o.found o.other c.comes);
      cause =
          lift-cause how (suc o.left) o.left l (drop o.size k) c.left c.m fault remains
          (λ s. behind o.kind o.header o.size o.found o.other s)
          c.cause;
    })

strict-only : (how : Strictness) (nops : ℕ) → is_padding how nops ≡ true → how ≡ Strict
strict-only Plain nops e = cc
strict-only Strict nops e = refl

-- padding at the front
met-padded : (how : Strictness) (room : ℕ) (l : List ℕ) → is_padding how (nops_of l) ≡ true → Met how room l Padded (length l - nop_limit)
unfolding nop_limit
met-padded how room l p = record {
  left = room;
  m = l;
  comes = here;
  cause = (refl, strict-only how (nops_of l) p, start, omega (arith, padding-limit how (nops_of l) p));
}

-- every option that is passed makes the list shorter
met-from : (most : ℕ) (how : Strictness) (room : ℕ) (l : List ℕ) (fault : Fault) (remains : ℕ) → length l ≤ most
    → walk_by how room 0 l ≡ faulty fault remains → Met how room l fault remains
met-from zero how room [] fault remains h q = absurd (none-faulty how room fault remains q)
met-from zero how room (b ∷ bs) fault remains h q = absurd (omega arith)
met-from (suc most) how room l fault remains h q = go (is_padding how (nops_of l)) refl (λ r k. met-from most how r k fault remains)
  where
    m : List ℕ
    m = drop (nops_of l) l

    Rest : Type 0
    Rest = (r : ℕ) (k : List ℕ) → length k ≤ most → walk_by how r 0 k ≡ faulty fault remains → Met how r k fault remains

    shorter : (o : Over how room m fault remains) → length (drop o.size m) ≤ most
    shorter o =
        let f = (step-found m o.kind o.header o.size o.found).sized in
        omega (arith, f.least, length-drop o.size m, length-drop (nops_of l) l)

    passed : Rest → Cause how room l room m fault remains ⊎ Over how room m fault remains → Met how room l fault remains
    passed ih w =
        ⊎_elim (λ c. record { left = room; m = m; comes = comes-nops l here; cause = c })
        (λ o. met-over how room l fault remains o (ih o.left (drop o.size m) (shorter o) o.walks)) w

    go : (t : Bool) → is_padding how (nops_of l) ≡ t → Rest → Met how room l fault remains
    go true p ih = same-fault (Met how room l) Padded (length l - nop_limit) (sym (run-padded how room l p) ∙ q) (met-padded how room l p)
    go false p ih = passed ih (front how room l m fault remains (no_nop l) (sym (run-passed how room l p) ∙ q))

pub fault-met : (how : Strictness) (room : ℕ) (l : List ℕ) (fault : Fault) (remains : ℕ) → walk_by how room 0 l ≡ faulty fault remains
    → Met how room l fault remains
fault-met how room l fault remains q = met-from (length l) how room l fault remains (omega arith) q

-- ---- its place in the list

module _ {l m : List ℕ} (s : Suffix l m) where
  -- a fault at the front of what the walk comes to
  module _ {remains : ℕ} (e : remains ≡ length m) where
    front-step : step_of (drop (place_before l remains) l) ≡ step_of m
    front-step = ap (λ (n : ℕ). step_of (drop (place_before l n) l)) e ∙ sym (ap step_of s.rest)

    front-byte : get_or l (place_before l remains) 0 ≡ get_or m 0 0
    front-byte = ap (λ (n : ℕ). get_or l (place_before l n) 0) (e ∙ omega arith) ∙ suffix-byte s 0 (omega arith)

  tail_at : step_of m ≡ Eol → all_zero m ≡ false → TailAt l (place_before l (length m - zeros_of m))
  tail_at e z =
      let f = first-set m z in
      record {
        nonzero = λ q. f.set (sym (suffix-byte s (zeros_of m) (omega (arith, f.within))) ∙ q);
        end = place_before l (length m);
        behind = omega (arith, s.within, f.within, eol-zeros m e);
        ends = sym (ap step_of s.rest) ∙ e;
        zeros = λ i low high.
            let n : ℕ = i - place_before l (length m) in
            let at : place_before l (length m - n) ≡ i = omega (arith, s.within, f.within) in
            sym (ap (λ (k : ℕ). get_or l k 0) at) ∙ suffix-byte s n (omega (arith, s.within, f.within)) ∙ f.zeros n (omega (arith, s.within, f.within));
      }

  padded-at : 8 ≤ nops_of m → PaddedAt l (place_before l (length m - 7))
  padded-at h =
      let long : 8 ≤ length m = omega (arith, nops-within m) in
      record {
        nops = λ i low.
            let at : place_before l (length m - (7 - i)) ≡ place_before l (length m - 7) - i = omega (arith, s.within) in
            sym (ap (λ (k : ℕ). get_or l k 0) at) ∙ suffix-byte s (7 - i) (omega arith) ∙ nops-are m (7 - i) (omega arith);
        seven = omega (arith, s.within);
      }

fault-at : (how : Strictness) (room : ℕ) (l : List ℕ) (left : ℕ) (m : List ℕ) (fault : Fault) (remains : ℕ) → Suffix l m
    → Cause how room l left m fault remains → FaultAt l fault remains
fault-at how room l left m Malformed remains s c = record {
  within = omega (arith, s.within, c.0);
  some =
      let some : 0 < length m =
      ⊎_elim (λ e. step-some m Unsound e (λ p. cc))
      (λ f. step-some m (Found frag f.0 f.1) f.2 (λ p. cc)) c.1 in
      omega (arith, c.0);
  met = ⊎_elim (λ e. inl (front-step s c.0 ∙ e)) (λ f. inr (f.0, f.1, front-step s c.0 ∙ f.2)) c.1;
}
fault-at how room l left m Unsafe remains s c = record {
  within = omega (arith, s.within, c.0);
  some = omega (arith, c.0, step-some m Outlawed c.1 (λ p. cc));
  met = (front-step s c.0 ∙ c.1, omega (arith, front-byte s c.0, outlawed-byte m c.1));
}
fault-at how room l left m Crowded remains s c =
    let f = step-found m c.2.0 c.2.1 c.2.2 c.2.3 in
    let byte : c.2.0 ≡ get_or l (place_before l remains) 0 = f.front ∙ sym (front-byte s c.0) in
    record {
      within = omega (arith, s.within, c.0);
      some = omega (arith, c.0, f.sized.least, f.sized.fits);
      met = (
        c.2.1,
        c.2.2,
        front-step s c.0 ∙ c.2.3 ∙ ap (λ (k : ℕ). Found k c.2.1 c.2.2) byte,
        λ e. c.2.4 (byte ∙ e),
      );
    }
fault-at how room l left m Tail remains s c =
    subst (FaultAt l Tail) (sym c.0) (record {
      within = omega (arith, s.within);
      some = omega (arith, (first-set m c.2).within);
      met = tail_at s c.1 c.2;
    })
fault-at how room l left m Padded remains s c =
    subst (FaultAt l Padded) (sym c.0) (record {
      within = omega (arith, s.within);
      some = omega (arith, nops-within m, c.3);
      met = padded-at s c.3;
    })
fault-at how room l left m FragData remains s c = absurd c

pub fault-byte : (how : Strictness) (room : ℕ) (l : List ℕ) (fault : Fault) (remains : ℕ) → walk_by how room 0 l ≡ faulty fault remains
    → FaultAt l fault remains
fault-byte how room l fault remains q =
    let c = fault-met how room l fault remains q in
    fault-at how room l c.left c.m fault remains (comes-suffix c.comes) c.cause
