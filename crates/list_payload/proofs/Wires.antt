-- What the writer puts on the wire is what the walk meets: each option's step finds it, and the fill starts with EOL.
-- Assumes nothing.
use mathlib.Core.Path.{◌≡◌, refl, sym, ap, ap₂, ◌∙◌}
use mathlib.Core.Bool.{Bool, true, false, cond}
use mathlib.Core.List.{List, [], ◌∷◌, ◌++◌, append_assoc}
use mathlib.Core.Logic.{◌⊎◌, ⊎_elim}
use Prim.Native.Nat.{ℕ, zero, suc, ◌+◌, ◌-◌, ◌≤◌, ◌<◌}
use native.Mathlib.Omega.{arith}
use borrow.Author.Tests.{le-leb, eq-eqb, ne_eqb, leb-true, leb-false}
use lib.Dec.{leb}
use lib.ListN.{length, take, drop, replicate, length-append, length-replicate}
use lib.Seq.{drop-append_seam, take_at, drop_at, drop-drop}
use Rattle.number_octets.specs.Octets.{number, octets, part}
use Rattle.number_octets.specs.Zeros.{all_zero, zeros_of}
use Rattle.number_octets.proofs.ZeroBytes.{zero-alike}
use Rattle.number_octets.proofs.Laws.{length-octets, number-octets}
use Rattle.wire_nops.specs.declared.Strictness.{Strictness}
use Rattle.wire_nops.specs.declared.Strictness.TheVariants.{Plain, Strict}
use Rattle.wire_step.specs.Kinds.{class_of, eol, frag}
use Rattle.wire_step.specs.Step.{header_of, sound, step_of, step_in, fixed_step, varying_step}
use Rattle.wire_step.specs.declared.Class.{Class}
use Rattle.wire_step.specs.declared.Class.TheVariants.{Fixed, Varying}
use Rattle.wire_step.specs.declared.Step.TheVariants.{Eol, Found}
use Rattle.wire_options.specs.Walk.{Item, Located, Walked, listed, faulty, before, item_of, walk_from}
use Rattle.wire_options.specs.Strict.{strict_from, walk_by}
use Rattle.wire_options.specs.declared.walk.Fault.TheVariants.{Tail}
use Rattle.wire_options.proofs.Stricts.{walk-other, walk-found}
use Rattle.list_encoding.specs.Wire.{longest_short}
use Rattle.list_payload.specs.Payload.{wire_of, wires, standing}

-- what the writer writes: an option of a fixed kind with its length, or of a kind from 9 to 191 with a body that fits; never FRAG
pub record Wired (item : Item) : Type 0 where
  pub no_frag : item.kind ≡ frag → ⊥
  pub class : ((class_of item.kind ≡ Varying) × (length item.body + 4 < 65536))
      ⊎ ((a : ℕ) × (class_of item.kind ≡ Fixed a a) × (length item.body + 2 ≡ a) × (a ≤ longest_short))

-- ---- the header of an option that was written

short-header : (k : ℕ) (body rest : List ℕ) → length body + 2 ≤ longest_short
    → header_of (k ∷ (length body + 2) ∷ (body ++ rest)) ≡ sound 2 (length body + 2)
unfolding header_of
short-header k body rest h =
    let n : ℕ = length body + 2 in
    let size : length (body ++ rest) ≡ length body + length rest = length-append body rest in
    simp (
      le-leb 2 (length (k ∷ n ∷ (body ++ rest))) (omega arith),
      ne_eqb n 255 (λ e. omega arith),
      le-leb 2 n (omega arith),
      le-leb n (length (k ∷ n ∷ (body ++ rest))) (omega arith),
    )

long-header : (k : ℕ) (body rest : List ℕ) → longest_short < length body + 2 → length body + 4 < 65536
    → header_of (k ∷ 255 ∷ ((octets 2 (length body + 4) ++ body) ++ rest)) ≡ sound 4 (length body + 4)
unfolding header_of
long-header k body rest h small =
    let n : ℕ = length body + 4 in
    let l : List ℕ = k ∷ 255 ∷ ((octets 2 n ++ body) ++ rest) in
    let two : length (octets 2 n) ≡ 2 = length-octets 2 n in
    let size : length ((octets 2 n ++ body) ++ rest) ≡ 2 + length body + length rest =
    length-append (octets 2 n ++ body) rest ∙ ap (λ (m : ℕ). m + length rest) (length-append (octets 2 n) body ∙ ap (λ (m : ℕ). m + length body) two) in
    let there : part 2 2 l ≡ octets 2 n = ap (take 2) (append_assoc (octets 2 n) body rest) ∙ take_at (octets 2 n) (body ++ rest) 2 two in
    let value : number (part 2 2 l) ≡ n = ap number there ∙ number-octets 2 n small in
    simp (
      le-leb 2 (length l) (omega arith),
      le-leb 4 (length l) (omega arith),
      value,
      le-leb 255 n (omega arith),
      le-leb n (length l) (omega arith),
    )

-- ---- the step over an option that was written

-- an option is found at the front, with the item that was written
pub record Met (item : Item) (rest : List ℕ) : Type 0 where
  pub header : ℕ
  pub size : ℕ
  pub more : size ≡ length (wire_of item)
  pub some : 0 < size
  pub step : step_of (wire_of item ++ rest) ≡ Found item.kind header size
  pub same : item_of item.kind header size (wire_of item ++ rest) ≡ item
  pub behind : drop size (wire_of item ++ rest) ≡ rest

-- the class of the kind decides with the header: in short form any class will do
by-short : (item : Item) (l : List ℕ) → Wired item → header_of (item.kind ∷ l) ≡ sound 2 (length item.body + 2)
    → step_of (item.kind ∷ l) ≡ Found item.kind 2 (length item.body + 2)
unfolding step_of
by-short item l w e =
    ⊎_elim
    (λ v. ap (λ (c : Class). step_in c (item.kind ∷ l)) v.0 ∙ ap (varying_step item.kind) e)
    (λ f.
    ap (λ (c : Class). step_in c (item.kind ∷ l)) f.1 ∙ ap (fixed_step item.kind f.0 f.0) e
    ∙ simp (eq-eqb (length item.body + 2) f.0 f.2))
    w.class

-- and in extended form only a body of its own length
by-long : (item : Item) (l : List ℕ) → Wired item → longest_short < length item.body + 2 → header_of (item.kind ∷ l) ≡ sound 4 (length item.body + 4)
    → step_of (item.kind ∷ l) ≡ Found item.kind 4 (length item.body + 4)
unfolding step_of
by-long item l w h e =
    ⊎_elim
    (λ v. ap (λ (c : Class). step_in c (item.kind ∷ l)) v.0 ∙ ap (varying_step item.kind) e)
    (λ f. absurd (omega (arith, f.2, f.3)))
    w.class

fits-extended : (item : Item) → Wired item → longest_short < length item.body + 2 → length item.body + 4 < 65536
fits-extended item w h = ⊎_elim (λ v. v.1) (λ f. absurd (omega (arith, f.2, f.3))) w.class

short-met : (item : Item) (rest : List ℕ) → Wired item → length item.body + 2 ≤ longest_short
    → wire_of item ≡ item.kind ∷ (length item.body + 2) ∷ item.body → Met item rest
short-met item rest w h is =
    let n : ℕ = length item.body in
    let less : n + 2 - 2 ≡ n = omega arith in
    let two : n + 2 ≡ suc (suc n) = omega arith in
    let body-there : part 2 (n + 2 - 2) (wire_of item ++ rest) ≡ item.body =
    ap (λ (t : List ℕ). part 2 (n + 2 - 2) (t ++ rest)) is ∙ take_at item.body rest (n + 2 - 2) (sym less) in
    record {
      header = 2;
      size = n + 2;
      more = two ∙ sym (ap length is);
      some = omega arith;
      step = ap (λ (t : List ℕ). step_of (t ++ rest)) is ∙ by-short item ((n + 2) ∷ (item.body ++ rest)) w (short-header item.kind item.body rest h);
      same = λ i. record { kind = item.kind; body = body-there i };
      behind =
          ap (λ (t : List ℕ). drop (n + 2) (t ++ rest)) is ∙ ap (λ (m : ℕ). drop m (item.kind ∷ (n + 2) ∷ (item.body ++ rest))) two
          ∙ drop-append_seam item.body rest;
    }

long-met : (item : Item) (rest : List ℕ) → Wired item → longest_short < length item.body + 2
    → wire_of item ≡ item.kind ∷ 255 ∷ (octets 2 (length item.body + 4) ++ item.body) → Met item rest
long-met item rest w h is =
    let n : ℕ = length item.body in
    let o : List ℕ = octets 2 (n + 4) in
    let two : length o ≡ 2 = length-octets 2 (n + 4) in
    let less : n + 4 - 4 ≡ n = omega arith in
    let four : n + 4 ≡ suc (suc (2 + n)) = omega arith in
    let tail : (o ++ item.body) ++ rest ≡ o ++ (item.body ++ rest) = append_assoc o item.body rest in
    let body-there : part 4 (n + 4 - 4) (wire_of item ++ rest) ≡ item.body =
    ap (λ (t : List ℕ). part 4 (n + 4 - 4) (t ++ rest)) is
    ∙ ap (λ (t : List ℕ). take (n + 4 - 4) (drop 2 t)) tail ∙ ap (take (n + 4 - 4)) (drop_at o (item.body ++ rest) 2 two)
    ∙ take_at item.body rest (n + 4 - 4) (sym less) in
    record {
      header = 4;
      size = n + 4;
      more = four ∙ ap (λ (m : ℕ). suc (suc m)) (sym (length-append o item.body ∙ ap (λ (m : ℕ). m + n) two)) ∙ sym (ap length is);
      some = omega arith;
      step =
          ap (λ (t : List ℕ). step_of (t ++ rest)) is
          ∙ by-long item (255 ∷ ((o ++ item.body) ++ rest)) w h (long-header item.kind item.body rest h (fits-extended item w h));
      same = λ i. record { kind = item.kind; body = body-there i };
      behind =
          ap (λ (t : List ℕ). drop (n + 4) (t ++ rest)) is ∙ ap (λ (m : ℕ). drop m (item.kind ∷ 255 ∷ ((o ++ item.body) ++ rest))) four
          ∙ ap (drop (2 + n)) tail ∙ sym (drop-drop n 2 (o ++ (item.body ++ rest))) ∙ ap (drop n) (drop_at o (item.body ++ rest) 2 two)
          ∙ drop-append_seam item.body rest;
    }

pub wire-met : (item : Item) (rest : List ℕ) → Wired item → Met item rest
unfolding wire_of
wire-met item rest w = go (leb (length item.body + 2) longest_short) refl
  where
    go : (t : Bool) → leb (length item.body + 2) longest_short ≡ t → Met item rest
    go true e = short-met item rest w (leb-true (length item.body + 2) longest_short e) (simp e)
    go false e = long-met item rest w (leb-false (length item.body + 2) longest_short e) (simp e)

-- ---- the walk over what was written

abbrev pub Each : List Item → Type 0
Each [] = Unit {0}
Each (item ∷ items) = Wired item × Each items

one_more : (how : Strictness) (room : ℕ) (item : Item) (rest : List ℕ) → Wired item
    → walk_by how (suc room) 0 (wire_of item ++ rest)
    ≡ before (record { remains = length (wire_of item ++ rest); size = length (wire_of item); item = item }) (walk_by how room 0 rest)
one_more how room item rest w =
    let m = wire-met item rest w in
    let located : (n : ℕ) → Item → Located = λ n i. record { remains = length (wire_of item ++ rest); size = n; item = i } in
    walk-found how room (wire_of item ++ rest) item.kind m.header m.size m.step w.no_frag
    ∙ ap₂ (λ (o : Located) (t : List ℕ). before o (walk_by how room 0 t)) (ap₂ located m.more m.same) m.behind

-- the fill: nothing, or EOL and what is behind it
walk-fill : (how : Strictness) (room fill : ℕ) → walk_by how room 0 (replicate fill 0) ≡ listed [] fill
unfolding walk_from strict_from step_of class_of all_zero
walk-fill Plain room zero = refl
walk-fill Strict room zero = refl
walk-fill how room (suc fill) =
    walk-other how room eol (replicate fill 0) Eol refl tt
    ∙ ap (λ (t : Bool). cond t (listed [] (suc (length {A = ℕ} (replicate fill 0)))) (faulty Tail (suc (length {A = ℕ} (replicate fill 0)) - zeros_of (eol ∷ replicate fill 0)))) (zero-alike fill)
    ∙ ap (λ (n : ℕ). listed [] (suc n)) (length-replicate fill 0)

-- in plain and in strict reading: no NOP was written
pub walk-wires : (how : Strictness) (room : ℕ) (items : List Item) (fill : ℕ) → Each items → length items ≤ room
    → walk_by how room 0 (wires items ++ replicate fill 0) ≡ listed (standing items fill) fill
unfolding wires
walk-wires how room [] fill each few = walk-fill how room fill
walk-wires how zero (item ∷ items) fill each few = absurd (omega arith)
walk-wires how (suc room) (item ∷ items) fill each few =
    ap (walk_by how (suc room) 0) (append_assoc (wire_of item) (wires items) (replicate fill 0))
    ∙ one_more how room item (wires items ++ replicate fill 0) each.0
    ∙ ap₂ (λ (n : ℕ) (v : Walked). before (record { remains = n; size = length (wire_of item); item = item }) v) remains
    (walk-wires how room items fill each.1 (omega arith))
  where
    remains : length (wire_of item ++ (wires items ++ replicate fill 0)) ≡ length (wire_of item ++ wires items) + fill
    remains = simp length-append (omega (arith, length-replicate {A = ℕ} fill 0))
