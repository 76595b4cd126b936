-- A step reads no byte behind the option that it finds.
-- Assumes nothing.
use mathlib.Core.Path.{◌≡◌, refl, sym, ap, ap₂, ◌∙◌}
use mathlib.Core.Bool.{Bool, true, false, cond}
use mathlib.Core.List.{List, [], ◌∷◌}
use mathlib.Core.Logic.{⊎_elim}
use Prim.Native.Nat.{ℕ, zero, suc, ◌+◌, ◌≤◌, ◌<◌}
use native.Mathlib.Omega.{arith}
use borrow.Author.Tests.{ne_eqb, leb-true, leb-false}
use lib.Dec.{eqb, leb}
use lib.ListN.{length, take, get_or}
use lib.Seq.{take-take, get_or-take}
use Rattle.number_octets.specs.Octets.{number, part}
use Rattle.wire_step.specs.Kinds.{class_of}
use Rattle.wire_step.specs.Step.{sound, within, header_of, fixed_step, varying_step, step_in, step_of}
use Rattle.wire_step.specs.declared.Class.{Class}
use Rattle.wire_step.specs.declared.Class.TheVariants.{EndOfList, NoOperation, Fixed, Varying, Unsafe}
use Rattle.wire_step.specs.declared.Header.{Header}
use Rattle.std.proofs.Common.{Option, None}
use Rattle.wire_step.specs.declared.Step.TheVariants.{Nop, Found}
use Rattle.wire_step.proofs.Steps.{Sized, header-sound, step-found, class-alone}

-- ---- lists with one front

pub byte-same : (n i : ℕ) (l m : List ℕ) → take n l ≡ take n m → i < n → get_or l i 0 ≡ get_or m i 0
byte-same n i l m e h = sym (get_or-take n l i 0 h) ∙ ap (λ (t : List ℕ). get_or t i 0) e ∙ get_or-take n m i 0 h

part-front : (at k n : ℕ) (l : List ℕ) → at + k ≤ n → part at k (take n l) ≡ part at k l
part-front zero k n l h = take-take k n l (omega arith)
part-front (suc at) k zero l h = absurd (omega arith)
part-front (suc at) k (suc n) [] h = refl
part-front (suc at) k (suc n) (x ∷ l) h = part-front at k n l (omega arith)

pub part_same : (at k n : ℕ) (l m : List ℕ) → take n l ≡ take n m → at + k ≤ n → part at k l ≡ part at k m
part_same at k n l m e h = sym (part-front at k n l h) ∙ ap (part at k) e ∙ part-front at k n m h

-- ---- one step

-- a header by the numbers that it is read from: the list's length, the length byte, and the length behind that
abbrev header_by : ℕ → ℕ → ℕ → Option Header
header_by end short long =
    cond (leb 2 end)
    (cond (eqb short 255) (cond (leb 4 end) (cond (leb 255 long) (within end 4 long) None) None) (cond (leb 2 short) (within end 2 short) None))
    None

-- the length behind the length byte is read only where the option is that long
pub header-local : (n : ℕ) (l m : List ℕ) (h s : ℕ) → length l ≡ length m → take n l ≡ take n m → s ≤ n → header_of l ≡ sound h s
    → header_of m ≡ sound h s
unfolding header_of
header-local n l m h s len same fits e =
    let short : get_or l 1 0 ≡ get_or m 1 0 = byte-same n 1 l m same (omega (arith, z.least)) in
    ap₂ (λ (i j : ℕ). header_by i j (number (part 2 2 m))) (sym len) (sym short) ∙ long (leb 255 s) refl ∙ e
  where
    z : Sized l h s
    z = header-sound l h s e

    long : (t : Bool) → leb 255 s ≡ t → header_by (length l) (get_or l 1 0) (number (part 2 2 m)) ≡ header_by (length l) (get_or l 1 0) (number (part 2 2 l))
    long true p = ap (λ (b : List ℕ). header_by (length l) (get_or l 1 0) (number b)) (sym (part_same 2 2 n l m same (omega (arith, leb-true 255 s p))))
    long false p =
        let few : s < 255 = leb-false 255 s p in
        simp (ne_eqb (get_or l 1 0) 255 (λ b. ⊎_elim (λ r. omega arith) (λ r. omega arith) z.read))

class-local : (class : Class) (l m : List ℕ) → get_or l 0 0 ≡ get_or m 0 0 → header_of l ≡ header_of m → step_in class l ≡ step_in class m
class-local EndOfList l m front head = refl
class-local NoOperation l m front head = refl
class-local Unsafe l m front head = refl
class-local Varying l m front head = ap₂ varying_step front head
class-local (Fixed a b) l m front head = ap₂ (λ (k : ℕ) (x : Option Header). fixed_step k a b x) front head

-- an option that was found is found by its own bytes and the list's length
pub step_local : (n : ℕ) (l m : List ℕ) (kind h s : ℕ) → length l ≡ length m → take n l ≡ take n m → s ≤ n → step_of l ≡ Found kind h s
    → step_of m ≡ Found kind h s
unfolding step_of
step_local n [] m kind h s len same fits e = absurd (let z : ◌≡◌ {A = ℕ} 0 1 = cc in omega arith)
step_local n (b ∷ bs) [] kind h s len same fits e = absurd (omega arith)
step_local n (b ∷ bs) (c ∷ cs) kind h s len same fits e =
    let f = step-found (b ∷ bs) kind h s e in
    let front : b ≡ c = byte-same n 0 (b ∷ bs) (c ∷ cs) same (omega (arith, f.sized.least)) in
    let heads : header_of (b ∷ bs) ≡ header_of (c ∷ cs) = f.headed ∙ sym (header-local n (b ∷ bs) (c ∷ cs) h s len same fits f.headed) in
    sym (class-local (class_of b) (b ∷ bs) (c ∷ cs) front heads ∙ ap (λ (k : ℕ). step_in (class_of k) (c ∷ cs)) front) ∙ e

-- a NOP is known by its one byte
pub nop-local : (b : ℕ) (bs cs : List ℕ) → step_of (b ∷ bs) ≡ Nop → step_of (b ∷ cs) ≡ Nop
unfolding step_of
nop-local b bs cs e = class-alone (class_of b) (b ∷ bs) (b ∷ cs) Nop refl e
