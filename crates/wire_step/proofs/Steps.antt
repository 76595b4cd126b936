-- Laws of one step: what an option that was found has of the list, and what follows for its size.
-- Assumes nothing.
use mathlib.Core.Path.{◌≡◌, refl, sym, ap, ap₂, ◌∙◌}
use mathlib.Core.Bool.{Bool, true, false, cond, ◌||◌}
use mathlib.Core.List.{List, [], ◌∷◌}
use mathlib.Core.Logic.{◌⊎◌, inl, inr, ⊎_elim}
use Prim.Native.Nat.{ℕ, ◌≤◌, ◌<◌}
use native.Mathlib.Omega.{arith}
use borrow.Author.Tests.{lt-leb, leb-true, eqb-true}
use lib.Dec.{eqb, leb}
use lib.ListN.{length, get_or}
use Rattle.number_octets.specs.Octets.{number, part}
use Rattle.number_tests.proofs.Tests.{true-false}
use Rattle.wire_step.specs.Kinds.{class_of, eol, nop, apc}
use Rattle.wire_step.specs.Step.{sound, within, extended, header_of, fixed_step, varying_step, step_in, step_of}
use Rattle.wire_step.specs.Sizes.{sized_step}
use Rattle.wire_step.specs.declared.Class.{Class}
use Rattle.wire_step.specs.declared.Class.TheVariants.{EndOfList, NoOperation, Fixed, Varying, Unsafe}
use Rattle.wire_step.specs.declared.Header.{Header}
use Rattle.std.proofs.Common.{Option, Some, None}
use Rattle.wire_step.specs.declared.Step.{Step}
use Rattle.wire_step.specs.declared.Step.TheVariants.{End, Eol, Nop, Found, Malformed, Outlawed}
use Rattle.wire_step.proofs.Classes.{class-end, class-nop, class-sized}

-- ---- headers

-- a sound header: where it stands in its option, and its option in the list
pub record Sized (l : List ℕ) (h s : ℕ) : Type 0 where
  pub least : 2 ≤ s
  pub head : h ≤ s
  pub fits : s ≤ length l
  pub short : s < 255 → h ≡ 2
  pub read : (s ≡ get_or l 1 0) ⊎ ((h ≡ 4) × (255 ≤ s) × (s ≡ number (part 2 2 l)))

sound-parts : (header : Header) (h s : ℕ) → Some header ≡ sound h s → (header.size ≡ h) × (header.whole ≡ s)
sound-parts header h s e =
    let same : header ≡ record { size = h; whole = s } = cc in
    (ap (λ (x : Header). x.size) same, ap (λ (x : Header). x.whole) same)

not_sound : (h s : ℕ) → None ≡ sound h s → ⊥
not_sound h s e = let z : ◌≡◌ {A = ℕ} 0 1 = cc in omega arith

within-sound : (l : List ℕ) (x y h s : ℕ) → (y ≤ length l → Sized l x y) → within (length l) x y ≡ sound h s → Sized l h s
within-sound l x y h s sized = go (leb y (length l)) refl
  where
    go : (t : Bool) → leb y (length l) ≡ t → cond t (sound x y) None ≡ sound h s → Sized l h s
    go false e q = absurd (not_sound h s q)
    go true e q =
        let parts = sound-parts _ h s q in
        rw (← parts.0, ← parts.1) (sized (leb-true y (length l) e))

extended-sound : (l : List ℕ) (h s : ℕ) → extended l ≡ sound h s → Sized l h s
extended-sound l h s = go (leb 4 (length l)) (leb 255 (number (part 2 2 l))) refl
  where
    go : (t u : Bool) → leb 255 (number (part 2 2 l)) ≡ u
        → cond t (cond u (within (length l) 4 (number (part 2 2 l))) None) None ≡ sound h s → Sized l h s
    go false u e q = absurd (not_sound h s q)
    go true false e q = absurd (not_sound h s q)
    go true true e q =
        let big : 255 ≤ number (part 2 2 l) = leb-true 255 (number (part 2 2 l)) e in
        within-sound l 4 (number (part 2 2 l)) h s
        (λ f. record { least = omega arith; head = omega arith; fits = f; short = λ u. absurd (omega arith); read = inr (refl, big, refl) }) q

-- what has no 255 bytes has no extended form
pub extended-short : (l : List ℕ) → length l < 255 → extended l ≡ None
extended-short l h = go (leb 4 (length l)) (leb 255 (number (part 2 2 l))) refl
  where
    go : (t u : Bool) → leb 255 (number (part 2 2 l)) ≡ u → cond t (cond u (within (length l) 4 (number (part 2 2 l))) None) None ≡ None
    go false u e = refl
    go true false e = refl
    go true true e = simp (lt-leb (number (part 2 2 l)) (length l) (omega (arith, leb-true 255 (number (part 2 2 l)) e)))

pub header-sound : (l : List ℕ) (h s : ℕ) → header_of l ≡ sound h s → Sized l h s
unfolding header_of
header-sound l h s = go (leb 2 (length l)) (eqb (get_or l 1 0) 255) (leb 2 (get_or l 1 0)) refl
  where
    go : (t u v : Bool) → leb 2 (get_or l 1 0) ≡ v
        → cond t (cond u (extended l) (cond v (within (length l) 2 (get_or l 1 0)) None)) None ≡ sound h s → Sized l h s
    go false u v e q = absurd (not_sound h s q)
    go true true v e q = extended-sound l h s q
    go true false false e q = absurd (not_sound h s q)
    go true false true e q =
        let two : 2 ≤ get_or l 1 0 = leb-true 2 (get_or l 1 0) e in
        within-sound l 2 (get_or l 1 0) h s (λ f. record { least = two; head = two; fits = f; short = λ u. refl; read = inl refl }) q

-- a kind with a header is stepped over by what its class says of the length there
pub step-sized : (l : List ℕ) (k : ℕ) → 2 ≤ k → k ≤ 191 → step_in (class_of k) l ≡ sized_step (class_of k) (get_or l 0 0) (header_of l)
step-sized l k low high =
    class-sized k (λ (c : Class). step_in c l ≡ sized_step c (get_or l 0 0) (header_of l)) low high (λ a b. fixed a b (header_of l)) (varying (header_of l))
  where
    fixed : (a b : ℕ) (h : Option Header) → fixed_step (get_or l 0 0) a b h ≡ sized_step (Fixed a b) (get_or l 0 0) h
    fixed a b (Some header) = refl
    fixed a b None = refl

    varying : (h : Option Header) → varying_step (get_or l 0 0) h ≡ sized_step Varying (get_or l 0 0) h
    varying (Some header) = refl
    varying None = refl

-- ---- options

pub record FoundIn (l : List ℕ) (kind header size : ℕ) : Type 0 where
  pub front : kind ≡ get_or l 0 0
  pub headed : header_of l ≡ sound header size
  pub sized : Sized l header size
  pub fixed : (a b : ℕ) → class_of kind ≡ Fixed a b → (size ≡ a) ⊎ (size ≡ b)

either : (s t : Bool) (m a b : ℕ) → eqb m a ≡ s → eqb m b ≡ t → (s || t) ≡ true → (m ≡ a) ⊎ (m ≡ b)
either true t m a b p q e = inl (eqb-true m a p)
either false true m a b p q e = inr (eqb-true m b q)
either false false m a b p q e = absurd (let z : ◌≡◌ {A = ℕ} 0 1 = cc in omega arith)

fixed-found : (l : List ℕ) (k a b : ℕ) (header : Option Header) (kind h s : ℕ) → header_of l ≡ header → fixed_step k a b header ≡ Found kind h s
    → (k ≡ kind) × (header_of l ≡ sound h s) × ((s ≡ a) ⊎ (s ≡ b))
fixed-found l k a b None kind h s e q = absurd (let z : ◌≡◌ {A = ℕ} 0 1 = cc in omega arith)
fixed-found l k a b (Some header) kind h s e q = go (eqb y a || eqb y b) refl q
  where
    x : ℕ
    x = header.size

    y : ℕ
    y = header.whole

    go : (t : Bool) → (eqb y a || eqb y b) ≡ t → cond t (Found k x y) Malformed ≡ Found kind h s
        → (k ≡ kind) × (header_of l ≡ sound h s) × ((s ≡ a) ⊎ (s ≡ b))
    go false p r = absurd (let z : ◌≡◌ {A = ℕ} 0 1 = cc in omega arith)
    go true p r =
        let size : x ≡ h = cc in
        let same : y ≡ s = cc in
        (cc, e ∙ ap₂ sound size same, ⊎_elim (λ u. inl (sym same ∙ u)) (λ u. inr (sym same ∙ u)) (either (eqb y a) (eqb y b) y a b refl refl p))

varying-found : (l : List ℕ) (k : ℕ) (header : Option Header) (kind h s : ℕ) → header_of l ≡ header → varying_step k header ≡ Found kind h s
    → (k ≡ kind) × (header_of l ≡ sound h s)
varying-found l k None kind h s e q = absurd (let z : ◌≡◌ {A = ℕ} 0 1 = cc in omega arith)
varying-found l k (Some header) kind h s e q =
    let size : header.size ≡ h = cc in
    let whole : header.whole ≡ s = cc in
    (cc, e ∙ ap₂ sound size whole)

class-found : (l : List ℕ) (class : Class) (kind h s : ℕ) → class_of (get_or l 0 0) ≡ class → step_in class l ≡ Found kind h s → FoundIn l kind h s
class-found l EndOfList kind h s c q = absurd (let z : ◌≡◌ {A = ℕ} 0 1 = cc in omega arith)
class-found l NoOperation kind h s c q = absurd (let z : ◌≡◌ {A = ℕ} 0 1 = cc in omega arith)
class-found l Unsafe kind h s c q = absurd (let z : ◌≡◌ {A = ℕ} 0 1 = cc in omega arith)
class-found l (Fixed a b) kind h s c q =
    let f = fixed-found l (get_or l 0 0) a b (header_of l) kind h s refl q in
    record {
      front = sym f.0;
      headed = f.1;
      sized = header-sound l h s f.1;
      fixed = λ x y e.
          let at : Fixed a b ≡ Fixed x y = sym c ∙ ap class_of f.0 ∙ e in
          let left : a ≡ x = cc in
          let right : b ≡ y = cc in
          ⊎_elim (λ u. inl (u ∙ left)) (λ u. inr (u ∙ right)) f.2;
    }
class-found l Varying kind h s c q =
    let f = varying-found l (get_or l 0 0) (header_of l) kind h s refl q in
    record {
      front = sym f.0;
      headed = f.1;
      sized = header-sound l h s f.1;
      fixed = λ x y e.
          let at : Varying ≡ Fixed x y = sym c ∙ ap class_of f.0 ∙ e in
          absurd (let z : ◌≡◌ {A = ℕ} 0 1 = cc in omega arith);
    }

pub step-found : (l : List ℕ) (kind h s : ℕ) → step_of l ≡ Found kind h s → FoundIn l kind h s
unfolding step_of
step-found [] kind h s e = absurd (let z : ◌≡◌ {A = ℕ} 0 1 = cc in omega arith)
step-found (b ∷ bs) kind h s e = class-found (b ∷ bs) (class_of b) kind h s refl e

-- an APC has its 32 bits right behind a short header
pub apc-found : (l : List ℕ) (h s : ℕ) → step_of l ≡ Found apc h s → (h ≡ 2) × (s ≡ 6) × (6 ≤ length l)
unfolding class_of
apc-found l h s e =
    let f = step-found l apc h s e in
    let six : s ≡ 6 = ⊎_elim (λ u. u) (λ u. u) (f.fixed 6 6 refl) in
    (f.sized.short (omega arith), six, omega (arith, f.sized.fits))

-- ---- steps of one byte

-- an option, sound or not, has a header; the other steps are told apart by their kind byte
abbrev has_header : Step → Bool
has_header (Found kind header size) = true
has_header Malformed = true
has_header End = false
has_header Eol = false
has_header Nop = false
has_header Outlawed = false

varying-header : (k : ℕ) (header : Option Header) → has_header (varying_step k header) ≡ true
varying-header k None = refl
varying-header k (Some header) = refl

fixed-header : (k a b : ℕ) (header : Option Header) → has_header (fixed_step k a b header) ≡ true
fixed-header k a b None = refl
fixed-header k a b (Some header) = go (eqb header.whole a || eqb header.whole b)
  where
    go : (t : Bool) → has_header (cond t (Found k header.size header.whole) Malformed) ≡ true
    go true = refl
    go false = refl

-- where there is no header, the class alone says the step
pub class-alone : (class : Class) (l m : List ℕ) (step : Step) → has_header step ≡ false → step_in class l ≡ step → step_in class m ≡ step
class-alone EndOfList l m step n e = e
class-alone NoOperation l m step n e = e
class-alone Unsafe l m step n e = e
class-alone Varying l m step n e =
    absurd (true-false (sym (varying-header (get_or l 0 0) (header_of l)) ∙ ap has_header e ∙ n))
class-alone (Fixed a b) l m step n e =
    absurd (true-false (sym (fixed-header (get_or l 0 0) a b (header_of l)) ∙ ap has_header e ∙ n))

end-class : (class : Class) → step_in class [] ≡ Eol → class ≡ EndOfList
unfolding header_of
end-class EndOfList e = refl
end-class NoOperation e = absurd (let z : ◌≡◌ {A = ℕ} 0 1 = cc in omega arith)
end-class Unsafe e = absurd (let z : ◌≡◌ {A = ℕ} 0 1 = cc in omega arith)
end-class Varying e = absurd (let z : ◌≡◌ {A = ℕ} 0 1 = cc in omega arith)
end-class (Fixed a b) e = absurd (let z : ◌≡◌ {A = ℕ} 0 1 = cc in omega arith)

nop-class : (class : Class) → step_in class [] ≡ Nop → class ≡ NoOperation
unfolding header_of
nop-class NoOperation e = refl
nop-class EndOfList e = absurd (let z : ◌≡◌ {A = ℕ} 0 1 = cc in omega arith)
nop-class Unsafe e = absurd (let z : ◌≡◌ {A = ℕ} 0 1 = cc in omega arith)
nop-class Varying e = absurd (let z : ◌≡◌ {A = ℕ} 0 1 = cc in omega arith)
nop-class (Fixed a b) e = absurd (let z : ◌≡◌ {A = ℕ} 0 1 = cc in omega arith)

-- EOL and NOP are known by their byte
pub eol-byte : (b : ℕ) (bs : List ℕ) → step_of (b ∷ bs) ≡ Eol → b ≡ eol
unfolding step_of
eol-byte b bs e = class-end b (end-class (class_of b) (class-alone (class_of b) (b ∷ bs) [] Eol refl e))

pub nop-byte : (b : ℕ) (bs : List ℕ) → step_of (b ∷ bs) ≡ Nop → b ≡ nop
unfolding step_of
nop-byte b bs e = class-nop b (nop-class (class_of b) (class-alone (class_of b) (b ∷ bs) [] Nop refl e))

pub nop-step : (bs : List ℕ) → step_of (nop ∷ bs) ≡ Nop
unfolding step_of class_of
nop-step bs = refl
