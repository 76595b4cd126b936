-- What a walk comes to is the end of its list: as many bytes as remain, and they are the list's.
-- Assumes nothing.
use mathlib.Core.Path.{◌≡◌, sym, ap, ◌∙◌}
use mathlib.Core.List.{List, ◌∷◌}
use Prim.Native.Nat.{ℕ, suc, ◌+◌, ◌-◌, ◌≤◌}
use native.Mathlib.Omega.{arith}
use lib.ListN.{length, drop, get_or, length-drop}
use lib.Seq.{drop-drop, get_or-drop}
use Rattle.wire_nops.specs.Nops.{nop}
use Rattle.wire_step.proofs.Steps.{step-found}
use Rattle.wire_options.proofs.Paddings.{Comes, here, over_nop, over_option}
use Rattle.wire_offsets.specs.Places.{place_before}

pub record Suffix (l m : List ℕ) : Type 0 where
  pub within : length m ≤ length l
  pub rest : m ≡ drop (place_before l (length m)) l

pub comes-suffix : {room left : ℕ} {l m : List ℕ} → Comes room l left m → Suffix l m
comes-suffix (here {left} {m}) =
    let none : 0 ≡ length m - length m = omega arith in
    record { within = omega arith; rest = ap (λ (n : ℕ). drop n m) none }
comes-suffix (over_nop {room} {left} {bs} {m} c) =
    let s = comes-suffix c in
    let one : suc (length bs - length m) ≡ suc (length bs) - length m = omega (arith, s.within) in
    record { within = omega (arith, s.within); rest = s.rest ∙ ap (λ (n : ℕ). drop n (nop ∷ bs)) one }
comes-suffix (over_option {room} {left} {l} {m} kind header size e other c) =
    let s = comes-suffix c in
    let f = (step-found l kind header size e).sized in
    let left : length (drop size l) ≡ length l - size = length-drop size l in
    let all : size + (length (drop size l) - length m) ≡ length l - length m = omega (arith, s.within, f.fits) in
    record {
      within = omega (arith, s.within);
      rest = s.rest ∙ drop-drop (length (drop size l) - length m) size l ∙ ap (λ (n : ℕ). drop n l) all;
    }

module _ {l m : List ℕ} (s : Suffix l m) where
  -- each byte of the end at its place in the list
  pub suffix-byte : (i : ℕ) → i ≤ length m → get_or l (place_before l (length m - i)) 0 ≡ get_or m i 0
  suffix-byte i h =
      let at : length l - length m + i ≡ length l - (length m - i) = omega (arith, s.within) in
      sym (ap (λ (x : List ℕ). get_or x i 0) s.rest ∙ get_or-drop (length l - length m) l i 0 ∙ ap (λ (n : ℕ). get_or l n 0) at)
