-- The fill of a walk without fault: it stands at the end of the list, behind what was walked, and is zero bytes throughout (document 02, R-2).
-- Assumes nothing.
use mathlib.Core.Path.{◌≡◌, refl, ap, ◌∙◌}
use mathlib.Core.List.{List, ◌∷◌}
use Prim.Native.Nat.{ℕ, suc, ◌-◌, ◌≤◌}
use native.Mathlib.Omega.{arith}
use lib.ListN.{length, drop}
use Rattle.wire_step.proofs.Steps.{step-found}
use Rattle.wire_options.specs.Walk.{Located, listed, walk_from}
use Rattle.wire_options.proofs.Rests.{Fills, walk-all}

pub walk-fills : (room skip : ℕ) (l : List ℕ) (options : List Located) (fill : ℕ) → skip ≤ length l → walk_from room skip l ≡ listed options fill
    → Fills skip l fill
walk-fills room skip l options fill h q =
    walk-all (λ room skip l options fill. skip ≤ length l → Fills skip l fill)
    (λ room skip h. record { within = omega arith; zeros = refl })
    (λ room fill l f h. f)
    (λ room skip b bs options fill ih h.
    let i = ih (omega arith) in
    let one : suc (length bs) - fill ≡ suc (length bs - fill) = omega (arith, i.within) in
    record { within = omega (arith, i.within); zeros = ap (λ (n : ℕ). drop n (b ∷ bs)) one ∙ i.zeros })
    (λ room l options fill some ih h. let i = ih (omega arith) in record { within = omega (arith, i.within); zeros = i.zeros })
    (λ room l options fill kind header size e d ih h.
    let i = ih (step-found l kind header size e).sized.fits in
    record { within = omega (arith, i.within); zeros = i.zeros })
    l room skip options fill q h
