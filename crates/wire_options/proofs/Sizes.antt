-- How much a walk lists: no more options than it has room for, and bodies that are together no longer than the list. Each option is found whole in
-- what remains, its body behind its header, and the walk goes on behind it.
-- Assumes nothing.
use mathlib.Core.Path.{◌≡◌}
use mathlib.Core.List.{List, [], ◌∷◌}
use Prim.Native.Nat.{ℕ, ◌+◌, ◌-◌, ◌≤◌}
use native.Mathlib.Omega.{arith}
use lib.ListN.{length, length-take}
use Rattle.number_octets.specs.Octets.{part}
use Rattle.wire_step.proofs.Steps.{step-found}
use Rattle.wire_options.specs.Walk.{Located, listed, walk_from}
use Rattle.wire_options.proofs.Rests.{walk-all}

-- how long the bodies are together
abbrev pub body_sizes : List Located → ℕ
body_sizes [] = 0
body_sizes (option ∷ options) = length option.item.body + body_sizes options

-- so many options and so long bodies are listed of bytes, of which `skip` are passed over
pub record Bounded (room skip : ℕ) (l : List ℕ) (options : List Located) : Type 0 where
  pub few : length options ≤ room
  pub bodies : body_sizes options + skip ≤ length l

pub walk-bounded : (room skip : ℕ) (l : List ℕ) (options : List Located) (fill : ℕ) → skip ≤ length l → walk_from room skip l ≡ listed options fill
    → Bounded room skip l options
walk-bounded room skip l options fill h q =
    walk-all (λ room skip l options fill. skip ≤ length l → Bounded room skip l options)
    (λ room skip h. record { few = omega arith; bodies = omega arith })
    (λ room fill l f h. record { few = omega arith; bodies = omega arith })
    (λ room skip b bs options fill ih h. let i = ih (omega arith) in record { few = i.few; bodies = omega (arith, i.bodies) })
    (λ room l options fill some ih h. let i = ih (omega arith) in record { few = i.few; bodies = omega (arith, i.bodies) })
    (λ room l options fill kind header size e d ih h.
    let f = (step-found l kind header size e).sized in
    let i = ih f.fits in
    let body : length (part header (size - header) l) ≤ size = simp length-take (omega arith) in
    record { few = omega (arith, i.few); bodies = omega (arith, i.bodies) })
    l room skip options fill q h
