-- What `next_option` finds is the option that the step behind the NOPs finds: it lies in the list with its header in front.
-- Assumes nothing.
use mathlib.Core.Path.{◌≡◌, refl, sym, ap, ◌∙◌}
use mathlib.Core.List.{List}
use Prim.Native.Nat.{ℕ, ◌+◌, ◌≤◌}
use native.Mathlib.Omega.{arith}
use lib.ListN.{length, drop, length-drop}
use Rattle.wire_nops.specs.Nops.{nops_of}
use Rattle.wire_step.specs.Step.{step_of}
use Rattle.wire_step.specs.declared.Step.{Step}
use Rattle.wire_step.specs.declared.Step.TheVariants.{End, Eol, Nop, Found as OptionStep, Malformed, Outlawed}
use Rattle.wire_step.proofs.Steps.{step-found}
use Rattle.wire_offsets.specs.Next.{next_by, next_of}
use Rattle.std.specs.Prelude.{Some}
use Rattle.wire_offsets.specs.declared.Found.{Found}

module _ (l : List ℕ) (at kind header size : ℕ) (e : next_of l ≡ Some (record { at = at; header = header; kind = kind; size = size })) where
  -- the step there
  pub next-step : step_of (drop at l) ≡ OptionStep kind header size
  unfolding next_of
  next-step = go (step_of (drop (nops_of l) l)) refl e
    where
      go : (step : Step) → step_of (drop (nops_of l) l) ≡ step → next_by (nops_of l) step ≡ Some (record { at = at; header = header; kind = kind; size = size }) → step_of (drop at l) ≡ OptionStep kind header size
      go End s q = cc
      go Eol s q = cc
      go Nop s q = cc
      go Malformed s q = cc
      go Outlawed s q = cc
      go (OptionStep k h n) s q =
          let found : ◌≡◌ {A = Found} (record { at = nops_of l; header = h; kind = k; size = n }) (record { at = at; header = header; kind = kind; size = size }) = cc in
          let there : nops_of l ≡ at = ap (λ (f : Found). f.at) found in
          let same : OptionStep k h n ≡ OptionStep kind header size = ap (λ (f : Found). OptionStep f.kind f.header f.size) found in
          ap (λ (i : ℕ). step_of (drop i l)) (sym there) ∙ s ∙ same

  pub next_fits : (header ≤ size) × (at + size ≤ length l)
  next_fits =
      let f = (step-found (drop at l) kind header size next-step).sized in
      (f.head, omega (arith, f.least, f.fits, length-drop at l))
