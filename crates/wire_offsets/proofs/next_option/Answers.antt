-- `wire_offsets::next_option` meets its contract: the step behind the NOPs is that at which `next_by` computes.
use mathlib.Core.Path.{◌≡◌, refl, sym, ap, ◌∙◌}
use mathlib.Core.List.{List}
use Prim.Native.Nat.{ℕ, ◌-◌}
use lib.ListN.{length, drop}
use Rattle.number_octets.specs.Octets.{part}
use Rattle.number_octets.proofs.Laws.{part-rest}
use Rattle.wire_nops.specs.Nops.{nops_of}
use Rattle.wire_step.specs.Step.{step_of}
use Rattle.wire_step.specs.declared.Step.{Step}
use Rattle.wire_step.specs.declared.Step.TheVariants.{End, Eol, Nop, Found as OptionStep, Malformed, Outlawed}
use Rattle.std.specs.Prelude.{None}
use Rattle.wire_offsets.specs.Next.{next_by, next_of}
use Rattle.wire_offsets.proofs.next_option.Goals as goal

next-is : (l : List ℕ) (nops : ℕ) (result : Step) → nops ≡ nops_of l → result ≡ step_of (part nops (length l - nops) l) → next_by nops result ≡ next_of l
unfolding next_of
next-is l nops result n e = ap (next_by nops) (e ∙ ap step_of (part-rest nops l)) ∙ ap (λ (k : ℕ). next_by k (step_of (drop k l))) n

-- where the step is no option's, none comes
no_option : (at : ℕ) (step : Step) → ((kind header size : ℕ) → step ≡ OptionStep kind header size → ⊥) → None ≡ next_by at step
no_option at (OptionStep kind header size) other = absurd (other kind header size refl)
no_option at End other = refl
no_option at Eol other = refl
no_option at Nop other = refl
no_option at Malformed other = refl
no_option at Outlawed other = refl

pub returns-in_default : goal.returns-in_default
returns-in_default c =
    no_option c.leading_nops-at.result c.next.result c.in_default.not-Found
    ∙ next-is c.args.list.now c.leading_nops-at.result c.next.result c.leading_nops-at.ensures.0 c.next.ensures

pub returns : goal.returns
returns c =
    ap (next_by c.leading_nops-at.result) (sym c.in-Found.is)
    ∙ next-is c.args.list.now c.leading_nops-at.result c.next.result c.leading_nops-at.ensures.0 c.next.ensures
