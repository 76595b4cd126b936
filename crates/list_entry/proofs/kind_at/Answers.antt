-- `list_entry::kind_at` meets its contract: each arm is a row of the table, where `shape_of` computes or is a law of `Shapes`.
use mathlib.Core.Path.{sym, ap, ◌∙◌}
use Prim.Native.Nat.{ℕ}
use native.Mathlib.Omega.{arith}
use Rattle.list_entry.specs.Shape.{shape_of}
use Rattle.list_entry.specs.Option.{given}
use Rattle.list_entry.specs.Answer.{numbers}
use Rattle.list_entry.proofs.Shapes.{shape-raw, shape-token, shape-barred, shape-low}
use Rattle.list_entry.proofs.Places.{place_of}
use Rattle.list_entry.proofs.Entries.{kind-barred, kind-none, kind-one, kind-two}
use Rattle.list_entry.proofs.kind_at.Goals as goal

pub raw_body-requires : goal.raw_body-requires
raw_body-requires c = shape-raw _ (omega arith) (omega arith)

pub returns-in-2 : goal.returns-in-2
unfolding shape_of
returns-in-2 c = sym (kind-none _ _ _ (ap shape_of c.in-2.is)
    ∙ ap (λ (n : ℕ). given (numbers c.args.kind 0 0 n)) (place_of c.args.list.now c.args.at c.requires))

pub returns-in-4 : goal.returns-in-4
unfolding shape_of
returns-in-4 c = c.one_field.ensures ∙ sym (kind-one _ _ _ 2 (ap shape_of c.in-4.is))

pub returns-in-5 : goal.returns-in-5
unfolding shape_of
returns-in-5 c = c.two_fields.ensures ∙ sym (kind-two _ _ _ 2 1 (ap shape_of c.in-5.is))

pub returns-in-8 : goal.returns-in-8
unfolding shape_of
returns-in-8 c = c.two_fields-in-8.ensures ∙ sym (kind-two _ _ _ 4 4 (ap shape_of c.in-8.is))

pub returns-in-6 : goal.returns-in-6
returns-in-6 c = c.one_field-in-6.ensures ∙ sym (kind-one _ _ _ 4 (shape-token _ (omega arith) (omega arith)))

pub returns-in-192-to-255 : goal.returns-in-192-to-255
returns-in-192-to-255 c = sym (kind-barred _ _ _ (shape-barred _ (omega arith)))

pub returns-in-0 : goal.returns-in-0
unfolding shape_of
returns-in-0 c = sym (kind-barred _ _ _ (ap shape_of c.in-0.is))

pub returns-in-0-2 : goal.returns-in-0-2
returns-in-0-2 c = sym (kind-barred _ _ _ (shape-low _ (omega arith)))
