-- `list_encoding::check::fields_length` meets its contract: each arm is a row of the table of kinds, and other kinds have no field.
use mathlib.Core.Path.{sym, ap}
use native.Mathlib.Omega.{arith}
use Rattle.list_entry.specs.Shape.{shape_of}
use Rattle.list_entry.specs.Option.{total}
use Rattle.list_encoding.specs.Wire.{fields_on_wire}
use Rattle.list_encoding.proofs.Checks.{fields-token, fields-none}
use Rattle.list_encoding.proofs.check.fields_length.Goals as goal

pub returns-in-2 : goal.returns-in-2
unfolding fields_on_wire shape_of total
returns-in-2 c = ap fields_on_wire (sym c.in-2.is)

pub returns-in-4 : goal.returns-in-4
unfolding fields_on_wire shape_of total
returns-in-4 c = ap fields_on_wire (sym c.in-4.is)

pub returns-in-5 : goal.returns-in-5
unfolding fields_on_wire shape_of total
returns-in-5 c = ap fields_on_wire (sym c.in-5.is)

pub returns-in-8 : goal.returns-in-8
unfolding fields_on_wire shape_of total
returns-in-8 c = ap fields_on_wire (sym c.in-8.is)

pub returns-in-6 : goal.returns-in-6
returns-in-6 c = sym (fields-token _ (omega arith) (omega arith))

pub returns-in_default : goal.returns-in_default
returns-in_default c = sym (fields-none _ (λ e. omega arith) (λ e. omega arith) (λ e. omega arith) (λ e. omega arith) (λ e. omega arith) (λ e. omega arith))

pub returns-in_default-2 : goal.returns-in_default-2
returns-in_default-2 c = sym (fields-none _ (λ e. omega arith) (λ e. omega arith) (λ e. omega arith) (λ e. omega arith) (λ e. omega arith) (λ e. omega arith))
