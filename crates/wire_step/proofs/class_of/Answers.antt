-- `wire_step::class_of` meets its contract: each arm is a row of the table (`class_of` computes there), and ranges are laws of `Classes`.
use mathlib.Core.Path.{sym, ap}
use native.Mathlib.Omega.{arith}
use Rattle.wire_step.specs.Kinds.{class_of}
use Rattle.wire_step.proofs.Classes.{class-token, class-varying, class-unsafe}
use Rattle.wire_step.proofs.class_of.Goals as goal

pub returns-in-0 : goal.returns-in-0
unfolding class_of
returns-in-0 c = ap class_of (sym c.in-0.is)

pub returns-in-1 : goal.returns-in-1
unfolding class_of
returns-in-1 c = ap class_of (sym c.in-1.is)

pub returns-in-2 : goal.returns-in-2
unfolding class_of
returns-in-2 c = ap class_of (sym c.in-2.is)

pub returns-in-3 : goal.returns-in-3
unfolding class_of
returns-in-3 c = ap class_of (sym c.in-3.is)

pub returns-in-4 : goal.returns-in-4
unfolding class_of
returns-in-4 c = ap class_of (sym c.in-4.is)

pub returns-in-5 : goal.returns-in-5
unfolding class_of
returns-in-5 c = ap class_of (sym c.in-5.is)

pub returns-in-8 : goal.returns-in-8
unfolding class_of
returns-in-8 c = ap class_of (sym c.in-8.is)

pub returns-in-6 : goal.returns-in-6
returns-in-6 c = sym (class-token c.args.kind (omega arith) (omega arith))

pub returns-in-9-to-191 : goal.returns-in-9-to-191
returns-in-9-to-191 c = sym (class-varying c.args.kind (omega arith) (omega arith))

pub returns-in-192-to-255 : goal.returns-in-192-to-255
returns-in-192-to-255 c = sym (class-unsafe c.args.kind (omega arith))
