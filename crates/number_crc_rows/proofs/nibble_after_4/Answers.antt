-- `number_crc_rows::nibble_after_4` meets its contract: each entry is computed. Written by tools/crc/rows.py.
use Rattle.number_crc_steps.specs.Steps.{steps, bit_step, polynomial}
use mathlib.Core.Path.{refl, sym, ap}
use Rattle.number_crc_rows.proofs.Rows.{at, last}
use Rattle.number_crc_rows.proofs.nibble_after_4.Goals as goal

pub returns-in-16 : goal.returns-in-16
unfolding steps bit_step polynomial
returns-in-16 c = sym (ap (steps 4) (at 16 0 c.in-16.is))

pub returns-in-17 : goal.returns-in-17
unfolding steps bit_step polynomial
returns-in-17 c = sym (ap (steps 4) (at 16 1 c.in-17.is))

pub returns-in-18 : goal.returns-in-18
unfolding steps bit_step polynomial
returns-in-18 c = sym (ap (steps 4) (at 16 2 c.in-18.is))

pub returns-in-19 : goal.returns-in-19
unfolding steps bit_step polynomial
returns-in-19 c = sym (ap (steps 4) (at 16 3 c.in-19.is))

pub returns-in-20 : goal.returns-in-20
unfolding steps bit_step polynomial
returns-in-20 c = sym (ap (steps 4) (at 16 4 c.in-20.is))

pub returns-in-21 : goal.returns-in-21
unfolding steps bit_step polynomial
returns-in-21 c = sym (ap (steps 4) (at 16 5 c.in-21.is))

pub returns-in-22 : goal.returns-in-22
unfolding steps bit_step polynomial
returns-in-22 c = sym (ap (steps 4) (at 16 6 c.in-22.is))

pub returns-in-23 : goal.returns-in-23
unfolding steps bit_step polynomial
returns-in-23 c = sym (ap (steps 4) (at 16 7 c.in-23.is))

pub returns-in-24 : goal.returns-in-24
unfolding steps bit_step polynomial
returns-in-24 c = sym (ap (steps 4) (at 16 8 c.in-24.is))

pub returns-in-25 : goal.returns-in-25
unfolding steps bit_step polynomial
returns-in-25 c = sym (ap (steps 4) (at 16 9 c.in-25.is))

pub returns-in-26 : goal.returns-in-26
unfolding steps bit_step polynomial
returns-in-26 c = sym (ap (steps 4) (at 16 10 c.in-26.is))

pub returns-in-27 : goal.returns-in-27
unfolding steps bit_step polynomial
returns-in-27 c = sym (ap (steps 4) (at 16 11 c.in-27.is))

pub returns-in-28 : goal.returns-in-28
unfolding steps bit_step polynomial
returns-in-28 c = sym (ap (steps 4) (at 16 12 c.in-28.is))

pub returns-in-29 : goal.returns-in-29
unfolding steps bit_step polynomial
returns-in-29 c = sym (ap (steps 4) (at 16 13 c.in-29.is))

pub returns-in-30 : goal.returns-in-30
unfolding steps bit_step polynomial
returns-in-30 c = sym (ap (steps 4) (at 16 14 c.in-30.is))

pub returns-in_default : goal.returns-in_default
unfolding steps bit_step polynomial
returns-in_default c = sym (ap (steps 4) (last 16 15 c.requires c.in_default.in_default-own.rest refl))
