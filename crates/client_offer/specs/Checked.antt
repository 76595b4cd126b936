-- The number of the refusal that an offer meets, if there is one.
use Rattle.std.specs.Prelude.{ℕ, Result, Ok, Err}
use Rattle.std.proofs.Math.Option.{Option, none, some}
use Rattle.client_reassembly.specs.declared.Refusal.{Refusal}
use Rattle.client_reassembly.specs.Answer.{number_of}

abbrev pub checked_number : Result Unit Refusal → Option ℕ
checked_number (Err r) = some (number_of r)
checked_number (Ok u) = none
