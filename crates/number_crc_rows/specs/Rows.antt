-- What a field of the table holds.
use Rattle.std.specs.Prelude.{ℕ, ◌+◌, ◌*◌}
use Rattle.number_crc_steps.specs.Steps.{steps}

-- where a number has come to after `more` and after `fewer` bits, both in one number
unfoldable pub two : ℕ → ℕ → ℕ → ℕ
two more fewer n = steps more n * 4294967296 + steps fewer n
