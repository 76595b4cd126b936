-- What contracts promise beside an equation with a definition.
use Rattle.std.specs.Prelude.{ℕ, ◌≤◌, ◌≡◌, length}
use Rattle.client_record.specs.declared.Assembly.{Assembly}
use Rattle.client_record.specs.Limits.{fragment_limit}
use Rattle.client_record.specs.Record.{held_fragments}

-- r is the number of fragments that a holds, and that many slots are there
pub record HeldCount (a : Assembly) (r : ℕ) : Type 0 where
  pub count : r ≡ length (held_fragments a)
  pub within : r ≤ fragment_limit
