-- The shape of a client's record: its lists are as long as the code's arrays, whatever they hold, and its plan
-- is at most the largest one.
use Rattle.std.specs.Prelude.{◌≤◌, ◌≡◌, Bool, true, eqb, length}
use Rattle.client_record.specs.declared.Assembly.{Assembly}
use Rattle.client_record.specs.declared.Client.{Client}
use Rattle.client_record.specs.Limits.{fragment_limit, assembly_limit}
use Rattle.client_record.specs.Lists.{all}

-- an assembly has as many slots as the code's array
unfoldable pub slotted : Assembly → Bool
slotted a = eqb (length a.fragments) fragment_limit

pub record Shaped (c : Client) : Type 0 where
  pub places : length c.assemblies ≡ assembly_limit
  pub slots : all slotted c.assemblies ≡ true
  pub plan : c.plan ≤ assembly_limit
