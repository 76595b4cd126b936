-- The shape of a client's record and share: as the code's arrays and its part of the store are, whatever they hold.
use Rattle.std.specs.Prelude.{ℕ, ◌≡◌, List, length}
use Rattle.client_record.specs.declared.Client.{Client}
use Rattle.client_record.specs.Limits.{share_size}
use Rattle.client_reassembly.specs.Shapes as Record

-- the lists are as long as the code's arrays, and the share is as long as the plan says
pub record Shaped (c : Client) (share : List ℕ) : Type 0 where
  pub lists : Record.Shaped c
  pub size : length share ≡ share_size c.plan
