-- What a host is told of a plan.
use Rattle.std.specs.Prelude.{ℕ, cond, leb}
use Rattle.client_record.specs.Limits.{assembly_limit, share_size}

-- the bytes of the store for a client of this plan; 0, which no client has, if there is no such plan
unfoldable pub share_for : ℕ → ℕ
share_for plan = cond (leb plan assembly_limit) (share_size plan) 0
