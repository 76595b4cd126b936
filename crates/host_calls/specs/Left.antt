-- What each exported call on a table answers and leaves: the value of include/wuraketozo.h for the answer of the papers, and all that was
-- lent. `host_wire` and `host_options` have the calls without a table.
use Rattle.std.specs.Prelude.{ℕ, ◌≡◌, List}
use Rattle.client_record.specs.declared.Client.{Client}
use Rattle.table_rules.specs.Table.{After}
use Rattle.table_receiver.specs.Receive.{Receipt}
use Rattle.host_values.specs.Answer.{host_answer, host_fate}
use Rattle.host_values.specs.declared.Answer.{Answer}
use Rattle.host_values.specs.declared.Received.{Received}

-- a call on a table
pub record Leaves (a : After) (answer : Answer) (records : List Client) (store out : List ℕ) : Type 0 where
  pub answers : answer ≡ host_answer a.reply
  pub records_left : records ≡ a.table.records
  pub store_left : store ≡ a.table.store
  pub out_left : out ≡ a.out

-- a datagram that arrived
pub record Receives (o : Receipt) (answer : Received) (records : List Client) (store out : List ℕ) : Type 0 where
  pub answers : answer ≡ host_fate o.fate
  pub records_left : records ≡ o.table.records
  pub store_left : store ≡ o.table.store
  pub out_left : out ≡ o.out
