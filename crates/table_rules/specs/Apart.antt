-- What holds of the clients of any table whose records and shares have the code's shape, wherever they came from: the sum for records that pass the
-- record test, and that nothing of other clients shows. The books have no part in this.
use Rattle.std.specs.Prelude.{ℕ, ◌+◌, ◌<◌, ◌≡◌, true, List, length}
use Rattle.client_record.specs.declared.Client.{Client}
use Rattle.client_record.specs.Record.{sound_record}
use Rattle.client_ledger.specs.Shapes.{Shaped}
use Rattle.client_ledger.specs.History.{Ask}
use Rattle.table_rules.specs.Table.{Table, lent_of, sized, share_of, record_of, reset_on, ask_on}
use Rattle.table_rules.specs.Events.{Event, final, gives, Keeps, own_only}

-- "offered = held + delivered + expired + clashed + repeated + turned away"
abbrev pub Sums : Client → Type 0
Sums c = c.offered ≡ c.held + c.delivered + c.expired + c.conflicted + c.repeated + c.rejected

-- the table has the sizes that 20 asks for and plans that 32 lets pass, and every record and share has the code's shape; the records may hold anything
pub record Formed (t : Table) : Type 0 where
  pub fit : sized (lent_of t) ≡ true
  pub each : (k : ℕ) → k < length t.records → Shaped (record_of k t) (share_of k t)

-- client k's record passes the record test, if there is one
abbrev pub Tested : ℕ → Table → Type 0
Tested k t = k < length t.records → sound_record (record_of k t) ≡ true

-- client k has the same in both tables, its plan too, and there are as many clients; the plans of the others may differ
pub record Same (k : ℕ) (t t' : Table) : Type 0 where
  pub count : length t.records ≡ length t'.records
  pub client : record_of k t ≡ record_of k t'
  pub share : share_of k t ≡ share_of k t'

pub record Apart : Type 0 where
  -- the record test passes again after every list, whatever other clients' records hold, and with it comes the sum
  pub tested : (k : ℕ) (t : Table) (es : List Event) → Formed t → Tested k t → Keeps es → Tested k (final t es)
  pub sum : (k : ℕ) (t : Table) (es : List Event) → Formed t → Tested k t → Keeps es → k < length (final t es).records
      → Sums (record_of k (final t es))
  -- two tables in which client k has the same, and two lists that differ in other clients' calls alone: client k gets the same answers and bytes,
  -- and has the same again
  pub isolation : (k : ℕ) (t t' : Table) (es es' : List Event) → Formed t → Formed t' → Same k t t' → Keeps es → Keeps es'
      → own_only k es ≡ own_only k es' → (gives k t es ≡ gives k t' es') × Same k (final t es) (final t' es')
  -- and two tables that had the same sizes and plans have the same again
  pub sizes : (k : ℕ) (t t' : Table) (es es' : List Event) → Formed t → Formed t' → Keeps es → Keeps es' → own_only k es ≡ own_only k es'
      → lent_of t ≡ lent_of t' → lent_of (final t es) ≡ lent_of (final t' es')
  -- a fragment, clock or account call changes no client's plan and no share's place; a set-up keeps the plans that it reads
  pub plans_kept : (t : Table) → Formed t → (k : ℕ) (a : Ask) → lent_of (ask_on k a t).table ≡ lent_of t
  pub plans_read : (t : Table) → lent_of (reset_on t).table ≡ lent_of t
