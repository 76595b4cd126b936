-- The loop's invariant: the first records are fresh, each with its plan, and the rest are as they were.
use mathlib.Core.List.{◌++◌, map}
use mathlib.Core.Path.{◌≡◌}
use lib.ListN.{take, drop}
use Rattle.client_record.specs.declared.Client.{Client}
use Rattle.client_record.specs.Record.{fresh_client}
use Rattle.table_calls.proofs.reset.Given as goal

abbrev pub anew : Client → Client
anew c = fresh_client c.plan

abbrev pub invariant-loop-record : goal.invariant-loop-record
invariant-loop-record l = l.record-items ≡ map anew (take l.record-index l.fn.records) ++ drop l.record-index l.fn.records
