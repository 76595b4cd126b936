-- What an admission says, in the papers' numbers, and what its functions promise.
use Rattle.std.specs.Prelude.{ℕ, ◌*◌, ◌≤◌, ◌≡◌, not, [], ◌∷◌, leb, eqb, Result, Ok, Err, IfOk}
use Rattle.std.proofs.Math.Option.{Option, none, some}
use Rattle.number_tests.specs.Tests.{first_of}
use Rattle.client_record.specs.Limits.{share_size, assembly_limit, client_limit}
use Rattle.client_reassembly.specs.declared.Refusal.{Refusal}
use Rattle.client_reassembly.specs.Answer.{number_of}
use Rattle.client_ledger.specs.History.{Lent}
use Rattle.table_rules.specs.Table.{ask_tests, share_start}

-- the number of the refusal, or none
abbrev pub admitted : Result ℕ Refusal → Option ℕ
admitted (Err r) = some (number_of r)
admitted (Ok start) = none

-- places of a table's plans, and those of them before a client's
pub record Places (before places : ℕ) : Type 0 where
  pub few : places ≤ client_limit * assembly_limit
  pub part : before ≤ places

-- 20 for the store and 21, for `count` records whose plans have so many places
pub record Grants (count before places bytes k : ℕ) (r : Result ℕ Refusal) : Type 0 where
  pub tests : admitted r ≡ first_of ((not (eqb bytes (share_size places)), 20) ∷ (leb count k, 21) ∷ [])
  pub start : IfOk r (λ start. start ≡ share_size before)

-- the refusal is the first test's that applies, and where none does the share starts behind those before it
pub record Admits (l : Lent) (k : ℕ) (r : Result ℕ Refusal) : Type 0 where
  pub tests : admitted r ≡ first_of (ask_tests l k)
  pub start : IfOk r (λ start. start ≡ share_start k l.plans)
