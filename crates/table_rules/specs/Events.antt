-- Lists of calls over a table (document 01, "The table"): what an event does is what the contracts of the four calls say, `reset_on` and `ask_on`.
-- The books have no part in this; what they say of such a list stands in `Owed`.
use Rattle.std.specs.Prelude.{ℕ, ◌≡◌, false, cond, List, [], ◌∷◌, eqb}
use Rattle.client_ledger.specs.History.{Ask, Given}
use Rattle.table_rules.specs.Table.{Table, lent_of, sized, After, reset_on, ask_on}

-- the table that a call is lent: the one that the calls before it left, or another
pub data Lending : Type 0 where
  current : Lending
  another : Table → Lending

-- a set-up, or a fragment, clock or account call of a client; the client need not exist
pub data Event : Type 0 where
  resetting : Lending → Event
  asking : Lending → ℕ → Ask → Event

abbrev pub table_for : Lending → Table → Table
table_for current t = t
table_for (another u) t = u

-- ---- what the calls do

-- the current table after an event: as the call left it; a set-up that is taken makes the table that it was lent the current one
abbrev pub next : Table → Event → Table
next t (resetting g) = cond (sized (lent_of (table_for g t))) (reset_on (table_for g t)).table t
next t (asking current k a) = (ask_on k a t).table
next t (asking (another u) k a) = t

unfoldable pub final : Table → List Event → Table
final t [] = t
final t (e ∷ es) = final (next t e) es

abbrev pub given_by : After → Given
given_by a = record { reply = a.reply; out = a.out }

-- what client k's calls answered and left in out, in order, with the answers of the set-ups
unfoldable pub gives : ℕ → Table → List Event → List Given
gives k t [] = []
gives k t (resetting g ∷ es) = given_by (reset_on (table_for g t)) ∷ gives k (next t (resetting g)) es
gives k t (asking g j a ∷ es) =
    cond (eqb j k) (given_by (ask_on j a (table_for g t)) ∷ gives k (next t (asking g j a)) es) (gives k (next t (asking g j a)) es)

-- ---- the terms of a list

-- "every call up to the next set-up taken, save one that 20 [or 32] refuses, gets that same whole table"
abbrev pub Allowed : Event → Type 0
Allowed (resetting g) = Unit {0}
Allowed (asking current k a) = Unit {0}
Allowed (asking (another u) k a) = sized (lent_of u) ≡ false

abbrev pub Keeps : List Event → Type 0
Keeps [] = Unit {0}
Keeps (e ∷ es) = Allowed e × Keeps es

-- a list without the fragment, clock and account calls of clients other than k
unfoldable pub own_only : ℕ → List Event → List Event
own_only k [] = []
own_only k (resetting g ∷ es) = resetting g ∷ own_only k es
own_only k (asking g j a ∷ es) = cond (eqb j k) (asking g j a ∷ own_only k es) (own_only k es)
