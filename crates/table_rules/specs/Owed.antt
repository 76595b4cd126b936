-- Each client's own history in a list of calls over a table, and what its plain book says of it (document 01): of the tables only their sizes
-- and plans, of the calls only the client's own.
use Rattle.std.specs.Prelude.{ℕ, List, [], ◌∷◌, eqb, cond}
use Rattle.std.proofs.Math.Option.{Option, none, some}
use Rattle.client_reassembly.specs.Answer.{Reply, refused, ready}
use Rattle.client_ledger.specs.Book.{Result}
use Rattle.client_ledger.specs.Lent.{misfit, Own, Past, since, more, answered, book_of}
use Rattle.client_ledger.specs.History.{Lent, Ask, Given}
use Rattle.client_ledger.specs.Bookkeeping.{call_of}
use Rattle.table_rules.specs.Table.{lent_of}
use Rattle.table_rules.specs.Events.{Lending, current, another, Event, resetting, asking}

abbrev pub sizes_for : Lending → Lent → Lent
sizes_for current l = l
sizes_for (another u) l = lent_of u

abbrev pub own_call : Lending → Lent → ℕ → Ask → Own
own_call g l k a = record { lent = sizes_for g l; client = k; call = call_of a }

-- what is there before a set-up, and after it where it is taken
abbrev pub taken {ℓ} : {A : Type ℓ} → Option ℕ → A → A → A
taken (some n) before after = before
taken none before after = after

-- the sizes and plans of the current table after an event
abbrev pub sizes_after : Lent → Event → Lent
sizes_after l (resetting g) = taken (misfit (sizes_for g l)) l (sizes_for g l)
sizes_after l (asking g k a) = l

-- client k's history after an event: its plan at the last set-up taken, and its calls since
abbrev pub past_after : ℕ → Lent → Past → Event → Past
past_after k l past (resetting g) = taken (misfit (sizes_for g l)) past (since k (sizes_for g l))
past_after k l past (asking g j a) = cond (eqb j k) (more past (own_call g l k a)) past

unfoldable pub history : ℕ → Lent → Past → List Event → Past
history k l past [] = past
history k l past (e ∷ es) = history k (sizes_after l e) (past_after k l past e) es

abbrev pub given_in : Result → Given
given_in r = record { reply = r.reply; out = r.out }

-- a set-up is refused for the sizes and plans of its table alone
abbrev pub reset_reply : Option ℕ → Reply
reset_reply (some n) = refused n
reset_reply none = ready

abbrev pub reset_owes : Lent → Given
reset_owes l = record { reply = reset_reply (misfit l); out = [] }

-- what client k's book answers and leaves in out, call by call
unfoldable pub owes : ℕ → Lent → Past → List Event → List Given
owes k l past [] = []
owes k l past (resetting g ∷ es) = reset_owes (sizes_for g l) ∷ owes k (sizes_after l (resetting g)) (past_after k l past (resetting g)) es
owes k l past (asking g j a ∷ es) =
    cond (eqb j k)
    (given_in (answered (own_call g l k a) (book_of past)) ∷ owes k l (past_after k l past (asking g j a)) es)
    (owes k l (past_after k l past (asking g j a)) es)
