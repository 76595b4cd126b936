-- The same calls in a client's book: what it answers to each.
use Rattle.std.specs.Prelude.{List, [], ◌∷◌}
use Rattle.client_ledger.specs.Book.{Book, Call, fragment, clock, bill, call}
use Rattle.client_ledger.specs.Stands.{offer_of}
use Rattle.client_ledger.specs.History.{Ask, offering, advancing, accounting, Given}

-- the same call to the book
abbrev pub call_of : Ask → Call
call_of (offering o bytes out) = fragment (offer_of o bytes) out
call_of (advancing t) = clock t
call_of accounting = bill

unfoldable pub book_gives : Book → List Ask → List Given
book_gives b [] = []
book_gives b (a ∷ rest) =
    let r = call (call_of a) b in
    record { reply = r.reply; out = r.out } ∷ book_gives r.book rest
