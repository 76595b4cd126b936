-- When the book hands an original out, and what then stands in out: two things, said apart.
use Rattle.std.specs.Prelude.{ℕ, ◌≡◌, true, false, List, ◌++◌, drop}
use Rattle.std.proofs.Math.Option.{none, some}
use Rattle.number_tests.specs.Tests.{first_of}
use Rattle.client_ledger.specs.Book.{
  Content,
  Book,
  end_of,
  advance,
  complete,
  last_one,
  bytes_to,
  with,
  no_room,
  is_repeat,
  is_conflict,
  is_full,
  Offer,
  entry,
  offer_tests,
}
use Rattle.client_ledger.specs.History.{Lent}
use Rattle.client_ledger.specs.Lent.{lent_tests}

-- fs has a last one, with r, that ends at n, and every byte before n
pub record Whole (fs : List Content) (n r : ℕ) : Type 0 where
  pub last : Content
  pub found : last_one fs ≡ some last
  pub length_is : end_of last ≡ n
  pub start_is : last.start ≡ r
  pub all_there : complete n fs ≡ true

-- out with the n bytes of fs in front, and else as it was
abbrev pub handed : List Content → ℕ → List ℕ → List ℕ
handed fs n out = bytes_to n fs ++ drop n out

-- a client's fragment is taken, where m bytes of out are lent: no refusal, no repeat, no conflict
pub record Taken (l : Lent) (k : ℕ) (o : Offer) (m : ℕ) (b : Book) : Type 0 where
  pub admitted : first_of (lent_tests l k) ≡ none
  pub passed : first_of (offer_tests o m b) ≡ none
  pub room : no_room (entry o) (advance o.time b) ≡ false
  pub fresh : is_repeat (entry o) (advance o.time b) ≡ false
  pub fitting : is_conflict (entry o) (advance o.time b) ≡ false
  pub slot : is_full (entry o) (advance o.time b) ≡ false

-- the client's open fragments of the key at that time, with this one
abbrev pub assembled : Offer → Book → List Content
assembled o b = with (entry o) (advance o.time b)
