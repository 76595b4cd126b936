-- What it means that a client's record, with its share of the store, stands for a book: the same plan, the same figures, and for every key the same
-- open fragments. The order of different keys differs between the two (places against arrival), so they are compared key by key.
use Rattle.std.specs.Prelude.{ℕ, ◌+◌, ◌<◌, ◌≡◌, Bool, true, false, ◌&&◌, cond, List, [], map, length, get_or}
use Rattle.number_octets.specs.Octets.{part}
use Rattle.client_record.specs.declared.Fragment.{Fragment}
use Rattle.client_record.specs.declared.Assembly.{Assembly}
use Rattle.client_record.specs.declared.Client.{Client}
use Rattle.client_record.specs.Lists.{any}
use Rattle.client_record.specs.Record.{is_last, fresh_assembly, live, held_fragments, sound_record}
use Rattle.client_reassembly.specs.declared.Arrival.{Arrival}
use Rattle.client_reassembly.specs.Advance.{CallResult}
use Rattle.client_reassembly.specs.Offer.{base, Outcome}
pub use Rattle.client_ledger.specs.Shapes.{Shaped}
use Rattle.client_ledger.specs.Book.{Key, Content, Entry, Book, held, same_key, mine, opened_at, Result, Offer}

unfoldable pub key_of : Assembly → Key
key_of a = record { flow = a.flow; identification = a.identification }

-- a is the key's live assembly
unfoldable pub owns : Key → Assembly → Bool
owns k a = live a && same_key k (key_of a)

-- the assembly at a place
abbrev pub at : List Assembly → ℕ → Assembly
at xs p = get_or xs p fresh_assembly

-- what a fragment held at place p says: its bytes are read from the share
unfoldable pub content_of : List ℕ → ℕ → Fragment → Content
content_of share p f = record {
  place = f.offset;
  bytes = part (base p + f.offset) f.length share;
  last = is_last f;
  start = cond (is_last f) f.option_start 0;
}

-- the live assembly a at place p is what the entries have of its key, in order, opened when the first came
pub record Shows (share : List ℕ) (es : List Entry) (p : ℕ) (a : Assembly) : Type 0 where
  pub fragments : mine (key_of a) es ≡ map (content_of share p) (held_fragments a)
  pub opened : opened_at (key_of a) es ≡ a.opened

-- every live assembly is its key's entries, and a key without one has no entry
pub record Agrees (share : List ℕ) (es : List Entry) (xs : List Assembly) : Type 0 where
  pub each : (p : ℕ) → p < length xs → live (at xs p) ≡ true → Shows share es p (at xs p)
  pub known : (k : Key) → any (owns k) xs ≡ false → mine k es ≡ []

pub record Stands (c : Client) (share : List ℕ) (b : Book) : Type 0 where
  pub shape : Shaped c share
  pub sound : sound_record c ≡ true
  pub plan : c.plan ≡ b.plan
  pub time : c.time ≡ b.time
  pub offered : c.offered ≡ b.offered
  pub held_bytes : c.held ≡ held b
  pub delivered : c.delivered ≡ b.delivered
  pub expired : c.expired ≡ b.expired
  pub conflicted : c.conflicted ≡ b.conflicted
  pub repeated : c.repeated ≡ b.repeated
  pub rejected : c.rejected ≡ b.rejected
  pub agrees : Agrees share b.open_ones c.assemblies

-- ---- what one call owes

-- an arrival and its bytes, as the book has them
unfoldable pub offer_of : Arrival → List ℕ → Offer
offer_of o bytes = record {
  key = record { flow = o.flow; identification = o.identification };
  time = o.time;
  place = o.offset.0;
  bytes = bytes;
  last = o.last;
  start = o.option_start.0;
}

-- a call on the record that lends no out buffer does what the book does
pub record Follows (t : CallResult) (share : List ℕ) (r : Result) : Type 0 where
  pub reply : t.reply ≡ r.reply
  pub stands : Stands t.client share r.book

-- the fragment call does what the book does
pub record Fulfils (o : Outcome) (r : Result) : Type 0 where
  pub reply : o.reply ≡ r.reply
  pub out : o.out ≡ r.out
  pub stands : Stands o.client o.share r.book
