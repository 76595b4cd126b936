-- What a call on a table leaves, from what the call below it leaves: the answer's value by one more equation, and all else as it stands.
-- Assumes nothing.
use Rattle.std.proofs.Common.{Result}
use Prim.Native.Nat.{ℕ}
use mathlib.Core.Path.{◌≡◌, ap, subst, ◌∙◌}
use mathlib.Core.List.{List}
use Rattle.client_record.specs.declared.Client.{Client}
use Rattle.client_reassembly.specs.Answer.{reply_of}
use Rattle.client_reassembly.specs.declared.Answer as Reassembly
use Rattle.client_reassembly.specs.declared.Refusal as Reassembly'
use Rattle.client_reassembly.specs.declared.Arrival.{Arrival}
use Rattle.client_ledger.specs.History.{offering}
use Rattle.table_rules.specs.Table as Table
use Rattle.table_receiver.specs.Receive as Receive
use Rattle.table_receiver.specs.Receive.{fate_in}
use Rattle.table_receiver.specs.declared.Received as Receiver
use Rattle.wire_datagram.specs.declared.reading.Refusal as Unread
use Rattle.host_values.specs.Answer.{host_answer, arrival_from, host_fate}
use Rattle.host_values.specs.declared.Answer.{Answer}
use Rattle.host_values.specs.declared.Fragment.{Fragment}
use Rattle.host_values.specs.declared.Received.{Received}
use Rattle.host_calls.specs.Left.{Leaves, Receives}

pub leaves : {a : Table.After} {inner : Result Reassembly.Answer Reassembly'.Refusal} {answer : Answer} {records : List Client} {store out : List ℕ}
    → Table.Leaves a inner records store out → answer ≡ host_answer (reply_of inner) → Leaves a answer records store out
leaves h says =
    record { answers = says ∙ ap host_answer h.answers; records_left = h.records_left; store_left = h.store_left; out_left = h.out_left }

-- the fragment that was offered is the one that the call was given
abbrev Offered : ℕ → List ℕ → List ℕ → Table.Table → Result Reassembly.Answer Reassembly'.Refusal → List Client → List ℕ → List ℕ → Arrival → Type 0
Offered k bytes out t inner records store left arrival = Table.Leaves (Table.ask_on k (offering arrival bytes out) t) inner records store left

pub offers : (k : ℕ) (f : Fragment) (bytes out : List ℕ) (t : Table.Table) {arrival : Arrival} {inner : Result Reassembly.Answer Reassembly'.Refusal} {answer : Answer}
    {records : List Client} {store left : List ℕ} → arrival ≡ arrival_from f
    → Table.Leaves (Table.ask_on k (offering arrival bytes out) t) inner records store left → answer ≡ host_answer (reply_of inner)
    → Leaves (Table.ask_on k (offering (arrival_from f) bytes out) t) answer records store left
offers k f bytes out t {inner = inner} {records = records} {store = store} {left = left} is h says =
    leaves (subst (Offered k bytes out t inner records store left) is h) says

pub receives : {o o' : Receive.Receipt} {inner : Result Receiver.Received Unread.Refusal} {answer : Received} {records : List Client} {store out : List ℕ}
    → o ≡ o' → Receive.Leaves o inner records store out → answer ≡ host_fate (fate_in inner) → Receives o' answer records store out
receives same h says = record {
  answers = says ∙ ap host_fate (h.answers ∙ ap (λ (x : Receive.Receipt). x.fate) same);
  records_left = h.records_left ∙ ap (λ (x : Receive.Receipt). x.table.records) same;
  store_left = h.store_left ∙ ap (λ (x : Receive.Receipt). x.table.store) same;
  out_left = h.out_left ∙ ap (λ (x : Receive.Receipt). x.out) same;
}
