-- One call per datagram: the payload is read (demand 2) and, if it is a fragment, offered to the table for the client.
use Rattle.std.specs.Prelude.{ℕ, ◌-◌, ◌≡◌, List, Option, Some, None, Result, Ok, Err}
use Rattle.number_octets.specs.Octets.{number, part}
use Rattle.wire_nops.specs.declared.Strictness.{Strictness}
use Rattle.wire_area.specs.declared.Fragment.{Fragment}
use Rattle.wire_reading.specs.Verdict.{verdict_says}
use Rattle.wire_datagram.specs.Reading as Reading
use Rattle.wire_datagram.specs.Reading.{Answer, reading, refusal_number}
use Rattle.wire_reading.specs.declared.Verdict.{Verdict}
use Rattle.wire_reading.specs.Packet.{PacketReading as Reading}
use Rattle.wire_datagram.specs.declared.reading.Refusal.{Refusal}
use Rattle.client_record.specs.declared.Client.{Client}
use Rattle.client_reassembly.specs.declared.Arrival.{Arrival}
use Rattle.client_reassembly.specs.Answer.{Reply, reply_of}
use Rattle.client_ledger.specs.History.{Ask, offering}
use Rattle.table_rules.specs.Table.{Table, After, ask_on}
use Rattle.table_receiver.specs.declared.Received.{Received}
use Rattle.table_receiver.specs.declared.Received.TheVariants.{Datagram, Fragment as Offered}

-- the fragment of a verdict "piece"
abbrev pub piece_of : Verdict → Option Fragment
piece_of verdict = (verdict_says verdict).values

-- the fragment that a payload is, if it is one
abbrev pub piece_in : Answer → Option Fragment
piece_in (Reading.refused n) = None
piece_in (Reading.reads r) = piece_of r.verdict

abbrev pub with_ports : List ℕ → List ℕ → ℕ → Fragment → ℕ → ℕ → Arrival
with_ports source destination time f from to = record {
  time = time;
  flow = record { source = source; destination = destination; source_port = from; destination_port = to };
  identification = f.identification;
  offset = f.place;
  option_start = f.option_start;
  last = f.last;
}

-- a fragment as the table takes it: its flow is the addresses and the ports of the UDP header
abbrev pub arrival_of : List ℕ → List ℕ → List ℕ → ℕ → Fragment → Arrival
arrival_of payload source destination time f = with_ports source destination time f (number (part 0 2 payload)) (number (part 2 2 payload))

-- its bytes
abbrev pub bytes_of : List ℕ → Fragment → List ℕ
bytes_of payload f = part f.start.0 (f.end.0 - f.start.0) payload

-- a datagram as it arrives, and how it is to be read
pub record Packet : Type 0 where
  pub time : ℕ
  pub source : List ℕ
  pub destination : List ℕ
  pub strictness : Strictness
  pub payload : List ℕ

abbrev pub reading_of : Packet → Answer
reading_of p = reading p.strictness p.payload p.source p.destination

-- the fragment call that a packet makes
abbrev pub offer_of : Packet → Fragment → List ℕ → Ask
offer_of p f out = offering (arrival_of p.payload p.source p.destination p.time f) (bytes_of p.payload f) out

-- what became of it: refused by the reader, a datagram of its own, or a fragment with the table's answer
pub data Fate : Type 0 where
  unread : ℕ → Fate
  whole : Reading → Fate
  offered : Reply → Fate

pub record Receipt : Type 0 where
  pub table : Table
  pub out : List ℕ
  pub fate : Fate

abbrev pub fate_of : Answer → Fate
fate_of (Reading.refused n) = unread n
fate_of (Reading.reads r) = whole r

abbrev pub taking : After → Receipt
taking a = record { table = a.table; out = a.out; fate = offered a.reply }

-- what is no fragment leaves every record, the store and out as they were
abbrev pub receiving : ℕ → Packet → List ℕ → Table → Option Fragment → Receipt
receiving k p out t None = record { table = t; out = out; fate = fate_of (reading_of p) }
receiving k p out t (Some f) = taking (ask_on k (offer_of p f out) t)

unfoldable pub receive_on : ℕ → Packet → List ℕ → Table → Receipt
receive_on k p out t = receiving k p out t (piece_in (reading_of p))

-- ---- what the contracts say

-- the paper's numbers and values of what `receive` answers
abbrev pub fate_in : Result Received Refusal → Fate
fate_in (Err refusal) = unread (refusal_number refusal)
fate_in (Ok (Datagram r)) = whole r
fate_in (Ok (Offered answer)) = offered (reply_of answer)

pub record Leaves (o : Receipt) (answer : Result Received Refusal) (records : List Client) (store out : List ℕ) : Type 0 where
  pub answers : fate_in answer ≡ o.fate
  pub records_left : records ≡ o.table.records
  pub store_left : store ≡ o.table.store
  pub out_left : out ≡ o.out
