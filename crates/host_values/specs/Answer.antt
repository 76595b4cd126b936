-- What the table answers, and what becomes of a datagram that arrives, as values of include/wuraketozo.h.
use Rattle.std.specs.Prelude.{ℕ, not, List, eqb, get_or}
use Rattle.client_reassembly.specs.declared.Arrival.{Arrival}
use Rattle.client_reassembly.specs.Answer.{Reply, refused, ready, stored, repeated, conflict, delivered, advanced, account}
use Rattle.table_receiver.specs.Receive as Receive
use Rattle.host_readings.specs.Reading.{unread, reading_from}
use Rattle.host_readings.specs.declared.Reading.{Reading}
use Rattle.host_values.specs.declared.Figures.{Figures}
use Rattle.host_values.specs.declared.Answer.{Answer}
use Rattle.host_values.specs.declared.Fragment.{Fragment}
use Rattle.host_values.specs.declared.Received.{Received}

abbrev pub no_figures : Figures
no_figures = record { offered = 0; held = 0; delivered = 0; expired = 0; conflicted = 0; repeated = 0; rejected = 0 }

-- the account's figures in their order
abbrev pub figures_from : List ℕ → Figures
figures_from fs = record {
  offered = get_or fs 0 0;
  held = get_or fs 1 0;
  delivered = get_or fs 2 0;
  expired = get_or fs 3 0;
  conflicted = get_or fs 4 0;
  repeated = get_or fs 5 0;
  rejected = get_or fs 6 0;
}

-- a refusal, or what it came to
abbrev pub plain : ℕ → ℕ → Answer
plain refusal outcome = record { refusal = refusal; outcome = outcome; length = 0; option_start = record { 0 = 0 }; figures = no_figures }

-- "the answer gives T and r"
abbrev pub handed_out : ℕ → ℕ → Answer
handed_out n r = record { refusal = 0; outcome = 5; length = n; option_start = record { 0 = r }; figures = no_figures }

abbrev pub accounted : List ℕ → Answer
accounted fs = record { refusal = 0; outcome = 7; length = 0; option_start = record { 0 = 0 }; figures = figures_from fs }

-- what the table answers
abbrev pub host_answer : Reply → Answer
host_answer (refused n) = plain n 0
host_answer ready = plain 0 1
host_answer stored = plain 0 2
host_answer repeated = plain 0 3
host_answer conflict = plain 0 4
host_answer (delivered n r) = handed_out n r
host_answer advanced = plain 0 6
host_answer (account fs) = accounted fs

-- a fragment as the table takes it: it is the last one unless `last` is 0
abbrev pub arrival_from : Fragment → Arrival
arrival_from f = record {
  time = f.time;
  flow = f.flow;
  identification = f.identification;
  offset = f.place;
  option_start = f.option_start;
  last = not (eqb f.last 0);
}

-- a datagram that touched no record
abbrev pub read_alone : ℕ → Reading → Received
read_alone what reading = record { what = what; reading = reading; answer = plain 0 0 }

abbrev pub offered_alone : Answer → Received
offered_alone answer = record { what = 2; reading = unread 0; answer = answer }

-- what became of a datagram: refused by the reader, a datagram of its own, or a fragment with the table's answer
abbrev pub host_fate : Receive.Fate → Received
host_fate (Receive.unread n) = read_alone 0 (unread n)
host_fate (Receive.whole r) = read_alone 1 (reading_from r)
host_fate (Receive.offered reply) = offered_alone (host_answer reply)
