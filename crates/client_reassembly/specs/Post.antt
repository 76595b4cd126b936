-- What contracts promise beside equations with definitions, and what a function asks of its caller.
use Rattle.std.specs.Prelude.{ℕ, ◌+◌, ◌<◌, ◌≤◌, Bool, true, false, ◌&&◌, List, ◌≡◌, leb, ltb, length}
use Rattle.client_record.specs.declared.Fragment.{Fragment}
use Rattle.client_record.specs.declared.Assembly.{Assembly}
use Rattle.client_record.specs.declared.Client.{Client}
use Rattle.client_record.specs.Limits.{datagram_limit, fragment_limit, assembly_limit, offered_limit, share_size}
use Rattle.client_record.specs.Lists.{all, sum}
use Rattle.client_record.specs.Record.{end, fits, compatible, held_fragments, bytes_held, figure_sum, within_plan}
use Rattle.client_reassembly.specs.declared.Step.{Step}
use Rattle.client_reassembly.specs.declared.Arrival.{Arrival}
use Rattle.client_reassembly.specs.Answer.{reply_of}
use Rattle.client_reassembly.specs.Advance.{CallResult}
use Rattle.client_reassembly.specs.Offer.{place_for, added, Outcome}

-- the step has the result's record, and its answer stands for the result's
pub record StepGives (t : CallResult) (s : Step) : Type 0 where
  pub client : s.client ≡ t.client
  pub reply : reply_of s.answer ≡ t.reply

-- 25 and 26 have let the offer pass
pub record Sized (o : Arrival) (n : ℕ) : Type 0 where
  pub ends : o.offset.0 + n ≤ datagram_limit
  pub starts : o.last && ltb (o.offset.0 + n) o.option_start.0 ≡ false

-- n bytes more can be counted in any figure
pub record Room (c : Client) (n : ℕ) : Type 0 where
  pub figures : figure_sum c + n ≤ offered_limit
  pub offered : c.offered + n ≤ offered_limit

-- p is the place for the offer, and one of the places
pub record PlaceFor (c : Client) (o : Arrival) (p : ℕ) : Type 0 where
  pub place : p ≡ place_for o c.assemblies
  pub within : p < assembly_limit

-- the assembly a at place p, whose bytes are held, can end
pub record Ending (c : Client) (p : ℕ) (a : Assembly) (n : ℕ) : Type 0 where
  pub room : Room c n
  pub within : p < assembly_limit
  pub held : bytes_held a ≤ c.held

-- n bytes more can be held at place p
pub record Storing (c : Client) (p : ℕ) (n : ℕ) : Type 0 where
  pub room : Room c n
  pub within : p < assembly_limit

-- 32 has let the client's plan pass, and this is its share of the store
pub record Share (c : Client) (share : List ℕ) : Type 0 where
  pub plan : c.plan ≤ assembly_limit
  pub size : length share ≡ share_size c.plan

-- what a step leaves and answers is the outcome's
pub record Left (o : Outcome) (s : Step) (share out : List ℕ) : Type 0 where
  pub client : s.client ≡ o.client
  pub reply : reply_of s.answer ≡ o.reply
  pub share_left : share ≡ o.share
  pub out_left : out ≡ o.out

-- the fragment f can join the assembly a at place p: it contradicts none that is held
pub record Joining (c : Client) (share out : List ℕ) (p : ℕ) (a : Assembly) (f : Fragment) : Type 0 where
  pub ending : Ending c p a f.length
  pub free : a.count < fragment_limit
  pub ends : all fits (held_fragments a) ≡ true
  pub apart : compatible (held_fragments (added a f)) ≡ true
  pub last_end : end f ≤ datagram_limit
  pub place : p < c.plan
  pub own : Share c share
  pub out_size : datagram_limit ≤ length out

-- its fragments are within its slots, each ends within the limit, and none contradicts another
unfoldable pub steady : Assembly → Bool
steady a = leb a.count fragment_limit && (all fits (held_fragments a) && compatible (held_fragments a))

-- a fragment of these bytes, offered to a client that has its time, can be placed
pub record Taking (c : Client) (share out : List ℕ) (o : Arrival) (bytes : List ℕ) : Type 0 where
  pub sized : Sized o (length bytes)
  pub room : Room c (length bytes)
  pub held : c.held ≡ sum bytes_held c.assemblies
  pub each : all steady c.assemblies ≡ true
  pub planned : within_plan c ≡ true
  pub own : Share c share
  pub out_size : datagram_limit ≤ length out

-- a fragment f of these bytes can be looked at for the assembly a at place p
pub record Placing (c : Client) (share out : List ℕ) (p : ℕ) (a : Assembly) (f : Fragment) (bytes : List ℕ) : Type 0 where
  pub ending : Ending c p a f.length
  pub slots : a.count ≤ fragment_limit
  pub ends : all fits (held_fragments a) ≡ true
  pub apart : compatible (held_fragments a) ≡ true
  pub last_end : end f ≤ datagram_limit
  pub bytes_size : length bytes ≡ f.length
  pub place : p < c.plan
  pub own : Share c share
  pub out_size : datagram_limit ≤ length out
