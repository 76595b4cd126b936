-- The fragment call of one client (document 01, "The table": piece), from refusal 22 on: the next record, share, out and answer.
use Rattle.std.specs.Prelude.{ℕ, suc, ◌+◌, ◌-◌, ◌*◌, Bool, not, ◌&&◌, ◌||◌, cond, List, [], ◌∷◌, eqb, leb, ltb, length, get_or, set}
use Rattle.std.proofs.Math.Option.{Option, none, some}
use Rattle.number_tests.specs.Tests.{first_of}
use Rattle.number_octets.specs.Octets.{part, overlay}
use Rattle.client_record.specs.declared.Fragment.{Fragment}
use Rattle.client_record.specs.declared.Assembly.{Assembly}
use Rattle.client_record.specs.declared.Client.{Client}
use Rattle.client_record.specs.Limits.{datagram_limit, fragment_limit, offered_limit}
use Rattle.client_record.specs.Lists.{same_mark, same_bytes, any}
use Rattle.client_record.specs.Record.{
  fresh_assembly,
  is_last,
  mark_of,
  end,
  conflicts,
  last_of,
  whole,
  live,
  held_fragments,
  bytes_held,
  has_key,
  live_count,
  sound_record,
}
use Rattle.client_reassembly.specs.declared.Arrival.{Arrival}
use Rattle.client_reassembly.specs.Answer.{Reply, refused, stored, repeated, conflict, delivered}
use Rattle.client_reassembly.specs.Advance.{elapse}

-- ---- refusals 22 to 28

-- the tests in order: an out buffer of m bytes, a fragment of n bytes
unfoldable pub offer_tests : Client → ℕ → Arrival → ℕ → List (Bool × ℕ)
offer_tests c m o n =
    (not (sound_record c), 22)
    ∷ (ltb m datagram_limit, 23)
    ∷ (eqb n 0, 24)
    ∷ (ltb datagram_limit (o.offset.0 + n), 25)
    ∷ (o.last && ltb (o.offset.0 + n) o.option_start.0, 26)
    ∷ (ltb o.time c.time, 27)
    ∷ (ltb offered_limit (c.offered + n), 28)
    ∷ []

-- ---- where the fragment belongs

-- the fragment as it is stored: r is 0 unless it is the last one
unfoldable pub fragment_of : Arrival → ℕ → Fragment
fragment_of o n = record { offset = o.offset.0; length = n; option_start = cond o.last o.option_start.0 0; last = mark_of o.last }

-- the live assembly of the offer's key
unfoldable pub matches : Arrival → Assembly → Bool
matches o a = live a && has_key o.flow o.identification a

-- the index of the first element that passes, the length if there is none
unfoldable pub first_index {ℓ} : {A : Type ℓ} → (A → Bool) → List A → ℕ
first_index p [] = 0
first_index p (x ∷ xs) = cond (p x) 0 (suc (first_index p xs))

-- 29: no assembly with this key, and as many live as the plan allows (document 02, R-8)
unfoldable pub no_room : ℕ → Arrival → List Assembly → Bool
no_room plan o xs = not (any (matches o) xs) && leb plan (live_count xs)

-- the place of the key's assembly, or the lowest free one
unfoldable pub place_for : Arrival → List Assembly → ℕ
place_for o xs = cond (any (matches o) xs) (first_index (matches o) xs) (first_index (λ a. not (live a)) xs)

-- an assembly that the offer opens, before its first fragment
unfoldable pub opening : Arrival → Assembly
opening o = record {
  flow = o.flow;
  identification = o.identification;
  opened = o.time;
  count = 0;
  fragments = fresh_assembly.fragments;
}

-- the assembly at place p that the fragment belongs to
unfoldable pub assembly_for : Arrival → ℕ → List Assembly → Assembly
assembly_for o p xs = cond (any (matches o) xs) (get_or xs p fresh_assembly) (opening o)

-- ---- what becomes of it

-- same range, same last mark, same r; r of a fragment that is not last is ignored
unfoldable pub alike : Fragment → Fragment → Bool
alike f g =
    eqb f.offset g.offset
    && (eqb f.length g.length
    && (same_mark (is_last f) (is_last g) && (not (is_last f) || eqb f.option_start g.option_start)))

-- a held fragment is alike, and the bytes that are stored in its range are these
unfoldable pub repeats : Assembly → Fragment → List ℕ → List ℕ → Bool
repeats a f kept bytes = any (alike f) (held_fragments a) && same_bytes bytes kept

-- a held fragment contradicts it
unfoldable pub is_conflict : Assembly → Fragment → Bool
is_conflict a f = any (λ g. conflicts g f) (held_fragments a)

unfoldable pub is_full : Assembly → Bool
is_full a = eqb a.count fragment_limit

-- the assembly with the fragment listed after the earlier ones
unfoldable pub added : Assembly → Fragment → Assembly
added a f = record {
  flow = a.flow;
  identification = a.identification;
  opened = a.opened;
  count = a.count + 1;
  fragments = set a.fragments a.count f;
}

-- ---- the record after each fate of a fragment of n bytes

-- the bytes are offered, and turned away
unfoldable pub rejecting : ℕ → Client → Client
rejecting n c = record {
  plan = c.plan;
  time = c.time;
  offered = c.offered + n;
  held = c.held;
  delivered = c.delivered;
  expired = c.expired;
  conflicted = c.conflicted;
  repeated = c.repeated;
  rejected = c.rejected + n;
  assemblies = c.assemblies;
}

unfoldable pub repeating : ℕ → Client → Client
repeating n c = record {
  plan = c.plan;
  time = c.time;
  offered = c.offered + n;
  held = c.held;
  delivered = c.delivered;
  expired = c.expired;
  conflicted = c.conflicted;
  repeated = c.repeated + n;
  rejected = c.rejected;
  assemblies = c.assemblies;
}

-- the assembly a at place p ends: its bytes and the fragment's are conflicted
unfoldable pub conflicting : ℕ → Assembly → ℕ → Client → Client
conflicting p a n c = record {
  plan = c.plan;
  time = c.time;
  offered = c.offered + n;
  held = c.held - bytes_held a;
  delivered = c.delivered;
  expired = c.expired;
  conflicted = c.conflicted + (bytes_held a + n);
  repeated = c.repeated;
  rejected = c.rejected;
  assemblies = set c.assemblies p fresh_assembly;
}

-- the assembly at place p is b, with the fragment
unfoldable pub storing : ℕ → Assembly → ℕ → Client → Client
storing p b n c = record {
  plan = c.plan;
  time = c.time;
  offered = c.offered + n;
  held = c.held + n;
  delivered = c.delivered;
  expired = c.expired;
  conflicted = c.conflicted;
  repeated = c.repeated;
  rejected = c.rejected;
  assemblies = set c.assemblies p b;
}

-- the assembly a at place p ends: its bytes and the fragment's are delivered
unfoldable pub delivering : ℕ → Assembly → ℕ → Client → Client
delivering p a n c = record {
  plan = c.plan;
  time = c.time;
  offered = c.offered + n;
  held = c.held - bytes_held a;
  delivered = c.delivered + (bytes_held a + n);
  expired = c.expired;
  conflicted = c.conflicted;
  repeated = c.repeated;
  rejected = c.rejected;
  assemblies = set c.assemblies p fresh_assembly;
}

-- ---- the call

-- what a fragment call leaves and answers
pub record Outcome : Type 0 where
  pub client : Client
  pub share : List ℕ
  pub out : List ℕ
  pub reply : Reply

abbrev pub leaving : Client → List ℕ → List ℕ → Reply → Outcome
leaving c share out reply = record { client = c; share = share; out = out; reply = reply }

-- a place's first byte in the share
unfoldable pub base : ℕ → ℕ
base p = p * datagram_limit

-- the original is whole with f: T bytes go to the front of out, and the assembly ends
unfoldable pub handed_out : Client → List ℕ → List ℕ → ℕ → Assembly → Fragment → Outcome
handed_out c share out p a f =
    let last = last_of (held_fragments (added a f)) in
    leaving (delivering p a f.length c) share (overlay out 0 (part (base p) (end last) share)) (delivered (end last) last.option_start)

-- a fragment whose bytes are stored joins the assembly: the original is handed out if the last one is held and 0 to T is covered
unfoldable pub joined : Client → List ℕ → List ℕ → ℕ → Assembly → Fragment → Outcome
joined c share out p a f =
    cond (whole (held_fragments (added a f))) (handed_out c share out p a f) (leaving (storing p (added a f) f.length c) share out stored)

-- where its bytes are stored in the share
unfoldable pub start_of : ℕ → Fragment → ℕ
start_of p f = base p + f.offset

-- a fragment f of these bytes for the assembly a at place p
unfoldable pub placed : Client → List ℕ → List ℕ → ℕ → Assembly → Fragment → List ℕ → Outcome
placed c share out p a f bytes =
    cond (repeats a f (part (start_of p f) f.length share) bytes) (leaving (repeating f.length c) share out repeated)
    (cond (is_conflict a f) (leaving (conflicting p a f.length c) share out conflict)
    (cond (is_full a) (leaving (rejecting f.length c) share out (refused 30))
    (joined c (overlay share (start_of p f) bytes) out p a f)))

-- after 28: c has the call's time, and what is old has expired
unfoldable pub taken : Client → List ℕ → List ℕ → Arrival → List ℕ → Outcome
taken c share out o bytes =
    let p = place_for o c.assemblies in
    cond (no_room c.plan o c.assemblies) (leaving (rejecting (length bytes) c) share out (refused 29))
    (placed c share out p (assembly_for o p c.assemblies) (fragment_of o (length bytes)) bytes)

-- a refusal changes nothing
abbrev pub refuse_or : Client → List ℕ → List ℕ → Option ℕ → Outcome → Outcome
refuse_or c share out none r = r
refuse_or c share out (some n) r = leaving c share out (refused n)

unfoldable pub fragment_on : Client → List ℕ → List ℕ → Arrival → List ℕ → Outcome
fragment_on c share out o bytes =
    refuse_or c share out (first_of (offer_tests c (length out) o (length bytes))) (taken (elapse o.time c) share out o bytes)
