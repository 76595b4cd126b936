-- Document 01's plain book of one client: what its own calls alone say of it. It knows no places, no slots and no store.
use Rattle.std.specs.Prelude.{ℕ, zero, suc, ◌+◌, ◌-◌, Bool, true, not, ◌&&◌, ◌||◌, cond, List, [], ◌∷◌, ◌++◌, ◌≡◌, leb, ltb, eqb, length, get_or, drop}
use Rattle.std.proofs.Math.Option.{Option, none, some}
use Rattle.number_tests.specs.Tests.{first_of}
use Rattle.client_record.specs.declared.Flow.{Flow}
use Rattle.client_record.specs.Limits.{datagram_limit, fragment_limit, lifetime, offered_limit}
use Rattle.client_record.specs.Lists.{same_mark, same_bytes, any, sum}
use Rattle.client_record.specs.Record.{same_flow}
use Rattle.client_reassembly.specs.Answer.{Reply, refused, stored, repeated, conflict, delivered, advanced, account}

-- ---- what is written down

-- the key is flow and identification
pub record Key : Type 0 where
  pub flow : Flow
  pub identification : ℕ

-- what a fragment says: its place, its bytes, whether it is the last one, and r (0 unless it is)
pub record Content : Type 0 where
  pub place : ℕ
  pub bytes : List ℕ
  pub last : Bool
  pub start : ℕ

-- an open fragment (document 01's open piece), with the time when it came
pub record Entry : Type 0 where
  pub key : Key
  pub time : ℕ
  pub content : Content

-- `plan` is that of the last set-up taken (document 02, R-8); `open-ones` are the open fragments, oldest first
pub record Book : Type 0 where
  pub plan : ℕ
  pub time : ℕ
  pub offered : ℕ
  pub delivered : ℕ
  pub expired : ℕ
  pub conflicted : ℕ
  pub repeated : ℕ
  pub rejected : ℕ
  pub open_ones : List Entry

unfoldable pub empty : ℕ → Book
empty plan = record { plan = plan; time = 0; offered = 0; delivered = 0; expired = 0; conflicted = 0; repeated = 0; rejected = 0; open_ones = [] }

unfoldable pub size : Content → ℕ
size f = length f.bytes

-- the first place behind it
unfoldable pub end_of : Content → ℕ
end_of f = f.place + size f

-- the bytes of some fragments
unfoldable pub total : List Content → ℕ
total fs = sum size fs

-- held is the open fragments' bytes
unfoldable pub held_bytes : List Entry → ℕ
held_bytes es = sum (λ e. size e.content) es

unfoldable pub held : Book → ℕ
held b = held_bytes b.open_ones

-- ---- the fragments of a key

unfoldable pub same_key : Key → Key → Bool
same_key k j = same_flow k.flow j.flow && eqb k.identification j.identification

unfoldable pub of : Key → Entry → Bool
of k e = same_key k e.key

-- what the open fragments of a key say, in order
unfoldable pub mine : Key → List Entry → List Content
mine k [] = []
mine k (e ∷ es) = cond (of k e) (e.content ∷ mine k es) (mine k es)

-- the entries that pass, in order
unfoldable pub keep : (Entry → Bool) → List Entry → List Entry
keep p [] = []
keep p (e ∷ es) = cond (p e) (e ∷ keep p es) (keep p es)

unfoldable pub others : Key → List Entry → List Entry
others k es = keep (λ e. not (of k e)) es

-- a key's assembly was opened when the first of its open fragments came
unfoldable pub opened_at : Key → List Entry → ℕ
opened_at k [] = 0
opened_at k (e ∷ es) = cond (of k e) e.time (opened_at k es)

-- how many different keys are open
unfoldable pub keys : List Entry → ℕ
keys [] = 0
keys (e ∷ es) = cond (any (of e.key) es) (keys es) (suc (keys es))

-- ---- the time

-- at the time t it is the lifetime or more since the opening
unfoldable pub due : ℕ → ℕ → Bool
due opened t = leb (opened + lifetime) t

-- a fragment of an assembly that was opened the lifetime ago or more
unfoldable pub outdated : ℕ → List Entry → Entry → Bool
outdated t es e = due (opened_at e.key es) t

-- the client's time is t, and what is outdated expires
unfoldable pub advance : ℕ → Book → Book
advance t b = record {
  plan = b.plan;
  time = t;
  offered = b.offered;
  delivered = b.delivered;
  expired = b.expired + held_bytes (keep (outdated t b.open_ones) b.open_ones);
  conflicted = b.conflicted;
  repeated = b.repeated;
  rejected = b.rejected;
  open_ones = keep (λ e. not (outdated t b.open_ones e)) b.open_ones;
}

-- ---- the fate of a fragment

-- same range, same last mark, same r and same bytes
unfoldable pub repeats : Content → Content → Bool
repeats f g = eqb f.place g.place && (same_bytes f.bytes g.bytes && (same_mark f.last g.last && eqb f.start g.start))

unfoldable pub overlap : Content → Content → Bool
overlap f g = ltb f.place (end_of g) && ltb g.place (end_of f)

-- beside an open g that f does not repeat: overlap, a second last one, an end past the known end, or a last one that ends before g's end
unfoldable pub contradicts : Content → Content → Bool
contradicts f g = overlap f g || ((f.last && g.last) || ((g.last && ltb (end_of g) (end_of f)) || (f.last && ltb (end_of f) (end_of g))))

unfoldable pub within : ℕ → Content → Bool
within i f = leb f.place i && ltb i (end_of f)

-- every byte before n is in some fragment
unfoldable pub complete : ℕ → List Content → Bool
complete zero fs = true
complete (suc n) fs = complete n fs && any (within n) fs

-- the fragment that is marked last
unfoldable pub last_one : List Content → Option Content
last_one [] = none
last_one (f ∷ fs) = cond f.last (some f) (last_one fs)

-- the byte at place i
unfoldable pub byte_at : List Content → ℕ → ℕ
byte_at [] i = 0
byte_at (f ∷ fs) i = cond (within i f) (get_or f.bytes (i - f.place) 0) (byte_at fs i)

-- the bytes before place n
unfoldable pub bytes_to : ℕ → List Content → List ℕ
bytes_to zero fs = []
bytes_to (suc n) fs = bytes_to n fs ++ byte_at fs n ∷ []

-- what a call answers, what the out buffer then holds, and the book
pub record Result : Type 0 where
  pub reply : Reply
  pub out : List ℕ
  pub book : Book

-- n bytes are offered, and turned away
unfoldable pub rejecting : ℕ → Book → Book
rejecting n b = record {
  plan = b.plan;
  time = b.time;
  offered = b.offered + n;
  delivered = b.delivered;
  expired = b.expired;
  conflicted = b.conflicted;
  repeated = b.repeated;
  rejected = b.rejected + n;
  open_ones = b.open_ones;
}

unfoldable pub repeating : ℕ → Book → Book
repeating n b = record {
  plan = b.plan;
  time = b.time;
  offered = b.offered + n;
  delivered = b.delivered;
  expired = b.expired;
  conflicted = b.conflicted;
  repeated = b.repeated + n;
  rejected = b.rejected;
  open_ones = b.open_ones;
}

-- the key's fragments leave; their bytes and n more are conflicted
unfoldable pub conflicting : Key → ℕ → Book → Book
conflicting k n b = record {
  plan = b.plan;
  time = b.time;
  offered = b.offered + n;
  delivered = b.delivered;
  expired = b.expired;
  conflicted = b.conflicted + (total (mine k b.open_ones) + n);
  repeated = b.repeated;
  rejected = b.rejected;
  open_ones = others k b.open_ones;
}

-- the fragment joins the list
unfoldable pub storing : Entry → Book → Book
storing e b = record {
  plan = b.plan;
  time = b.time;
  offered = b.offered + size e.content;
  delivered = b.delivered;
  expired = b.expired;
  conflicted = b.conflicted;
  repeated = b.repeated;
  rejected = b.rejected;
  open_ones = b.open_ones ++ e ∷ [];
}

-- the key's fragments leave; their bytes and n more are delivered
unfoldable pub delivering : Key → ℕ → Book → Book
delivering k n b = record {
  plan = b.plan;
  time = b.time;
  offered = b.offered + n;
  delivered = b.delivered + (total (mine k b.open_ones) + n);
  expired = b.expired;
  conflicted = b.conflicted;
  repeated = b.repeated;
  rejected = b.rejected;
  open_ones = others k b.open_ones;
}

abbrev pub leaving : Reply → List ℕ → Book → Result
leaving reply out b = record { reply = reply; out = out; book = b }

-- the key's fragments with the new one
abbrev pub with : Entry → Book → List Content
with e b = mine e.key b.open_ones ++ e.content ∷ []

-- with a last one the original is handed out if every byte before its end is there
abbrev pub finished : Entry → List ℕ → Book → Option Content → Result
finished e out b none = leaving stored out (storing e b)
finished e out b (some l) =
    cond (complete (end_of l) (with e b))
    (leaving (delivered (end_of l) l.start) (bytes_to (end_of l) (with e b) ++ drop (end_of l) out) (delivering e.key (size e.content) b))
    (leaving stored out (storing e b))

unfoldable pub taking : Entry → List ℕ → Book → Result
taking e out b = finished e out b (last_one (with e b))

-- 29: no fragment of this key is open, and as many keys are as the plan allows
unfoldable pub no_room : Entry → Book → Bool
no_room e b = eqb (length (mine e.key b.open_ones)) 0 && leb b.plan (keys b.open_ones)

unfoldable pub is_repeat : Entry → Book → Bool
is_repeat e b = any (repeats e.content) (mine e.key b.open_ones)

unfoldable pub is_conflict : Entry → Book → Bool
is_conflict e b = any (contradicts e.content) (mine e.key b.open_ones)

-- 30: as many fragments of this key are open as may be
unfoldable pub is_full : Entry → Book → Bool
is_full e b = eqb (length (mine e.key b.open_ones)) fragment_limit

unfoldable pub fate : Entry → List ℕ → Book → Result
fate e out b =
    cond (no_room e b) (leaving (refused 29) out (rejecting (size e.content) b))
    (cond (is_repeat e b) (leaving repeated out (repeating (size e.content) b))
    (cond (is_conflict e b) (leaving conflict out (conflicting e.key (size e.content) b))
    (cond (is_full e b) (leaving (refused 30) out (rejecting (size e.content) b))
    (taking e out b))))

-- ---- the calls

-- a fragment that is offered, with r as it was given
pub record Offer : Type 0 where
  pub key : Key
  pub time : ℕ
  pub place : ℕ
  pub bytes : List ℕ
  pub last : Bool
  pub start : ℕ

-- what a client asks: a fragment with an out buffer, the clock, the account
pub data Call : Type 0 where
  fragment : Offer → List ℕ → Call
  clock : ℕ → Call
  bill : Call

-- r is ignored unless the fragment is the last one
unfoldable pub entry : Offer → Entry
entry o = record {
  key = o.key;
  time = o.time;
  content = record { place = o.place; bytes = o.bytes; last = o.last; start = cond o.last o.start 0 };
}

-- 20, 21 and 32 are the table's, and come before these
unfoldable pub offer_tests : Offer → ℕ → Book → List (Bool × ℕ)
offer_tests o m b =
    (ltb m datagram_limit, 23)
    ∷ (eqb (length o.bytes) 0, 24)
    ∷ (ltb datagram_limit (o.place + length o.bytes), 25)
    ∷ (o.last && ltb (o.place + length o.bytes) o.start, 26)
    ∷ (ltb o.time b.time, 27)
    ∷ (ltb offered_limit (b.offered + length o.bytes), 28)
    ∷ []

unfoldable pub clock_tests : ℕ → Book → List (Bool × ℕ)
clock_tests t b = (ltb t b.time, 27) ∷ []

-- a refusal changes nothing
abbrev pub refuse_or : List ℕ → Book → Option ℕ → Result → Result
refuse_or out b none r = r
refuse_or out b (some n) r = leaving (refused n) out b

-- the figures in document 01's order
unfoldable pub figures : Book → List ℕ
figures b = b.offered ∷ held b ∷ b.delivered ∷ b.expired ∷ b.conflicted ∷ b.repeated ∷ b.rejected ∷ []

abbrev pub call : Call → Book → Result
call (fragment o out) b = refuse_or out b (first_of (offer_tests o (length out) b)) (fate (entry o) out (advance o.time b))
call (clock t) b = refuse_or [] b (first_of (clock_tests t b)) (leaving advanced [] (advance t b))
call bill b = leaving (account (figures b)) [] b

-- the book after a history
unfoldable pub after : List Call → Book → Book
after [] b = b
after (c ∷ cs) b = after cs (call c b).book

-- every byte offered is in one figure
unfoldable pub Balanced : Book → Type 0
Balanced b = b.offered ≡ held b + b.delivered + b.expired + b.conflicted + b.repeated + b.rejected
