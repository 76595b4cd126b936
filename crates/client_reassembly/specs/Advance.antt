-- The clock and the account of one client (document 01, "The table": clock, bill), and expiry, which the fragment call shares.
use Rattle.std.specs.Prelude.{ℕ, ◌+◌, ◌-◌, Bool, not, ◌&&◌, cond, List, [], ◌∷◌, map, leb, ltb}
use Rattle.std.proofs.Math.Option.{Option, none, some}
use Rattle.number_tests.specs.Tests.{first_of}
use Rattle.client_record.specs.declared.Assembly.{Assembly}
use Rattle.client_record.specs.declared.Client.{Client}
use Rattle.client_record.specs.Limits.{lifetime}
use Rattle.client_record.specs.Lists.{sum}
use Rattle.client_record.specs.Record.{fresh_assembly, live, bytes_held, sound_record}
use Rattle.client_reassembly.specs.Answer.{Reply, refused, advanced, account}

-- opened the lifetime ago or more
unfoldable pub old : ℕ → Assembly → Bool
old t a = live a && leb (a.opened + lifetime) t

-- an old assembly's place becomes fresh
unfoldable pub expire : ℕ → Assembly → Assembly
expire t a = cond (old t a) fresh_assembly a

-- the bytes of the fragments that expire with it
unfoldable pub lost : ℕ → Assembly → ℕ
lost t a = cond (old t a) (bytes_held a) 0

-- the client's time is t, and what is old expires
unfoldable pub elapse : ℕ → Client → Client
elapse t c = record {
  plan = c.plan;
  time = t;
  offered = c.offered;
  held = c.held - sum (lost t) c.assemblies;
  delivered = c.delivered;
  expired = c.expired + sum (lost t) c.assemblies;
  conflicted = c.conflicted;
  repeated = c.repeated;
  rejected = c.rejected;
  assemblies = map (expire t) c.assemblies;
}

-- a client's record and what its call answers
pub record CallResult : Type 0 where
  pub client : Client
  pub reply : Reply

-- a refusal changes nothing
abbrev pub refuse_or : Client → Option ℕ → CallResult → CallResult
refuse_or c none t = t
refuse_or c (some n) t = record { client = c; reply = refused n }

-- clock: 22, 27, then the time is set and what is old expires
unfoldable pub advance_on : Client → ℕ → CallResult
advance_on c t =
    refuse_or c (first_of ((not (sound_record c), 22) ∷ (ltb t c.time, 27) ∷ []))
    (record { client = elapse t c; reply = advanced })

-- the figures in document 01's order
unfoldable pub figures : Client → List ℕ
figures c = c.offered ∷ c.held ∷ c.delivered ∷ c.expired ∷ c.conflicted ∷ c.repeated ∷ c.rejected ∷ []

-- bill: 22, then the figures; the record stays
unfoldable pub account_on : Client → CallResult
account_on c = refuse_or c (first_of ((not (sound_record c), 22) ∷ [])) (record { client = c; reply = account (figures c) })
