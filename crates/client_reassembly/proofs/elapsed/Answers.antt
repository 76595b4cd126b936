-- `client_reassembly::elapsed` meets its contract: what is lost is held (`gone`), and the struct is the definition's.
use Rattle.client_reassembly.proofs.Expiry.{gone}
use Rattle.client_reassembly.specs.Advance.{elapse}
use Rattle.client_record.specs.Limits.{offered_limit}
use Rattle.client_record.specs.declared.Client.{Client}
use Rattle.client_record.specs.declared.Assembly.{Assembly}
use native.Mathlib.Omega.{arith}
use Prim.Native.Nat.{ℕ, ◌+◌, ◌-◌}
use mathlib.Core.List.{List}
use mathlib.Core.Path.{ap₂}
use Rattle.client_reassembly.proofs.elapsed.Goals as goal

kept : ℕ → Client → ℕ → List Assembly → Client
kept t c n xs = record {
  plan = c.plan;
  time = t;
  offered = c.offered;
  held = c.held - n;
  delivered = c.delivered;
  expired = c.expired + n;
  conflicted = c.conflicted;
  repeated = c.repeated;
  rejected = c.rejected;
  assemblies = xs;
}

pub overflow_sub-result : goal.overflow_sub-result
overflow_sub-result c = omega (arith, c.total_lost-gone.ensures, (gone c.args.time c.args.c c.requires).held)

pub overflow_add-result : goal.overflow_add-result
unfolding offered_limit
overflow_add-result c = omega (arith, c.total_lost-gone.ensures, (gone c.args.time c.args.c c.requires).limit)

pub returns : goal.returns
unfolding elapse kept
returns c = let s = c.args in
    ap₂ (kept s.time s.c) c.total_lost-gone.ensures c.expire_all-kept.ensures
