-- What expires is held: the bytes lost are at most those held, and the figures stay within the limit.
-- Assumes nothing.
use mathlib.Core.Path.{◌≡◌}
use mathlib.Core.Bool.{Bool, true, false, cond}
use Prim.Native.Nat.{ℕ, ◌+◌, ◌≤◌}
use native.Mathlib.Omega.{arith}
use Rattle.client_record.specs.declared.Assembly.{Assembly}
use Rattle.client_record.specs.declared.Client.{Client}
use Rattle.client_record.specs.Limits.{offered_limit}
use Rattle.client_record.specs.Lists.{sum}
use Rattle.client_record.specs.Record.{bytes_held, figure_sum, sound_record}
use Rattle.client_record.proofs.SoundParts.{sound-parts, sum-le}
use Rattle.client_reassembly.specs.Advance.{old, lost}

lost-le : (t : ℕ) (a : Assembly) → lost t a ≤ bytes_held a
unfolding lost
lost-le t a = go (old t a)
  where
    go : (b : Bool) → cond b (bytes_held a) 0 ≤ bytes_held a
    go true = omega arith
    go false = omega arith

-- in a sound record what is lost is at most held, and with the expired bytes within the limit
pub record Gone (t : ℕ) (c : Client) : Type 0 where
  pub held : sum (lost t) c.assemblies ≤ c.held
  pub limit : c.expired + sum (lost t) c.assemblies ≤ offered_limit

pub gone : (t : ℕ) (c : Client) → sound_record c ≡ true → Gone t c
unfolding figure_sum
gone t c e =
    let s = sound-parts c e in
    let le : sum (lost t) c.assemblies ≤ sum bytes_held c.assemblies = sum-le (lost t) bytes_held (lost-le t) c.assemblies in
    record { held = omega (arith, s.held); limit = omega (arith, s.held, s.balance, s.limit) }
