-- Demand 2's claims about a reading: user data survives whatever the area holds, and options are reported only with "read".
-- Both go by what the area's start and walk come to: every case has the user data's extent, and only "read" has more.
-- Assumes nothing.
use mathlib.Core.Path.{◌≡◌, refl, sym, ap, subst, ◌∙◌}
use mathlib.Core.Bool.{Bool}
use mathlib.Core.List.{List}
use mathlib.Core.Logic.{◌⊎◌, inl, inr}
use mathlib.Core.Option.{Option, none, some}
use Prim.Native.Nat.{ℕ, ◌+◌, ◌-◌, ◌≤◌}
use native.Mathlib.Omega.{arith}
use borrow.Author.Tests.{ltb-false}
use lib.Dec.{eqb, ltb}
use lib.ListN.{length, take, drop}
use Rattle.number_tests.proofs.Tests.{first-none, both_false}
use Rattle.number_tests.specs.Tests.{first_of}
use Rattle.number_octets.specs.Octets.{number, part}
use Rattle.number_octets.proofs.Laws.{part-take}
use Rattle.number_offsets.specs.Offsets.{udp_header}
use Rattle.wire_nops.specs.declared.Strictness.{Strictness}
use Rattle.wire_options.specs.Walk.{Located, listed, walk_from, option_limit}
use Rattle.wire_area.specs.Area.{plain, piece, area_of}
use Rattle.wire_area.specs.declared.Fragment.{Fragment}
use Rattle.wire_surplus.specs.Surplus.{start_of}
use Rattle.wire_reading.specs.Reading.{no_data, extent, optionless, walked, is_odd}
use Rattle.wire_reading.specs.declared.Apc.TheVariants.{Absent}
use Rattle.wire_reading.specs.declared.Verdict.{Verdict}
use Rattle.wire_reading.specs.declared.Verdict.TheVariants.{Read, Piece}
use Rattle.wire_reading.specs.Packet.{PacketReading as Reading}
use Rattle.wire_reading.proofs.Cases.{Other, started-by}
use Rattle.wire_reading.proofs.Claims.{started-user}
use Rattle.wire_datagram.specs.Reading.{udp_length, udp_checksum, refusal_tests, accepted, reads, answered, reading}

-- ---- the user data

pub accepted-user : (how : Strictness) (p : List ℕ) → (accepted how p).user ≡ extent udp_header (udp_length p)
unfolding accepted
accepted-user how p = started-user how p (udp_length p) (start_of (is_odd (udp_length p)) (eqb (udp_checksum p) 0) (drop (udp_length p) p))

-- a payload that is read met no refusal, and its reading is the accepted one
pub met-none : (how : Strictness) (p s d : List ℕ) (r : Reading) → reading how p s d ≡ reads r → (first_of (refusal_tests p s d) ≡ none) × (accepted how p ≡ r)
unfolding reading
met-none how p s d r = go (first_of (refusal_tests p s d)) refl
  where
    go : (o : Option ℕ) → first_of (refusal_tests p s d) ≡ o → answered o (accepted how p) ≡ reads r → (first_of (refusal_tests p s d) ≡ none) × (accepted how p ≡ r)
    go none e q = (e, cc)
    go (some n) e q = cc

-- L is at least a header and within the payload
pub in-range : (p s d : List ℕ) → first_of (refusal_tests p s d) ≡ none → (udp_header ≤ udp_length p) × (udp_length p ≤ length p)
in-range p s d e =
    let size = udp_length p in
    let rest = (first-none _ _ (first-none _ _ e).1).1 in
    let third = both_false (ltb size udp_header) (ltb (length p) size) (first-none _ _ rest).0 in
    (ltb-false size udp_header third.0, ltb-false (length p) size third.1)

-- a reading by cases
pub reading-by : (how : Strictness) (P : Reading → Type 0) (p s d : List ℕ) (r : Reading) → reading how p s d ≡ reads r
    → ((end : ℕ) (verdict : Verdict) → Other verdict → P (optionless end verdict))
    → ((from : ℕ) (options : List Located) (fill : ℕ) → from ≤ length p → walk_from option_limit 0 (drop from p) ≡ listed options fill
    → P (walked p (udp_length p) from (plain options fill)))
    → ((from : ℕ) (f : Fragment) → from ≤ length p → area_of how (no_data (udp_length p)) from (drop from p) ≡ piece f → P (optionless (udp_length p) (Piece f)))
    → P r
unfolding accepted
reading-by how P p s d r e by-other by-list by-piece =
    let m = met-none how p s d r e in
    let L : ℕ = udp_length p in
    let odd : Bool = is_odd L in
    let unused : Bool = eqb (udp_checksum p) 0 in
    subst P m.1
    (started-by how P p L (in-range p s d m.0).1 by-other by-list by-piece odd unused (start_of odd unused (drop L p)) refl)

-- the user data of a reading is bytes 8 to L, whatever the verdict
pub user-extent : (how : Strictness) (p s d : List ℕ) (r : Reading) → reading how p s d ≡ reads r → r.user ≡ extent udp_header (udp_length p)
user-extent how p s d r e = ap (λ (x : Reading). x.user) (sym (met-none how p s d r e).1) ∙ accepted-user how p

-- ---- options only with "read"

-- nothing is reported of the area
pub record Silent (r : Reading) : Type 0 where
  pub no_list : r.options ≡ extent 0 0
  pub no_count : r.count ≡ 0
  pub no_fill : r.fill ≡ 0
  pub no_apc : r.apc ≡ Absent

pub options-only-with-read : (how : Strictness) (p s d : List ℕ) (r : Reading) → reading how p s d ≡ reads r → (r.verdict ≡ Read) ⊎ Silent r
options-only-with-read how p s d r e =
    reading-by how (λ x. (x.verdict ≡ Read) ⊎ Silent x) p s d r e
    (λ end verdict o. inr (record { no_list = refl; no_count = refl; no_fill = refl; no_apc = refl }))
    (λ from options fill h w. inl refl)
    (λ from f h a. inr (record { no_list = refl; no_count = refl; no_fill = refl; no_apc = refl }))

-- ---- user data survives

pub record Survives (how : Strictness) (p q s d : List ℕ) (r : Reading) : Type 0 where
  pub other : Reading
  pub is_read : reading how q s d ≡ reads other
  pub same_user : other.user ≡ r.user
  pub same_bytes : part udp_header (udp_length p - udp_header) q ≡ part udp_header (udp_length p - udp_header) p

-- Two payloads of one length that agree up to L: if the one is read so is the other, with the same user data.
pub user-data-survives : (how : Strictness) (p q s d : List ℕ) (r : Reading) → reading how p s d ≡ reads r → length q ≡ length p
    → take (udp_length p) q ≡ take (udp_length p) p → Survives how p q s d r
unfolding udp_header reading
user-data-survives how p q s d r e n front =
    let m = met-none how p s d r e in
    let range = in-range p s d m.0 in
    let L : ℕ = udp_length p in
    let same : (at k : ℕ) → at + k ≤ L → part at k q ≡ part at k p =
    λ at k h. sym (part-take at k L q h (omega arith)) ∙ ap (part at k) front ∙ part-take at k L p h (omega arith) in
    let size : udp_length q ≡ L = ap number (same 4 2 (omega arith)) in
    let sum : udp_checksum q ≡ udp_checksum p = ap number (same 6 2 (omega arith)) in
    let fronts : take (udp_length q) q ≡ take L p = ap (λ (k : ℕ). take k q) size ∙ front in
    let tests : refusal_tests q s d ≡ refusal_tests p s d = cc in
    record {
      other = accepted how q;
      is_read = answered-none (ap first_of tests ∙ m.0);
      same_user = accepted-user how q ∙ ap (extent udp_header) size ∙ sym (user-extent how p s d r e);
      same_bytes = same udp_header (L - udp_header) (omega arith);
    }
  where
    answered-none : first_of (refusal_tests q s d) ≡ none → reading how q s d ≡ reads (accepted how q)
    answered-none = ap (λ (o : Option ℕ). answered o (accepted how q))
