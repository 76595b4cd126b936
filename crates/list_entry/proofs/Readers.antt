-- Whatever a reader takes, the rest is the list from some position on: each number and each body takes its own bytes and no others.
-- Assumes nothing.
use mathlib.Core.Path.{◌≡◌, refl, sym, ap, ap₂, ◌∙◌}
use mathlib.Core.List.{List, [], ◌∷◌, ◌++◌}
use Prim.Native.Nat.{ℕ, ◌+◌, ◌-◌, ◌^◌, ◌≤◌, ◌<◌}
use native.Mathlib.Omega.{arith}
use lib.ListN.{length, take, drop, length-append, length-drop}
use lib.Seq.{drop-drop, length-take-le}
use Rattle.number_octets.specs.Octets.{octets, part}
use Rattle.number_octets.proofs.Laws.{length-octets}
use Rattle.number_varint.proofs.Laws as varint
use Rattle.wire_options.specs.Walk.{Item}
use Rattle.list_entry.specs.Shape.{Shape, fields, raw, barred, shape_of}
use Rattle.list_entry.specs.Option.{
  longest_body,
  got,
  and_then,
  read_as,
  read_number,
  read_fields,
  read_bytes,
  read_body,
  item_of,
  read_kind,
  read_option,
  total,
  Shaped,
}
use Rattle.list_entry.proofs.Parts.{then-got, as-got, bytes-got}
use Rattle.list_entry.proofs.Numbers.{NumberRead, number_read}
use Rattle.list_entry.proofs.Places.{place_of}

-- the rest is what is left of a list behind `past` bytes
pub record Behind (l rest : List ℕ) : Type 0 where
  pub past : ℕ
  pub within : past ≤ length l
  pub is : rest ≡ drop past l

behind-same : (l : List ℕ) → Behind l l
behind-same l = record { past = 0; within = omega arith; is = refl }

behind-number : {limit : ℕ} {l : List ℕ} {n : ℕ} {rest : List ℕ} → NumberRead limit l n rest → Behind l rest
behind-number {l = l} {n = n} r =
    record { past = r.width; within = varint.taken-within l n r.width r.there; is = r.behind }

abbrev behind-further : {l m rest : List ℕ} → Behind l m → Behind m rest → Behind l rest
behind-further {l} a b =
    record {
      past = a.past + b.past;
      within = omega (arith, a.within, b.within, ap length a.is, length-drop a.past l);
      is = b.is ∙ ap (drop b.past) a.is ∙ drop-drop b.past a.past l;
    }

-- a body of its right length, and the rest
pub record Took (shape : Shape) (l body rest : List ℕ) : Type 0 where
  pub shaped : Shaped shape body
  pub behind : Behind l rest
  -- a raw body ends where the rest begins
  pub bytes : shape ≡ raw → (length body ≤ behind.past) × (body ≡ part (behind.past - length body) (length body) l)

no-raw : (widths : List ℕ) → fields widths ≡ raw → ⊥
no-raw widths e = let z : ◌≡◌ {A = ℕ} 0 1 = cc in omega arith

fields-took : (widths l body rest : List ℕ) → read_fields widths l ≡ got body rest → (length body ≡ total widths) × Behind l rest
unfolding read_fields total
fields-took [] l body rest e =
    let none : [] ≡ body = cc in
    let all : l ≡ rest = cc in
    (sym (ap length none), rw (← all) (behind-same l))
fields-took (width ∷ widths) l body rest e =
    let n = then-got (read_number (256 ^ width) l) (λ v r. read_as (λ b. octets width v ++ b) (read_fields widths r)) e in
    let b = as-got (λ (b : List ℕ). octets width n.0 ++ b) (read_fields widths n.1) n.3 in
    let m = fields-took widths n.1 b.0 rest b.1 in (
      sym (ap length b.2) ∙ simp (length-append, length-octets) (omega (arith, m.0)),
      behind-further (behind-number (number_read (256 ^ width) l n.0 n.1 n.2)) m.1,
    )

raw-took : (l body rest : List ℕ) → and_then (read_number (longest_body + 1) l) read_bytes ≡ got body rest → Took raw l body rest
raw-took l body rest e =
    let n = then-got (read_number (longest_body + 1) l) read_bytes e in
    let b = bytes-got n.0 n.1 n.3 in
    let q = number_read (longest_body + 1) l n.0 n.1 n.2 in
    let before = behind-number q in
    let size : length body ≡ n.0 = sym (ap length b.1) ∙ length-take-le n.0 n.1 b.0 in
    let after : Behind n.1 rest = record { past = n.0; within = b.0; is = sym b.2 } in
    let start : before.past ≡ before.past + n.0 - length body = omega arith in
    record {
      shaped = omega (arith, q.small);
      behind = behind-further before after;
      bytes = λ u. (omega arith, sym b.1 ∙ ap (take n.0) before.is ∙ ap₂ (λ (a k : ℕ). part a k l) start (sym size));
    }

body-took : (shape : Shape) (l body rest : List ℕ) → read_body shape l ≡ got body rest → Took shape l body rest
unfolding read_body
body-took (fields widths) l body rest e =
    let m = fields-took widths l body rest e in
    record { shaped = m.0; behind = m.1; bytes = λ u. absurd (no-raw widths u) }
body-took raw l body rest e = raw-took l body rest e
body-took barred l body rest e = absurd (let z : ◌≡◌ {A = ℕ} 0 1 = cc in omega arith)

-- ---- an option at a position

pub record OptionAt (s : List ℕ) (at : ℕ) (item : Item) (next : ℕ) : Type 0 where
  pub reads : read_option (drop at s) ≡ got item (drop next s)
  pub ahead : at < next
  pub within : next ≤ length s
  pub shaped : Shaped (shape_of item.kind) item.body
  -- a raw body stands right before the next option
  pub bytes : shape_of item.kind ≡ raw → (length item.body ≤ next) × (item.body ≡ part (next - length item.body) (length item.body) s)

pub option-at : (s : List ℕ) (at : ℕ) (item : Item) (rest : List ℕ) → read_option (drop at s) ≡ got item rest
    → OptionAt s at item (length s - length rest)
unfolding read_option read_kind
option-at s at item rest e =
    let n = then-got (read_number 256 (drop at s)) read_kind e in
    let kind : ℕ = n.0 in
    let b = as-got (item_of kind) (read_body (shape_of kind) n.1) n.3 in
    let body : List ℕ = b.0 in
    let q = number_read 256 (drop at s) kind n.1 n.2 in
    let m = body-took (shape_of kind) n.1 body rest b.1 in
    let past : ℕ = at + q.width + m.behind.past in
    let some : 0 < q.width = varint.taken-some (drop at s) kind q.width q.there in
    let fits : q.width ≤ length s - at = rw length-drop at (varint.taken-within (drop at s) kind q.width q.there) in
    let from : n.1 ≡ drop (at + q.width) s = q.behind ∙ drop-drop q.width at s in
    let more : m.behind.past ≤ length s - (at + q.width) =
    omega (arith, m.behind.within, ap length from, length-drop (at + q.width) s) in
    let there : rest ≡ drop past s = m.behind.is ∙ ap (drop m.behind.past) from ∙ drop-drop m.behind.past (at + q.width) s in
    let here : length s - length rest ≡ past = ap (λ (x : List ℕ). length s - length x) there ∙ place_of s past (omega arith) in
    rw (← b.2, here)
    record {
      reads = e ∙ ap₂ got (sym b.2) there;
      ahead = omega arith;
      within = omega arith;
      shaped = m.shaped;
      bytes = λ u.
          let c = m.bytes u in
          let a : at + q.width + (m.behind.past - length body) ≡ past - length body = omega arith in (
            omega (arith, c.0),
            c.1 ∙ ap (part (m.behind.past - length body) (length body)) from
                ∙ ap (take (length body)) (drop-drop (m.behind.past - length body) (at + q.width) s)
                ∙ ap (λ (k : ℕ). part k (length body) s) a,
          );
    }
