-- `client_offer::check` meets its contract: the tests are the definition's, in its order; none of the sums and differences wraps.
use mathlib.Core.Path.{◌≡◌, sym, ap, ◌∙◌}
use mathlib.Core.Bool.{Bool, true, false, ◌&&◌, and-false}
use Prim.Native.Nat.{ℕ, ◌+◌, ◌-◌, ◌<◌, ◌≤◌}
use native.Mathlib.Omega.{arith}
use lib.Dec.{eqb, ltb}
use borrow.Author.Tests.{lt-ltb, le-ltb, eq-eqb, ne_eqb}
use Rattle.number_tests.specs.Tests.{first_of}
use Rattle.client_record.specs.declared.Client.{Client}
use Rattle.client_record.specs.Limits.{datagram_limit, offered_limit}
use Rattle.client_record.specs.Record.{sound_record}
use Rattle.client_record.proofs.SoundParts.{sound-parts}
use Rattle.client_reassembly.specs.Offer.{offer_tests}
use Rattle.client_offer.proofs.check.Goals as goal
use Rattle.client_offer.proofs.check.Goals.{
  then-offset-gt-DATAGRAM_LIMIT-via-then-offset-gt-DATAGRAM_LIMIT,
  then-offset-gt-DATAGRAM_LIMIT-via-else-offset-gt-DATAGRAM_LIMIT+then-offset-n,
  else-o-via-then-o+else-offset-n-2,
  else-o-via-else-o,
}

-- 22 to 24 have let it pass
record Upto24 (c : Client) (m n : ℕ) : Type 0 where
  e22 : sound_record c ≡ true
  e23 : ltb m datagram_limit ≡ false
  e24 : eqb n 0 ≡ false

upto24 : (c : Client) (m n : ℕ) (s : Bool) → s ≡ sound_record c → s ≡ true → datagram_limit ≤ m → (n ≡ 0 → ⊥) → Upto24 c m n
upto24 c m n s is e22 e23 e24 = record { e22 = sym is ∙ e22; e23 = le-ltb _ _ e23; e24 = ne_eqb _ _ e24 }

-- and 25
ends : (offset n : ℕ) → offset ≤ datagram_limit → n ≤ datagram_limit - offset → ltb datagram_limit (offset + n) ≡ false
ends offset n e25 room =
    let h : offset + n ≤ datagram_limit = omega arith in
    le-ltb _ _ h

-- and 26
starts : (last : Bool) (at start : ℕ) → start ≤ at → (last && ltb at start) ≡ false
starts last at start h = ap (λ (b : Bool). last && b) (le-ltb _ _ h) ∙ and-false last

pub returns-then-not-sound : goal.returns-then-not-sound
unfolding offer_tests first_of
returns-then-not-sound c = let e22 : sound_record c.args.client ≡ false = sym c.sound.ensures ∙ c.if-not-sound.true in
    simp e22

pub returns-then-out_length-lt-DATAGRAM_LIMIT : goal.returns-then-out_length-lt-DATAGRAM_LIMIT
unfolding offer_tests first_of datagram_limit
returns-then-out_length-lt-DATAGRAM_LIMIT c = let e22 : sound_record c.args.client ≡ true = sym c.sound.ensures ∙ c.if-not-sound.false in
    simp (e22, lt-ltb _ _ c.if-out_length-lt-DATAGRAM_LIMIT.true)

pub returns-then-n-eq0 : goal.returns-then-n-eq0
unfolding offer_tests first_of datagram_limit
returns-then-n-eq0 c = let e22 : sound_record c.args.client ≡ true = sym c.sound.ensures ∙ c.if-not-sound.false in
    simp (e22, le-ltb _ _ c.if-out_length-lt-DATAGRAM_LIMIT.false, eq-eqb _ _ c.if-n-eq0.true)

pub returns-then-offset-gt-DATAGRAM_LIMIT : goal.returns-then-offset-gt-DATAGRAM_LIMIT
unfolding offer_tests first_of datagram_limit
returns-then-offset-gt-DATAGRAM_LIMIT c = let x = c.args in
    let k = upto24 x.client x.out_length x.n _ c.sound.ensures c.if-not-sound.false c.if-out_length-lt-DATAGRAM_LIMIT.false c.if-n-eq0.false in
    let h : datagram_limit < x.o.offset.0 + x.n =
    elim c.then-offset-gt-DATAGRAM_LIMIT.branch [
      | then-offset-gt-DATAGRAM_LIMIT-via-then-offset-gt-DATAGRAM_LIMIT w ↦ omega (arith, w.if-offset-gt-DATAGRAM_LIMIT.true)
      | then-offset-gt-DATAGRAM_LIMIT-via-else-offset-gt-DATAGRAM_LIMIT+then-offset-n w ↦
          omega (arith, w.if-offset-gt-DATAGRAM_LIMIT.false, w.if-offset-n.true)
    ] in
    simp (k.e22, k.e23, k.e24, lt-ltb _ _ h)

pub returns-then-offset-n-2 : goal.returns-then-offset-n-2
unfolding offer_tests first_of datagram_limit
returns-then-offset-n-2 c = let x = c.args in
    let k = upto24 x.client x.out_length x.n _ c.sound.ensures c.if-not-sound.false c.if-out_length-lt-DATAGRAM_LIMIT.false c.if-n-eq0.false in
    simp (k.e22, k.e23, k.e24, ends x.o.offset.0 x.n c.if-offset-gt-DATAGRAM_LIMIT.false c.if-offset-n.false, c.if-o.true, lt-ltb _ _ c.if-offset-n-2.true)

pub returns-then-o-client : goal.returns-then-o-client
unfolding offer_tests first_of datagram_limit
returns-then-o-client c = let x = c.args in
    let k = upto24 x.client x.out_length x.n _ c.sound.ensures c.if-not-sound.false c.if-out_length-lt-DATAGRAM_LIMIT.false c.if-n-eq0.false in
    let e26 : (x.o.last && ltb (x.o.offset.0 + x.n) x.o.option_start.0) ≡ false =
    elim c.else-o.branch [
      | else-o-via-then-o+else-offset-n-2 w ↦ starts x.o.last _ _ w.if-offset-n-2.false
      | else-o-via-else-o w ↦ ap (λ (b : Bool). b && ltb (x.o.offset.0 + x.n) x.o.option_start.0) w.if-o.false
    ] in
    simp (k.e22, k.e23, k.e24, ends x.o.offset.0 x.n c.if-offset-gt-DATAGRAM_LIMIT.false c.if-offset-n.false, e26, lt-ltb _ _ c.if-o-client.true)

pub overflow_sub-client : goal.overflow_sub-client
unfolding offered_limit
overflow_sub-client c = omega (arith, (sound-parts c.args.client (sym c.sound.ensures ∙ c.if-not-sound.false)).limit)

pub returns-then-client-n : goal.returns-then-client-n
unfolding offer_tests first_of datagram_limit offered_limit
returns-then-client-n c = let x = c.args in
    let k = upto24 x.client x.out_length x.n _ c.sound.ensures c.if-not-sound.false c.if-out_length-lt-DATAGRAM_LIMIT.false c.if-n-eq0.false in
    let e26 : (x.o.last && ltb (x.o.offset.0 + x.n) x.o.option_start.0) ≡ false =
    elim c.else-o.branch [
      | else-o-via-then-o+else-offset-n-2 w ↦ starts x.o.last _ _ w.if-offset-n-2.false
      | else-o-via-else-o w ↦ ap (λ (b : Bool). b && ltb (x.o.offset.0 + x.n) x.o.option_start.0) w.if-o.false
    ] in
    let h : offered_limit < x.client.offered + x.n = omega (arith, (sound-parts x.client k.e22).limit, c.if-client-n.true) in
    simp (k.e22, k.e23, k.e24, ends x.o.offset.0 x.n c.if-offset-gt-DATAGRAM_LIMIT.false c.if-offset-n.false, e26, le-ltb _ _ c.if-o-client.false, lt-ltb _ _ h)

pub returns : goal.returns
unfolding offer_tests first_of datagram_limit offered_limit
returns c = let x = c.args in
    let k = upto24 x.client x.out_length x.n _ c.sound.ensures c.if-not-sound.false c.if-out_length-lt-DATAGRAM_LIMIT.false c.if-n-eq0.false in
    let e26 : (x.o.last && ltb (x.o.offset.0 + x.n) x.o.option_start.0) ≡ false =
    elim c.else-o.branch [
      | else-o-via-then-o+else-offset-n-2 w ↦ starts x.o.last _ _ w.if-offset-n-2.false
      | else-o-via-else-o w ↦ ap (λ (b : Bool). b && ltb (x.o.offset.0 + x.n) x.o.option_start.0) w.if-o.false
    ] in
    let h : x.client.offered + x.n ≤ offered_limit = omega (arith, (sound-parts x.client k.e22).limit, c.if-client-n.false) in
    simp (k.e22, k.e23, k.e24, ends x.o.offset.0 x.n c.if-offset-gt-DATAGRAM_LIMIT.false c.if-offset-n.false, e26, le-ltb _ _ c.if-o-client.false, le-ltb _ _ h)
