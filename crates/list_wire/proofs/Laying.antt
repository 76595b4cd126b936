-- Parts laid over a buffer one behind the other are their whole laid over it, and an option is its head with its body behind it.
-- Assumes nothing.
use mathlib.Core.Path.{◌≡◌, refl, sym, ap, ap₂, ◌∙◌}
use mathlib.Core.Bool.{Bool, true, false, cond}
use mathlib.Core.List.{List, [], ◌∷◌, ◌++◌, append_assoc, append-nil}
use Prim.Native.Nat.{ℕ, ◌+◌, ◌/◌, ◌%◌, ◌≤◌, ◌<◌}
use native.Mathlib.Numerals.{add-one}
use native.Mathlib.Nat.{add-zero, mod-mod}
use native.Mathlib.Omega.{arith}
use borrow.Author.Tests.{le-leb, lt-leb}
use lib.Dec.{leb}
use lib.ListN.{length, take, drop, set, length-append, take-append-drop}
use lib.Seq.{length-take-le, drop-drop, drop_at}
use Rattle.number_octets.specs.Octets.{octets, overlay}
use Rattle.number_octets.proofs.Laws.{length-octets, length-overlay, take-overlay, overlay-append, overlay-sets, octets-mod}
use Rattle.list_entry.specs.Option.{item_of}
use Rattle.list_encoding.specs.Wire.{longest_short, whole_length}
use Rattle.list_payload.specs.Payload.{wire_of}
use Rattle.list_wire.specs.Parts.{Laid, head_of}

-- one part behind another
pub laid-append : {t : List ℕ} {at : ℕ} {a u : List ℕ} {m : ℕ} {b v : List ℕ} {e : ℕ} → Laid t at a u m → Laid u m b v e
    → at + length (a ++ b) ≤ length t → Laid t at (a ++ b) v e
laid-append {t} {at} {a} {u} {m} {b} p q fits =
    record {
      over =
          q.over ∙ ap₂ (λ (x : List ℕ) (n : ℕ). overlay x n b) p.over p.ends ∙ overlay-append t at a b fits;
      ends = q.ends ∙ omega (arith, p.ends, length-append a b);
    }

pub laid-length : {t : List ℕ} {at : ℕ} {a u : List ℕ} {m : ℕ} → Laid t at a u m → at + length a ≤ length t → length u ≡ length t
laid-length {t} {at} {a} p fits = ap length p.over ∙ length-overlay t at a fits

-- the same bytes under another name
pub laid_as : {t : List ℕ} {at : ℕ} {a b u : List ℕ} {m : ℕ} → a ≡ b → Laid t at a u m → Laid t at b u m
laid_as {t} {at} e p = record { over = p.over ∙ ap (overlay t at) e; ends = p.ends ∙ ap (λ (l : List ℕ). at + length l) e }

-- two bytes stored
pub laid-two : (t : List ℕ) (at x y : ℕ) → at + 2 ≤ length t → Laid t at (x ∷ y ∷ []) (set (set t at x) (at + 1) y) (at + 2)
laid-two t at x y fits =
    record { over = ap (λ (k : ℕ). set (set t at x) k y) (add-one at) ∙ overlay-sets t at (x ∷ y ∷ []) fits; ends = refl }

-- a number's bytes, or any bytes of known count, laid by an equation
pub laid_by : {t : List ℕ} {at : ℕ} {a u : List ℕ} (n : ℕ) → u ≡ overlay t at a → length a ≡ n → Laid t at a u (at + n)
laid_by {t} {at} n e k = record { over = e; ends = ap (λ (m : ℕ). at + m) (sym k) }

pub laid_none : (t : List ℕ) (at : ℕ) → Laid t at [] t at
laid_none t at =
    record { over = sym (ap (λ (n : ℕ). take at t ++ drop n t) (add-zero at) ∙ take-append-drop at t); ends = sym (add-zero at) }

-- ---- a part laid over a part

-- the front of what was laid, laid anew
overlay-again : (t : List ℕ) (m : ℕ) (b b' c : List ℕ) → length b' ≡ length b → m + length (b ++ c) ≤ length t
    → overlay (overlay t m (b ++ c)) m b' ≡ overlay t m (b' ++ c)
overlay-again t m b b' c same fits =
    let front : length (take m t) ≡ m = length-take-le m t (omega arith) in
    let end : List ℕ = drop (m + length (b ++ c)) t in
    let long : length (b' ++ c) ≡ length (b ++ c) = omega (arith, length-append b' c, length-append b c) in
    let behind : drop (m + length b') (overlay t m (b ++ c)) ≡ c ++ end =
    sym (drop-drop (length b') m (overlay t m (b ++ c)))
    ∙ ap (drop (length b')) (drop_at (take m t) ((b ++ c) ++ end) m front ∙ append_assoc b c end)
    ∙ drop_at b (c ++ end) (length b') (sym same) in
    ap₂ (λ (x y : List ℕ). x ++ (b' ++ y)) (take-overlay t m (b ++ c) fits) behind
    ∙ ap (λ (x : List ℕ). take m t ++ x)
    (sym (append_assoc b' c end) ∙ ap (λ (n : ℕ). (b' ++ c) ++ drop (m + n) t) (sym long))

-- a field set later, inside what was laid
pub laid-replace : {t : List ℕ} {at : ℕ} {u v : List ℕ} {e : ℕ} (a b b' c : List ℕ) → Laid t at (a ++ (b ++ c)) u e
    → v ≡ overlay u (at + length a) b' → length b' ≡ length b → at + length (a ++ (b ++ c)) ≤ length t → Laid t at (a ++ (b' ++ c)) v e
laid-replace {t} {at} {u} a b b' c p q same fits =
    let m : ℕ = at + length a in
    let whole : length (a ++ (b ++ c)) ≡ length a + length (b ++ c) = length-append a (b ++ c) in
    let whole' : length (a ++ (b' ++ c)) ≡ length a + length (b' ++ c) = length-append a (b' ++ c) in
    let long : length (b' ++ c) ≡ length (b ++ c) = omega (arith, length-append b' c, length-append b c) in
    let size : length (overlay t at a) ≡ length t = length-overlay t at a (omega arith) in
    record {
      over =
          q ∙ ap (λ (x : List ℕ). overlay x m b') (p.over ∙ sym (overlay-append t at a (b ++ c) fits))
          ∙ overlay-again (overlay t at a) m b b' c same (omega arith) ∙ overlay-append t at a (b' ++ c) (omega arith);
      ends = p.ends ∙ omega arith;
    }

-- ---- options

pub head-short : (kind size : ℕ) → size ≤ 252 → head_of kind size ≡ kind ∷ (size + 2) ∷ []
unfolding head_of
head-short kind size h = rw (le-leb (size + 2) longest_short (omega arith))

pub head-long : (kind size : ℕ) → 252 < size → head_of kind size ≡ kind ∷ 255 ∷ octets 2 (size + 4)
unfolding head_of
head-long kind size h = rw (lt-leb (size + 2) longest_short (omega arith))

pub wire-head : (kind : ℕ) (body : List ℕ) → wire_of (item_of kind body) ≡ head_of kind (length body) ++ body
unfolding wire_of head_of
wire-head kind body = go (leb (length body + 2) longest_short)
  where
    go : (t : Bool) → cond t (kind ∷ (length body + 2) ∷ body) (kind ∷ 255 ∷ (octets 2 (length body + 4) ++ body))
        ≡ cond t (kind ∷ (length body + 2) ∷ []) (kind ∷ 255 ∷ octets 2 (length body + 4)) ++ body
    go true = refl
    go false = refl

-- head and body take what the whole length says
pub head-length : (kind size : ℕ) → length (head_of kind size) + size ≡ whole_length size
unfolding head_of whole_length
head-length kind size = go (leb (size + 2) longest_short)
  where
    go : (t : Bool) → length (cond t (kind ∷ (size + 2) ∷ []) (kind ∷ 255 ∷ octets 2 (size + 4))) + size ≡ cond t (size + 2) (size + 4)
    go true = omega arith
    go false = omega (arith, length-octets 2 (size + 4))

pub wire-length : (kind : ℕ) (body : List ℕ) → length (wire_of (item_of kind body)) ≡ whole_length (length body)
wire-length kind body =
    ap length (wire-head kind body) ∙ length-append (head_of kind (length body)) body ∙ head-length kind (length body)

-- a head, and a body behind it
pub laid-option : {t : List ℕ} {at : ℕ} (kind size : ℕ) {u : List ℕ} {m : ℕ} {body v : List ℕ} {e : ℕ} → Laid t at (head_of kind size) u m → Laid u m body v e
    → length body ≡ size → at + whole_length size ≤ length t → Laid t at (wire_of (item_of kind body)) v e
laid-option {t} {at} kind size {body = body} p q n fits =
    let whole : head_of kind size ++ body ≡ wire_of (item_of kind body) =
    ap (λ (k : ℕ). head_of kind k ++ body) (sym n) ∙ sym (wire-head kind body) in
    let long : length (head_of kind size ++ body) ≡ whole_length size = length-append (head_of kind size) body ∙ omega (arith, head-length kind size) in
    laid_as whole (laid-append p q (omega arith))

-- where a body starts, there is room for it
pub body-room : {t : List ℕ} {at : ℕ} (kind size : ℕ) {u : List ℕ} {m : ℕ} → Laid t at (head_of kind size) u m → at + whole_length size ≤ length t
    → m + size ≤ length u
body-room {t} {at} kind size {m = m} p fits =
    let l = head-length kind size in
    omega (arith, p.ends, laid-length p (omega arith))

-- and where the option ends
pub body-ends : {t : List ℕ} {at : ℕ} (kind size : ℕ) {u : List ℕ} {m : ℕ} → Laid t at (head_of kind size) u m → m + size ≡ at + whole_length size
body-ends kind size p = omega (arith, p.ends, head-length kind size)

-- the extended form, as it is stored
pub laid-long : {t v : List ℕ} (at kind size : ℕ) → v ≡ overlay (set (set t at kind) (at + 1) 255) (at + 2) (octets 2 (size + 4)) → 252 < size
    → at + 4 ≤ length t → Laid t at (head_of kind size) v (at + 4)
laid-long {t} at kind size e h fits =
    let two : length (octets 2 (size + 4)) ≡ 2 = length-octets 2 (size + 4) in
    laid_as (sym (head-long kind size h))
    (laid-append (laid-two t at kind 255 (omega arith)) (record { over = e; ends = omega arith }) (omega arith))

-- two fields, one behind the other
pub laid_both : {t : List ℕ} {at : ℕ} (a b : List ℕ) {u v : List ℕ} (n m : ℕ) → u ≡ overlay t at a → v ≡ overlay u (at + n) b → length a ≡ n → length b ≡ m
    → at + (n + m) ≤ length t → Laid t at (a ++ b) v (at + (n + m))
laid_both {t} {at} a b n m p q la lb fits =
    let whole : length (a ++ b) ≡ n + m = length-append a b ∙ ap₂ ◌+◌ la lb in
    record {
      over = q ∙ ap₂ (λ (x : List ℕ) (k : ℕ). overlay x (at + k) b) p (sym la) ∙ overlay-append t at a b (omega arith);
      ends = ap (λ (k : ℕ). at + k) (sym whole);
    }

-- what is behind a part has room there
pub behind-room : {t : List ℕ} {at : ℕ} {a u : List ℕ} {m : ℕ} (b : List ℕ) → Laid t at a u m → at + length (a ++ b) ≤ length t → m + length b ≤ length u
behind-room {t} {at} {a} b p fits =
    let whole : length (a ++ b) ≡ length a + length b = length-append a b in omega (arith, p.ends, laid-length p (omega arith))

-- ---- the bytes of fields

pub narrow-bytes : (n : ℕ) → octets 2 (n % 65536) ≡ octets 2 n
narrow-bytes n = octets-mod 2 (n % 65536) n (mod-mod n 65536)

pub byte-bytes : (n : ℕ) → n % 256 ∷ [] ≡ octets 1 n
unfolding octets
byte-bytes n = let low : n % 256 ≡ n / 1 % 256 = omega arith in ap (λ (x : ℕ). x ∷ []) low

pub bare-head : (kind : ℕ) → head_of kind 0 ≡ wire_of (item_of kind [])
bare-head kind = sym (wire-head kind [] ∙ append-nil (head_of kind 0))
