-- The text of a whole input: it fits the program's text whole, and by the input's length it is refusal 1 or the report on the payload behind the
-- two addresses.
-- Assumes nothing.
use mathlib.Core.Path.{◌≡◌, refl, sym, ap, ap₂, ◌∙◌}
use mathlib.Core.Bool.{Bool, true, false, cond}
use mathlib.Core.List.{List, [], ◌∷◌, ◌++◌}
use Prim.Native.Nat.{ℕ, ◌-◌, ◌≤◌, ◌<◌}
use native.Mathlib.Nat.{zero-add}
use native.Mathlib.Omega.{arith}
use borrow.Author.Tests.{lt-ltb, le-ltb, ltb-true, ltb-false}
use lib.Dec.{ltb}
use lib.ListN.{length, take, drop, get_or, length-append, length-drop}
use lib.Seq.{take_all, length-take-le}
use Rattle.number_octets.specs.Octets.{part}
use Rattle.number_octets.proofs.Laws.{part-rest}
use Rattle.number_offsets.specs.Offsets.{udp_header}
use Rattle.wire_nops.specs.declared.Strictness.TheVariants.{Plain}
use Rattle.wire_reading.specs.Reading.{payload_limit}
use Rattle.wire_datagram.proofs.Refusals.{refused-long}
use Rattle.program_report.specs.Words.{refused_word}
use Rattle.program_report.specs.Report.{number_line, answer_text, report_of}
use Rattle.program_text.specs.Put.{fitting, Put}
use Rattle.program_printout.specs.Input.{address_size, addresses, input_limit, text_of, text_limit, Holds}
use Rattle.program_text.proofs.Puts.{put_as}
use Rattle.program_printout.proofs.Sizes.{input-fits}

-- what is put at the front of a buffer that has room for it stands there whole
put_holds : {t s : List ℕ} {r : ℕ} {left : List ℕ} → length s ≤ length t → Put t 0 s r left → Holds t s r left
put_holds {t} {s} h p =
    let all : fitting t 0 s ≡ s = take_all (length t - 0) s (omega arith) in
    record {
      ends = p.ends ∙ zero-add (length (fitting t 0 s)) ∙ ap length all;
      leaves = p.leaves ∙ ap₂ (λ (n : ℕ) (x : List ℕ). x ++ drop n t) (zero-add (length (fitting t 0 s)) ∙ ap length all) all;
    }

-- what stands there ends within the buffer
pub holds-room : {t s : List ℕ} {r : ℕ} {left : List ℕ} → Holds t s r left → r ≤ length left
holds-room {t} {s} {r} {left} h =
    let n : length left ≡ length (s ++ drop (length s) t) = ap length h.leaves in
    omega (arith, h.ends, length-append s (drop (length s) t))

-- the program's text has room for every report
pub input-holds : (input : List ℕ) {t s : List ℕ} {r : ℕ} {left : List ℕ} → length t ≡ text_limit → s ≡ text_of input → Put t 0 s r left
    → Holds t (text_of input) r left
input-holds input {t} {s} {r} {left} n e p =
    let h : length (text_of input) ≤ length t = omega (arith, input-fits input) in
    put_holds h (put_as e p)

-- ---- by the input's length

pub input-short : (input : List ℕ) → length input < addresses → number_line refused_word 1 ≡ text_of input
unfolding text_of
input-short input h = simp (lt-ltb (length input) addresses h)

source-bytes : (l : List ℕ) → addresses ≤ length l → get_or l 0 0 ∷ get_or l 1 0 ∷ get_or l 2 0 ∷ get_or l 3 0 ∷ [] ≡ take address_size l
source-bytes [] h = absurd (omega arith)
source-bytes (a ∷ []) h = absurd (omega arith)
source-bytes (a ∷ b ∷ []) h = absurd (omega arith)
source-bytes (a ∷ b ∷ c ∷ []) h = absurd (omega arith)
source-bytes (a ∷ b ∷ c ∷ d ∷ l) h = refl

destination-bytes : (l : List ℕ) → addresses ≤ length l
    → get_or l 4 0 ∷ get_or l 5 0 ∷ get_or l 6 0 ∷ get_or l 7 0 ∷ [] ≡ part address_size address_size l
destination-bytes [] h = absurd (omega arith)
destination-bytes (a ∷ []) h = absurd (omega arith)
destination-bytes (a ∷ b ∷ []) h = absurd (omega arith)
destination-bytes (a ∷ b ∷ c ∷ []) h = absurd (omega arith)
destination-bytes (a ∷ b ∷ c ∷ d ∷ []) h = absurd (omega arith)
destination-bytes (a ∷ b ∷ c ∷ d ∷ e ∷ []) h = absurd (omega arith)
destination-bytes (a ∷ b ∷ c ∷ d ∷ e ∷ f ∷ []) h = absurd (omega arith)
destination-bytes (a ∷ b ∷ c ∷ d ∷ e ∷ f ∷ g ∷ []) h = absurd (omega arith)
destination-bytes (a ∷ b ∷ c ∷ d ∷ e ∷ f ∷ g ∷ i ∷ l) h = refl

-- the report on the payload behind the addresses, each by its bytes
pub input-long : (l : List ℕ) → addresses ≤ length l
    → report_of (part addresses (length l - addresses) l) (get_or l 0 0 ∷ get_or l 1 0 ∷ get_or l 2 0 ∷ get_or l 3 0 ∷ [])
    (get_or l 4 0 ∷ get_or l 5 0 ∷ get_or l 6 0 ∷ get_or l 7 0 ∷ [])
    ≡ text_of l
unfolding text_of
input-long l h =
    let whole : List ℕ = report_of (drop addresses l) (take address_size l) (part address_size address_size l) in
    ap (λ (p : List ℕ).
    report_of p (get_or l 0 0 ∷ get_or l 1 0 ∷ get_or l 2 0 ∷ get_or l 3 0 ∷ []) (get_or l 4 0 ∷ get_or l 5 0 ∷ get_or l 6 0 ∷ get_or l 7 0 ∷ [])) (part-rest addresses l)
    ∙ ap₂ (λ (s d : List ℕ). report_of (drop addresses l) s d) (source-bytes l h) (destination-bytes l h)
    ∙ sym (ap (λ (t : Bool). cond t (number_line refused_word 1) whole) (le-ltb (length l) addresses h))

-- ---- what need not be read

too_long : (payload source destination : List ℕ) → udp_header ≤ length payload → payload_limit < length payload
    → report_of payload source destination ≡ number_line refused_word 2
unfolding report_of
too_long payload source destination g h = ap (answer_text payload) (refused-long Plain payload source destination g h)

long-input : (l : List ℕ) → input_limit ≤ length l → text_of l ≡ number_line refused_word 2
unfolding text_of input_limit udp_header payload_limit
long-input l h =
    let whole : List ℕ = report_of (drop addresses l) (take address_size l) (part address_size address_size l) in
    let some : addresses ≤ length l = omega arith in
    ap (λ (t : Bool). cond t (number_line refused_word 1) whole) (le-ltb (length l) addresses some)
    ∙ too_long (drop addresses l) (take address_size l) (part address_size address_size l) (simp length-drop (omega arith)) (simp length-drop (omega arith))

-- The bytes behind one more than a payload may have change nothing: it is too long whatever they are, or there are none.
pub input-cut : (l : List ℕ) → text_of (take input_limit l) ≡ text_of l
input-cut l = go (ltb input_limit (length l)) refl
  where
    go : (t : Bool) → ltb input_limit (length l) ≡ t → text_of (take input_limit l) ≡ text_of l
    go false e = ap text_of (take_all input_limit l (ltb-false input_limit (length l) e))
    go true e =
        let long : input_limit < length l = ltb-true input_limit (length l) e in
        let exact : length (take input_limit l) ≡ input_limit = length-take-le input_limit l (omega arith) in
        long-input (take input_limit l) (omega arith) ∙ sym (long-input l (omega arith))
