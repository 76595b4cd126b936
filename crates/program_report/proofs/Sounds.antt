-- Every reading has its user data behind the header; with verdict "read" its option list is a part of the payload that is walked without fault.
-- Assumes nothing.
use mathlib.Core.Path.{◌≡◌, sym, ap, ◌∙◌, subst⁻¹}
use mathlib.Core.Bool.{Bool, true, false, cond}
use mathlib.Core.List.{List, ◌++◌, append-nil, []}
use Prim.Native.Nat.{ℕ, ◌≤◌}
use native.Mathlib.Omega.{arith}
use lib.ListN.{length}
use Rattle.wire_nops.specs.declared.Strictness.{Strictness}
use Rattle.wire_options.specs.Walk.{walk_from, option_limit}
use Rattle.wire_reading.specs.Extents.{size_of}
use Rattle.wire_datagram.specs.Reading.{reads, reading}
use Rattle.wire_reading.specs.Reading.{is_read}
use Rattle.wire_reading.specs.declared.Extent.{Extent}
use Rattle.wire_reading.specs.Packet.{PacketReading as Reading}
use Rattle.wire_datagram.proofs.Claims.{met-none, in-range, user-extent}
use Rattle.wire_datagram.proofs.Lists.{reading-lists}
use Rattle.wire_reading.proofs.Lists.{ListsIn, lists-part, read-verdict}
use Rattle.program_lines.specs.Lines.{is_listed}
use Rattle.program_verdict.specs.Words.{verdict_line}
use Rattle.program_report.specs.Words.{user_word}
use Rattle.program_report.specs.Report.{number_line, listing_of, reading_text}
use Rattle.program_report.specs.Sound.{Listable, Sound}

-- ---- a reading

listable : (p : List ℕ) (r : Reading) → ListsIn p r → Listable p r.options
listable p r l =
    let n : r.options.to.0 ≡ length p = l.ends in
    record {
      ordered = l.ordered;
      within = omega arith;
      walks = ap (λ (x : List ℕ). is_listed (walk_from option_limit 0 x)) (lists-part p _ _ _ _ l) ∙ ap is_listed l.walks;
    }

pub reading-sound : (how : Strictness) (p s d : List ℕ) (r : Reading) → reading how p s d ≡ reads r → Sound p r
reading-sound how p s d r e = record {
  user = subst⁻¹ (λ (x : Extent). x.from.0 ≤ x.to.0) (user-extent how p s d r e) (in-range p s d (met-none how p s d r e).0).0;
  options = λ q. listable p r (reading-lists how p s d r e (read-verdict r.verdict q));
}

-- ---- its text

module _ (p : List ℕ) (r : Reading) where
  abbrev two_lines : List ℕ
  two_lines = number_line user_word (size_of r.user) ++ verdict_line r.verdict

  text_by : (t : Bool) → is_read r.verdict ≡ t → two_lines ++ cond t (listing_of p r.options r.fill) [] ≡ reading_text p r
  unfolding reading_text
  text_by t e = ap (λ (x : Bool). two_lines ++ cond x (listing_of p r.options r.fill) []) (sym e)

  pub text-read : is_read r.verdict ≡ true → two_lines ++ listing_of p r.options r.fill ≡ reading_text p r
  text-read e = text_by true e

  pub text-other : is_read r.verdict ≡ false → two_lines ≡ reading_text p r
  text-other e = sym (append-nil two_lines) ∙ text_by false e
