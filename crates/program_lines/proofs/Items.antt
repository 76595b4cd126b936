-- The lines of a list, said option by option: what was said, and the lines of what the rest of the list holds, are the lines of the whole.
-- Assumes nothing.
use mathlib.Core.Path.{◌≡◌, refl, sym, ap, ap₂, ◌∙◌}
use mathlib.Core.Bool.{true, false}
use mathlib.Core.List.{List, [], ◌++◌, append_assoc, append-nil}
use Prim.Native.Nat.{ℕ, ◌+◌, ◌-◌, ◌≤◌}
use native.Mathlib.Omega.{arith}
use lib.ListN.{length, drop, length-drop}
use Rattle.wire_options.specs.Walk.{Located, item_of, walk_from, option_limit, options_of, offset_before}
use Rattle.wire_options.proofs.Rests.{Rest, rest_all}
use Rattle.wire_offsets.specs.Places.{Got}
use Rattle.wire_offsets.proofs.Turns.{Turned}
use Rattle.program_text.specs.Put.{Put}
use Rattle.program_lines.specs.Lines.{option_line, option_lines, is_listed}
use Rattle.program_text.proofs.Puts.{put_as, put-none, put-append}

pub record Saying (base : ℕ) (list buffer : List ℕ) (at : ℕ) (text : List ℕ) (end from : ℕ) : Type 0 where
  pub said : List ℕ
  pub options : List Located
  pub within : from ≤ length list
  pub put : Put buffer at said end text
  pub rest : Rest list from options
  pub whole : said ++ option_lines (base + length list) options ≡ option_lines (base + length list) (options_of (walk_from option_limit 0 list))

pub saying-first : (base : ℕ) (list text : List ℕ) (at : ℕ) → is_listed (walk_from option_limit 0 list) ≡ true → Saying base list text at text at 0
saying-first base list text at h =
    record {
      said = [];
      options = options_of (walk_from option_limit 0 list);
      within = omega arith;
      put = put-none text at;
      rest =
          rest_all list option_limit
          (λ fault remains e.
          let no : false ≡ true = sym (ap is_listed e) ∙ h in
          let z : ◌≡◌ {A = ℕ} 0 1 = cc in omega arith);
      whole = refl;
    }

-- the offset of an option that was got at a place is the one that remains of the list
place-offset : (base : ℕ) (list : List ℕ) (place kind header size : ℕ) (option : Located) → Got list place kind header size option
    → record { 0 = base + place } ≡ offset_before (base + length list) option.remains
place-offset base list place kind header size option g =
    let same : base + place ≡ base + length list - option.remains = omega (arith, g.remaining, length-drop place list, g.fits) in
    ap (λ (n : ℕ). record { 0 = n }) same

module _ {base : ℕ} {list buffer : List ℕ} {at : ℕ} {text : List ℕ} {end from : ℕ} (s : Saying base list buffer at text end from) where
  -- nothing is left to say
  pub saying-last : [] ≡ s.options → Put buffer at (option_lines (base + length list) (options_of (walk_from option_limit 0 list))) end text
  unfolding option_lines
  saying-last none =
      put_as (sym (append-nil s.said) ∙ ap (λ (i : List Located). s.said ++ option_lines (base + length list) i) none ∙ s.whole) s.put

  -- an option is said
  pub saying-found : {n kind h size next : ℕ} {text' : List ℕ} → at ≤ length buffer → Turned list from s.options n kind h size
      → Put text end (option_line (record { 0 = base + (from + n) }) (item_of kind h size (drop (from + n) list))) next text'
      → Saying base list buffer at text' next (from + n + size)
  unfolding option_lines
  saying-found {n} {kind} {h} {size} room t p =
      let line : List ℕ = option_line (offset_before (base + length list) t.option.remains) t.option.item in
      let same : option_line (record { 0 = base + (from + n) }) (item_of kind h size (drop (from + n) list)) ≡ line =
      ap₂ option_line (place-offset base list (from + n) kind h size t.option t.got) (sym t.got.whole) in
      record {
        said = s.said ++ line;
        options = t.later;
        within = t.got.fits;
        put = put-append room s.put (put_as same p);
        rest = t.rest;
        whole =
            append_assoc s.said line (option_lines (base + length list) t.later)
            ∙ ap (λ (i : List Located). s.said ++ option_lines (base + length list) i) (sym t.splits) ∙ s.whole;
      }
