-- A list that is a part of longer bytes (document 02, R-7): a byte of the list is a byte of them, as far behind the list's start as it stands in the
-- list. So what is known of the places of options and faults in the list is known of their places in the bytes.
-- Assumes nothing.
use mathlib.Core.Path.{◌≡◌, sym, ap, subst, ◌∙◌}
use mathlib.Core.List.{List, [], ◌∷◌}
use Prim.Native.Nat.{ℕ, ◌+◌, ◌≤◌, ◌<◌}
use native.Mathlib.Omega.{arith}
use lib.ListN.{length, drop, get_or, length-drop, length-take}
use lib.Seq.{get_or-drop, get_or-take, drop-drop}
use Rattle.number_octets.specs.Octets.{part}
use Rattle.wire_step.specs.Step.{step_of}
use Rattle.wire_options.specs.Walk.{Located, listed, item_of, walk_from}
use Rattle.wire_options.specs.declared.walk.Fault.{Fault}
use Rattle.wire_offsets.specs.Places.{place_before, place_in, Each, Stands, Apart, place_from, StandsFrom, ApartFrom, OptionsFrom, FaultAt, ByteOf}
use Rattle.wire_offsets.proofs.Options.{each_map, options-stand, options-apart, options-before-fill}
use Rattle.wire_offsets.proofs.FaultBytes.{byte_of}

-- ---- bytes

-- the bytes of `l` stand in `bytes`, from `start` on
pub record LiesIn (bytes : List ℕ) (start : ℕ) (l : List ℕ) : Type 0 where
  pub within : (i : ℕ) → i < length l → start + i < length bytes
  pub same : (i : ℕ) → i < length l → get_or bytes (start + i) 0 ≡ get_or l i 0

pub rest-lies : (bytes : List ℕ) (start : ℕ) → LiesIn bytes start (drop start bytes)
rest-lies bytes start = record {
  within = λ i h. omega (arith, length-drop start bytes);
  same = λ i h. sym (get_or-drop start bytes i 0);
}

pub part_lies : (bytes : List ℕ) (start : ℕ) (l : List ℕ) (skip n : ℕ) → LiesIn bytes start l → LiesIn bytes (start + skip) (part skip n l)
part_lies bytes start l skip n lies = record {
  within = λ i h. let inside = in-part i h in omega (arith, lies.within (skip + i) inside.1);
  same = λ i h.
      let inside = in-part i h in
      let place : start + skip + i ≡ start + (skip + i) = omega arith in
      ap (λ (k : ℕ). get_or bytes k 0) place ∙ lies.same (skip + i) inside.1 ∙ sym (get_or-drop skip l i 0) ∙ sym (get_or-take n (drop skip l) i 0 inside.0);
}
  where
    in-part : (i : ℕ) → i < length (part skip n l) → (i < n) × (skip + i < length l)
    in-part i h = (omega (arith, length-take n (drop skip l)), omega (arith, length-take n (drop skip l), length-drop skip l))

-- ---- faults

-- the place where a fault is met is that of a byte, and the byte is what the fault says
pub record FaultByte (bytes : List ℕ) (start : ℕ) (fault : Fault) (place : ℕ) : Type 0 where
  pub behind : start ≤ place
  pub within : place < length bytes
  pub byte : ByteOf fault (get_or bytes place 0)

pub fault-lies : (bytes : List ℕ) (start : ℕ) (l : List ℕ) (fault : Fault) (remains : ℕ) → LiesIn bytes start l → FaultAt l fault remains
    → FaultByte bytes start fault (start + place_before l remains)
fault-lies bytes start l fault remains lies f =
    let place : ℕ = place_before l remains in
    let inside : place < length l = omega (arith, f.within, f.some) in
    record {
      behind = omega arith;
      within = lies.within place inside;
      byte = subst (ByteOf fault) (sym (lies.same place inside)) (byte_of l place fault f.met);
    }

-- ---- options

each_both : {P Q R : Located → Type 0} → ((option : Located) → P option → Q option → R option) → (options : List Located) → Each P options → Each Q options
    → Each R options
each_both f [] p q = tt
each_both f (option ∷ options) p q = (f option p.0 q.0, each_both f options p.1 q.1)

module _ (bytes : List ℕ) (from : ℕ) where
  abbrev rest : List ℕ
  rest = drop from bytes

  stands_from : (fill : ℕ) (option : Located) → Stands rest option → place_in rest option + option.size + fill ≤ length rest → StandsFrom bytes from fill option
  stands_from fill option s before =
      let there : drop (place_in rest option) rest ≡ drop (place_from bytes from option) bytes = drop-drop (place_in rest option) from bytes in
      record {
        behind = omega arith;
        some = s.some;
        ends = omega (arith, s.some, length-drop from bytes);
        byte = sym (get_or-drop from bytes (place_in rest option) 0) ∙ s.byte;
        header = s.header;
        found = ap step_of (sym there) ∙ s.found;
        whole = s.whole ∙ ap (item_of option.item.kind s.header option.size) there;
      }

  apart_from : (options : List Located) → Apart rest options → ApartFrom bytes from options
  apart_from [] a = tt
  apart_from (option ∷ options) a = (each_map (λ later h. omega (arith, h)) options a.0, apart_from options a.1)

  -- the options of a list that reaches from `from` to the end of the bytes
  pub options-from : (room : ℕ) (options : List Located) (fill : ℕ) → walk_from room 0 rest ≡ listed options fill → OptionsFrom bytes from fill options
  options-from room options fill q = record {
    stand = each_both (stands_from fill) options (options-stand rest room options fill q) (options-before-fill rest room options fill q);
    apart = apart_from options (options-apart rest room options fill q);
  }
