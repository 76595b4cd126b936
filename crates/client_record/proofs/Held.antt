-- Laws of the fragments that an assembly holds: the front of its slots.
-- Assumes nothing.
use mathlib.Core.Path.{◌≡◌, sym, ap}
use mathlib.Core.Bool.{Bool, true, false, not, cond}
use mathlib.Core.List.{List}
use Prim.Native.Nat.{ℕ, ◌+◌, ◌<◌}
use lib.Dec.{eqb}
use lib.ListN.{length, get_or, drop}
use Rattle.client_record.specs.declared.Fragment.{Fragment}
use Rattle.client_record.specs.declared.Assembly.{Assembly}
use Rattle.client_record.specs.Record.{is_last, mark_of, held_fragments, spare_slots, last_of}
use Rattle.client_record.proofs.Lists.{get_d_front, drop-front, drop-next}

-- what a read past the slots would give
abbrev pub none : Fragment
none = record { offset = 0; length = 0; option_start = 0; last = 0 }

-- the mark that is stored says what it was made of
pub marks-last : (f : Fragment) (b : Bool) → f.last ≡ mark_of b → is_last f ≡ b
unfolding is_last
marks-last f true e = ap (λ (n : ℕ). not (eqb n 0)) e
marks-last f false e = ap (λ (n : ℕ). not (eqb n 0)) e

-- a slot below the count is a held fragment
pub held_at : (a : Assembly) (i : ℕ) (d : Fragment) → i < length (held_fragments a) → get_or a.fragments i d ≡ get_or (held_fragments a) i d
unfolding held_fragments
held_at a i d h = sym (get_d_front a.count a.fragments i d h)

-- the slots behind the held fragments
pub spare-from : (a : Assembly) → drop (length (held_fragments a)) a.fragments ≡ spare_slots a
unfolding held_fragments spare_slots
spare-from a = drop-front a.count a.fragments

pub spare-all : (a : Assembly) → a.count ≡ 0 → spare_slots a ≡ a.fragments
unfolding spare_slots
spare-all a e = ap (λ (k : ℕ). drop k a.fragments) e

-- the one marked last, looked for from i on
pub last-left : (l : List Fragment) (i : ℕ) (d : Fragment) → i < length l → last_of (drop i l) ≡ cond (is_last (get_or l i d)) (get_or l i d) (last_of (drop (i + 1) l))
unfolding last_of
last-left l i d h = ap last_of (drop-next l i d h)
