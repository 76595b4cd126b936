-- The options of a walk stand where it says, one behind the other, before the fill (document 02, R-7): what remains of a list is the same whatever
-- stands in front of it, so what is known of the bytes behind the first is known of the list.
-- Assumes nothing.
use mathlib.Core.Path.{◌≡◌, refl, sym, ap, ◌∙◌}
use mathlib.Core.List.{List, [], ◌∷◌}
use Prim.Native.Nat.{ℕ, suc, ◌+◌, ◌-◌, ◌≤◌}
use native.Mathlib.Omega.{arith}
use lib.ListN.{length, drop, get_or, length-drop}
use lib.Seq.{get_or-drop}
use Rattle.wire_step.specs.Kinds.{frag}
use Rattle.wire_step.specs.Step.{step_of}
use Rattle.wire_step.specs.declared.Step.TheVariants.{Found}
use Rattle.wire_step.proofs.Steps.{step-found}
use Rattle.wire_options.specs.Walk.{Located, listed, item_of, located_of, walk_from}
use Rattle.wire_options.proofs.Rests.{walk-all}
use Rattle.wire_offsets.specs.Places.{place_in, Each, Stands, Apart}

pub each_map : {P Q : Located → Type 0} → ((option : Located) → P option → Q option) → (options : List Located) → Each P options → Each Q options
each_map f [] e = tt
each_map f (option ∷ options) e = (f option e.0, each_map f options e.1)

-- ---- one option

-- an option that is found at a place stands there
stands_at : (l : List ℕ) (option : Located) (place header : ℕ) → option.remains ≤ length l → place_in l option ≡ place
    → step_of (drop place l) ≡ Found option.item.kind header option.size
    → option.item ≡ item_of option.item.kind header option.size (drop place l) → (option.item.kind ≡ frag → ⊥) → Stands l option
stands_at l option place header h p e whole other =
    let f = step-found (drop place l) option.item.kind header option.size e in
    let left : length (drop place l) ≡ length l - place = length-drop place l in
    let here : place + 0 ≡ place = omega arith in
    record {
      within = omega (arith, f.sized.least, f.sized.fits);
      some = omega (arith, f.sized.least);
      fits = omega (arith, f.sized.least, f.sized.fits);
      remaining = omega (arith, length-drop (place_in l option) l);
      byte = ap (λ (n : ℕ). get_or l n 0) (p ∙ sym here) ∙ sym (get_or-drop place l 0 0) ∙ sym f.front;
      header = header;
      found = ap (λ (n : ℕ). step_of (drop n l)) p ∙ e;
      whole = whole ∙ ap (λ (n : ℕ). item_of option.item.kind header option.size (drop n l)) (sym p);
      other = other;
    }

-- at the front of a list
stands-first : (l : List ℕ) (kind header size : ℕ) → step_of l ≡ Found kind header size → (kind ≡ frag → ⊥) → Stands l (located_of kind header size l)
stands-first l kind header size e other = stands_at l (located_of kind header size l) 0 header (omega arith) (omega arith) e refl other

-- with a byte put in front
stands-behind : (b : ℕ) (bs : List ℕ) (option : Located) → option.remains ≤ length bs → Stands bs option → Stands (b ∷ bs) option
stands-behind b bs option h s =
    stands_at (b ∷ bs) option (suc (place_in bs option)) s.header (omega arith) (omega arith) s.found s.whole s.other

-- ---- all options

-- an option behind the first `skip` bytes, and before the fill
record Lies (skip : ℕ) (l : List ℕ) (fill : ℕ) (option : Located) : Type 0 where
  stands : Stands l option
  behind : option.remains + skip ≤ length l
  before : option.size + fill ≤ option.remains

-- from an option to every later one its own bytes at least are passed
abbrev Falls : List Located → Type 0
Falls [] = Unit {0}
Falls (option ∷ options) = Each (λ later. later.remains + option.size ≤ option.remains) options × Falls options

record Placed (skip : ℕ) (l : List ℕ) (options : List Located) (fill : ℕ) : Type 0 where
  lie : Each (Lies skip l fill) options
  fall : Falls options
  rest : fill + skip ≤ length l

placed-behind : (skip b : ℕ) (bs : List ℕ) (options : List Located) (fill : ℕ) → Placed skip bs options fill → Placed (suc skip) (b ∷ bs) options fill
placed-behind skip b bs options fill p = record {
  lie =
      each_map
      (λ option s. record {
        stands = stands-behind b bs option (omega (arith, s.behind)) s.stands;
        behind = omega (arith, s.behind);
        before = s.before;
      })
      options p.lie;
  fall = p.fall;
  rest = omega (arith, p.rest);
}

-- fewer bytes to skip
placed-sooner : (skip : ℕ) (l : List ℕ) (options : List Located) (fill : ℕ) → Placed skip l options fill → Placed 0 l options fill
placed-sooner skip l options fill p = record {
  lie = each_map (λ option s. record { stands = s.stands; behind = omega (arith, s.behind); before = s.before }) options p.lie;
  fall = p.fall;
  rest = omega (arith, p.rest);
}

placed_first : (l : List ℕ) (options : List Located) (fill kind header size : ℕ) → step_of l ≡ Found kind header size → (kind ≡ frag → ⊥)
    → Placed size l options fill → Placed 0 l (located_of kind header size l ∷ options) fill
placed_first l options fill kind header size e other p =
    let q = placed-sooner size l options fill p in
    record {
      lie = (
        record { stands = stands-first l kind header size e other; behind = omega arith; before = omega (arith, p.rest) },
        q.lie,
      );
      fall = (each_map (λ option s. s.behind) options p.lie, p.fall);
      rest = q.rest;
    }

walk-placed : (room skip : ℕ) (l : List ℕ) (options : List Located) (fill : ℕ) → skip ≤ length l → walk_from room skip l ≡ listed options fill
    → Placed skip l options fill
walk-placed room skip l options fill h q =
    walk-all (λ room skip l options fill. skip ≤ length l → Placed skip l options fill)
    (λ room skip h. record { lie = tt; fall = tt; rest = omega arith })
    (λ room fill l f h. record { lie = tt; fall = tt; rest = f.within })
    (λ room skip b bs options fill ih h. placed-behind skip b bs options fill (ih (omega arith)))
    (λ room l options fill some ih h. placed-sooner 1 l options fill (ih (omega arith)))
    (λ room l options fill kind header size e other ih h.
    placed_first l options fill kind header size e other (ih (step-found l kind header size e).sized.fits))
    l room skip options fill q h

apart_from : (l : List ℕ) (options : List Located) (fill : ℕ) → Each (Lies 0 l fill) options → Falls options → Apart l options
apart_from l [] fill s f = tt
apart_from l (option ∷ options) fill s f =
    (each_map (λ later h. omega (arith, s.0.behind, s.0.before)) options f.0, apart_from l options fill s.1 f.1)

module _ (l : List ℕ) (room : ℕ) (options : List Located) (fill : ℕ) (q : walk_from room 0 l ≡ listed options fill) where
  placed : Placed 0 l options fill
  placed = walk-placed room 0 l options fill (omega arith) q

  -- each option stands where the walk says
  pub options-stand : Each (Stands l) options
  options-stand = each_map (λ option s. s.stands) options placed.lie

  -- each ends before every later one starts
  pub options-apart : Apart l options
  options-apart = apart_from l options fill placed.lie placed.fall

  -- and before the fill
  pub options-before-fill : Each (λ option. place_in l option + option.size + fill ≤ length l) options
  options-before-fill = each_map (λ option s. omega (arith, s.behind, s.before)) options placed.lie
