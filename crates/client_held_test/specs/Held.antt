-- What a pass over the held fragments of an assembly finds, and what the functions over them promise.
use Rattle.std.specs.Prelude.{ℕ, ◌^◌, ◌<◌, ◌≤◌, ◌≡◌, Bool, true, not, ◌&&◌, cond, List, [], ◌∷◌, eqb, leb}
use Rattle.client_record.specs.declared.Fragment.{Fragment}
use Rattle.client_record.specs.declared.Assembly.{Assembly}
use Rattle.client_record.specs.Limits.{datagram_limit}
use Rattle.client_record.specs.Lists.{all, any, sum}
use Rattle.client_record.specs.Post.{HeldCount}
use Rattle.client_record.specs.Record.{is_last, end, non_empty, held_fragments}
use Rattle.client_held_test.specs.declared.Pass.{Pass}
use Rattle.client_held_test.specs.declared.LastOnes.{LastOnes}

-- r is its end, a number of 17 bits
pub record PastOf (f : Fragment) (r : ℕ) : Type 0 where
  pub value : r ≡ end f
  pub small : r < 2 ^ 17

-- each starts at or behind the end of the one in front of it, the first at or behind e
unfoldable pub rises_from : ℕ → List Fragment → Bool
rises_from e [] = true
rises_from e (f ∷ fs) = leb e f.offset && rises_from (end f) fs

-- the end of the one that is listed last; e if there is none
unfoldable pub behind : ℕ → List Fragment → ℕ
behind e [] = e
behind e (f ∷ fs) = behind (end f) fs

pub record Passed (fs : List Fragment) (r : Pass) : Type 0 where
  pub empty : r.empty ≡ not (all non_empty fs)
  pub falls : r.falls ≡ not (rises_from 0 fs)
  pub marks : eqb r.marks 0 ≡ not (any is_last fs)
  pub end : r.behind ≡ behind 0 fs
  pub total : r.total ≡ sum (λ f. f.length) fs

-- a number of each fragment that is marked last, summed
unfoldable pub last_sum : (Fragment → ℕ) → List Fragment → ℕ
last_sum g fs = sum (λ f. cond (is_last f) (g f) 0) fs

abbrev pub lasts_of : List Fragment → ℕ
lasts_of fs = last_sum (λ f. 1) fs

abbrev pub last_end : List Fragment → ℕ
last_end fs = last_sum end fs

abbrev pub last_start : List Fragment → ℕ
last_start fs = last_sum (λ f. f.option_start) fs

pub record Marked (fs : List Fragment) (r : LastOnes) : Type 0 where
  pub count : r.count ≡ lasts_of fs
  pub past : r.past ≡ last_end fs
  pub options : r.options ≡ last_start fs

pub record Marking (a : Assembly) (n marks : ℕ) : Type 0 where
  pub held : HeldCount a n
  pub some : eqb marks 0 ≡ not (any is_last (held_fragments a))

-- the known end can be: one is last, r is not over its end, which is within the limit, and there are not as many bytes
unfoldable pub ends_well : List Fragment → ℕ → Bool
ends_well fs total =
    leb (lasts_of fs) 1 && (leb (last_start fs) (last_end fs) && (leb (last_end fs) datagram_limit && not (eqb (last_end fs) total)))

-- where fragments may end; nowhere if the known end can't be
unfoldable pub most_of : List Fragment → ℕ → ℕ
most_of fs total = cond (any is_last fs) (cond (ends_well fs total) (last_end fs) 0) datagram_limit

-- what is asked before places are marked
pub record Placing (a : Assembly) (n most : ℕ) : Type 0 where
  pub held : HeldCount a n
  pub each : all non_empty (held_fragments a) ≡ true
  pub within : most ≤ datagram_limit
