-- The encoding of the options still to come, in the midst of a walk that lists all: nothing, or the first of them and then the others.
-- Assumes nothing.
use mathlib.Core.Path.{◌≡◌, refl, sym, ap, subst, ◌∙◌}
use mathlib.Core.List.{List, [], ◌∷◌, ◌++◌}
use Prim.Native.Nat.{ℕ, ◌-◌, ◌<◌}
use lib.ListN.{length}
use Rattle.number_octets.specs.Octets.{part}
use Rattle.number_octets.proofs.Laws.{part-rest}
use Rattle.wire_step.specs.Step.{step_of}
use Rattle.wire_step.specs.declared.Step.{Step}
use Rattle.wire_step.specs.declared.Step.TheVariants.{End, Eol, Nop, Found, Malformed, Outlawed}
use Rattle.wire_options.specs.Walk.{Located, items_in, walk_from, option_limit, options_of}
use Rattle.wire_options.proofs.Rests.{Rest, RestBy, Taken, rest_all, rest-by}
use Rattle.list_entry.specs.Option.{encoded_option}
use Rattle.list_encoding.specs.Encoding.{encoded_options}
use Rattle.list_options.specs.Listing.{unworked, unworked_all, Sound}

abbrev pub code : List Located → List ℕ
code options = encoded_options (unworked_all (items_in options))

-- all that is to be listed
abbrev pub whole : List ℕ → List ℕ
whole l = code (options_of (walk_from option_limit 0 l))

pub code-none : {options : List Located} → [] ≡ options → code options ≡ []
unfolding encoded_options unworked_all
code-none e = ap code (sym e)

pub code-first : {options later : List Located} {option : Located} → options ≡ option ∷ later → code options ≡ encoded_option (unworked option.item) ++ code later
unfolding encoded_options unworked_all
code-first e = ap code e

pub rest-sound : (l : List ℕ) → Sound (walk_from option_limit 0 l) → Rest l 0 (options_of (walk_from option_limit 0 l))
rest-sound l s = rest_all l option_limit (λ fault remains e. subst Sound e s)

-- ---- a step of the walk, of what is left of the list

module _ {all : List ℕ} {at : ℕ} {options : List Located} (r : Rest all at options) (h : at < length all) where
  -- what a step leaves to come, made over the rest of the list
  pub to-come : {met step : Step} → met ≡ step_of (part at (length all - at) all) → met ≡ step → RestBy all at options step
  to-come e q = rest-by r h (sym (e ∙ ap step_of (part-rest at all)) ∙ q)

  -- the option that was found is the first of those to come
  pub taken : {met : Step} {kind header size : ℕ} → met ≡ step_of (part at (length all - at) all) → met ≡ Found kind header size
      → Taken all at options kind header size
  taken e q = to-come e q

  -- nothing is to come where the step is neither a NOP nor an option
  pub none-left : (met : Step) → met ≡ step_of (part at (length all - at) all) → (met ≡ Nop → ⊥)
      → ((kind header size : ℕ) → met ≡ Found kind header size → ⊥) → [] ≡ options
  none-left End e n f = to-come e refl
  none-left Eol e n f = to-come e refl
  none-left Nop e n f = absurd (n refl)
  none-left (Found kind header size) e n f = absurd (f kind header size refl)
  none-left Malformed e n f = to-come e refl
  none-left Outlawed e n f = to-come e refl
