-- Encoded option lists, document 01's dockets: "A docket is a count (0 to 32), then for each option its kind and fields as numbers." How one option
-- stands in a list is `Option` in `list_entry`.
use Rattle.std.specs.Prelude.{ℕ, zero, suc, ◌+◌, ◌≤◌, List, [], ◌∷◌, ◌++◌, length}
use Rattle.number_varint.specs.SevenBit.{encoded}
pub use Rattle.number_varint.specs.Answer.{Answer, given, refused, unreadable}
use Rattle.wire_options.specs.Walk.{Item, option_limit}
use Rattle.list_entry.specs.Option.{encoded_option, Read, got, failed, and_then, read_as, read_number, read_option, ValidOption}

-- ---- writing

unfoldable pub encoded_options : List Item → List ℕ
encoded_options [] = []
encoded_options (item ∷ items) = encoded_option item ++ encoded_options items

unfoldable pub encoded_list : List Item → List ℕ
encoded_list items = encoded (length items) ++ encoded_options items

-- ---- reading

unfoldable pub read_options : ℕ → List ℕ → Read (List Item)
read_options zero l = got [] l
read_options (suc count) l = and_then (read_option l) (λ item rest. read_as (λ items. item ∷ items) (read_options count rest))

-- "bytes left over"
abbrev pub to_the_end : {A : Type 0} → Read A → Answer A
to_the_end (got a []) = given a
to_the_end (got a (b ∷ rest)) = refused unreadable
to_the_end (failed refusal) = refused refusal

unfoldable pub decoded_list : List ℕ → Answer (List Item)
decoded_list l = to_the_end (and_then (read_number (option_limit + 1) l) read_options)

-- ---- the lists of options that have an encoding

abbrev pub Each : List Item → Type 0
Each [] = Unit {0}
Each (item ∷ items) = ValidOption item × Each items

pub record Valid (items : List Item) : Type 0 where
  pub few : length items ≤ option_limit
  pub each : Each items
