-- What a function knows of the number that it looked for, where it passes on with `?` that there is none.
-- Assumes nothing.
use mathlib.Core.Path.{◌≡◌, sym, ap, ◌∙◌}
use mathlib.Core.List.{List}
use Prim.Native.Nat.{ℕ}
use native.Mathlib.Omega.{arith}
use lib.ListN.{drop}
use Rattle.std.proofs.Common.{Option, Some, None, Result, Ok, Err}
use Rattle.std.specs.Option.{ok_or}
use Rattle.std.specs.Result.{result_ok}
use Rattle.number_varint.specs.Answer.{found, decoding_of, decoded_at}
use Rattle.number_varint.specs.declared.Decoded.{Decoded}
use Rattle.number_varint.specs.declared.Undecoded.{Undecoded}
use Rattle.list_entry.specs.Option.{Answer, refused, failed, unreadable, read_number}
use Rattle.list_entry.specs.Answer.{Spelled, field_answer, refusal_number, number_at}
use Rattle.list_entry.specs.declared.Refusal.{Refusal}
use Rattle.list_entry.specs.declared.Refusal.TheVariants.{Unreadable}
use Rattle.list_entry.proofs.Places.{ValueAt, value_there, none-there, decoded-none}

-- what the entry's answer is for a refusal
abbrev pub refusal_told : Refusal → Answer Spelled
refusal_told refusal = refused (refusal_number refusal)

-- no number, and so the list is refused as unreadable
pub record NoneAt (limit : ℕ) (s : List ℕ) (at : ℕ) (refusal : Refusal) : Type 0 where
  pub reads : read_number limit (drop at s) ≡ failed unreadable
  pub told : refusal ≡ Unreadable

module _ (limit : ℕ) (s : List ℕ) (at : ℕ) (number : Option Decoded) (passed : Result Decoded Refusal) where
  pub number_found : (d : Decoded) → field_answer number ≡ number_at limit s at → passed ≡ ok_or number Unreadable → passed ≡ Ok d
      → ValueAt limit s at d.value d.next
  number_found d e p q = go number e (sym q ∙ p)
    where
      go : (n : Option Decoded) → field_answer n ≡ number_at limit s at → Ok d ≡ ok_or n Unreadable → ValueAt limit s at d.value d.next
      go None a b = absurd (let z : ◌≡◌ {A = ℕ} 0 1 = cc in omega arith)
      go (Some m) a b = let same : m ≡ d = cc in rw (← same) (value_there limit s at m.value m.next (sym a))

  pub none_found : (refusal : Refusal) → field_answer number ≡ number_at limit s at → passed ≡ ok_or number Unreadable → passed ≡ Err refusal
      → NoneAt limit s at refusal
  none_found refusal e p q = go number e (sym q ∙ p)
    where
      go : (n : Option Decoded) → field_answer n ≡ number_at limit s at → Err refusal ≡ ok_or n Unreadable → NoneAt limit s at refusal
      go None a b = record { reads = none-there limit s at (sym a); told = cc }
      go (Some d) a b = absurd (let z : ◌≡◌ {A = ℕ} 0 1 = cc in omega arith)

-- ---- what `decode` found, or not

module _ (s : List ℕ) (at : ℕ) (decoded : Result Decoded Undecoded) (number : Option Decoded) where
  pub decoded_found : (d : Decoded) → decoding_of decoded ≡ decoded_at s at → number ≡ result_ok decoded → number ≡ Some d
      → found d.value d.next ≡ decoded_at s at
  decoded_found d e p q = go decoded e (sym q ∙ p)
    where
      go : (r : Result Decoded Undecoded) → decoding_of r ≡ decoded_at s at → Some d ≡ result_ok r → found d.value d.next ≡ decoded_at s at
      go (Ok m) a b = let same : d ≡ m = cc in ap (λ (n : Decoded). found n.value n.next) same ∙ a
      go (Err m) a b = absurd (let z : ◌≡◌ {A = ℕ} 0 1 = cc in omega arith)

  pub undecoded_found : (limit : ℕ) → decoding_of decoded ≡ decoded_at s at → number ≡ result_ok decoded → number ≡ None
      → refused unreadable ≡ number_at limit s at
  undecoded_found limit e p q = go decoded e (sym q ∙ p)
    where
      go : (r : Result Decoded Undecoded) → decoding_of r ≡ decoded_at s at → None ≡ result_ok r → refused unreadable ≡ number_at limit s at
      go (Ok m) a b = absurd (let z : ◌≡◌ {A = ℕ} 0 1 = cc in omega arith)
      go (Err m) a b = decoded-none limit s at m.at a
