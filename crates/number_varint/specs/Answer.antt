-- What the functions of `src/` answer and leave, by the definitions of `SevenBit`.
use Rattle.std.specs.Prelude.{Result, Ok, Err, ℕ, ◌+◌, Bool, cond, List, ◌++◌, ◌≡◌, leb, length, take, drop}
use Rattle.number_varint.specs.SevenBit.{Taken, taken, untaken, number, encoded}
use Rattle.number_varint.specs.declared.Decoded.{Decoded}
use Rattle.number_varint.specs.declared.Undecoded.{Undecoded}
use Rattle.number_varint.specs.declared.Full.{Full}

-- A call gives what is asked, or refuses by a number of document 01.
pub data Answer (A : Type 0) : Type 0 where
  given : A → Answer A
  refused : ℕ → Answer A

-- "7 docket unreadable, a field too wide or bytes left over"
abbrev pub unreadable : ℕ
unreadable = 7

-- "8 if too small"
abbrev pub too_small : ℕ
too_small = 8

-- A number and the position behind it; or the refusal, and where the number began.
pub data Decoding : Type 0 where
  found : (value next : ℕ) → Decoding
  unfound : (refusal at : ℕ) → Decoding

-- The numbers of document 01 for what `decode` answers.
abbrev pub decoding_of : Result Decoded Undecoded → Decoding
decoding_of (Ok decoded) = found decoded.value decoded.next
decoding_of (Err undecoded) = unfound unreadable undecoded.at

-- A number that is taken ends where the next one begins.
unfoldable pub decoded_as : ℕ → Taken → Decoding
decoded_as at (taken value width) = found value (at + width)
decoded_as at untaken = unfound unreadable at

-- What `decode` answers: the number at the front of the bytes from `at`.
unfoldable pub decoded_at : List ℕ → ℕ → Decoding
decoded_at s at = decoded_as at (number (drop at s))

-- the position behind the encoding of `value` at `at`
unfoldable pub end_of : ℕ → ℕ → ℕ
end_of value at = at + length (encoded value)

unfoldable pub fits : ℕ → List ℕ → ℕ → Bool
fits value buffer at = leb (end_of value at) (length buffer)

-- The buffer with the encoding of `value` from `at`, all else as it was.
unfoldable pub placed : ℕ → List ℕ → ℕ → List ℕ
placed value buffer at = take at buffer ++ encoded value ++ drop (end_of value at) buffer

-- The numbers of document 01 for what `encode` answers.
abbrev pub encoded_answer : Result ℕ Full → Answer ℕ
encoded_answer (Ok next) = given next
encoded_answer (Err full) = refused too_small

-- What `encode` answers, and the buffer that it leaves: where the encoding does not fit, the one that it was lent.
pub record EncodedAt (value : ℕ) (buffer : List ℕ) (at : ℕ) (answer : Result ℕ Full) (left : List ℕ) : Type 0 where
  pub answered : encoded_answer answer ≡ cond (fits value buffer at) (given (end_of value at)) (refused too_small)
  pub written : left ≡ cond (fits value buffer at) (placed value buffer at) buffer
