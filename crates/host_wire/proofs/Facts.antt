-- What a call leaves, from what the call below it leaves: the answer's value by one more equation, and all else as it stands.
-- Assumes nothing.
use Rattle.std.proofs.Common.{Result}
use Prim.Native.Nat.{ℕ}
use mathlib.Core.Path.{◌≡◌, ap, subst, ◌∙◌}
use mathlib.Core.List.{List}
use Rattle.wire_options.specs.Walk.{Walked}
use Rattle.list_options.specs.Listing.{listed_answer, ListedInto}
use Rattle.list_options.specs.declared.Listing as Transcribe
use Rattle.number_varint.specs.declared.Full.{Full}
use Rattle.list_writer.specs.Answer as Compose
use Rattle.list_writer.specs.Answer.{written_answer, Wrote}
use Rattle.list_writer.specs.declared.Refusal as Compose'
use Rattle.host_values.specs.Lists.{host_listing, host_written}
use Rattle.host_values.specs.declared.Listing.{Listing}
use Rattle.host_values.specs.declared.Written.{Written}
use Rattle.host_wire.specs.Left.{Lists, Writes}

-- the option list of a value with these numbers
pub lists : {walk given : Walked} {buffer left : List ℕ} {listed : Result Transcribe.Listing Full} {answer : Listing}
    → given ≡ walk → ListedInto given buffer listed left → answer ≡ host_listing (listed_answer listed) → Lists walk buffer answer left
lists {buffer = buffer} {left = left} {listed = listed} same into says =
    let h = subst (λ (w : Walked). ListedInto w buffer listed left) same into in
    record { answers = says ∙ ap host_listing h.answered; buffer_left = h.written }

pub writes : {o : Compose.Outcome} {written : Result ℕ Compose'.Refusal} {answer : Written} {left : List ℕ} → Wrote o written left
    → answer ≡ host_written (written_answer written) → Writes o answer left
writes h says = record { answers = says ∙ ap host_written h.answered; buffer_left = h.left }
