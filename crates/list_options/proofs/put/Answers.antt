-- `list_options::put` meets its contract: there is room, so `number_varint::encode` writes the number.
use mathlib.Core.Path.{◌≡◌, refl, ap}
use Prim.Native.Nat.{ℕ}
use native.Mathlib.Omega.{arith}
use Rattle.std.proofs.Common.{Result, Ok, Err}
use Rattle.std.specs.Result.{IsOk}
use Rattle.number_varint.specs.Answer.{given, encoded_answer}
use Rattle.number_varint.specs.declared.Full.{Full}
use Rattle.list_options.proofs.Writes.{written-number}
use Rattle.list_options.proofs.put.Goals as goal

never-full : (answer : Result ℕ Full) {end : ℕ} → encoded_answer answer ≡ given end → IsOk answer
never-full (Ok next) w = refl
never-full (Err full) w = absurd (let z : ◌≡◌ {A = ℕ} 0 1 = cc in omega arith)

-- the end that is answered
next-is : {answer : Result ℕ Full} {next end : ℕ} → answer ≡ Ok next → encoded_answer answer ≡ given end → next ≡ end
next-is e w = let same = ap encoded_answer e in cc

pub unwrap-requires : goal.unwrap-requires
unwrap-requires c = never-full _ (written-number c.encode.ensures c.requires).0

pub returns : goal.returns
returns c = let w = written-number c.encode.ensures c.requires in
    record { ends = next-is c.unwrap.ensures w.0; all = w.1 }
