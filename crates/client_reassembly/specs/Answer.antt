-- What a call answers, in document 01's numbers and values, and the cases of the code's types that stand for them.
use Rattle.std.specs.Prelude.{ℕ, List, [], ◌∷◌, Result, Ok, Err}
use Rattle.client_reassembly.specs.declared.Refusal.{Refusal}
use Rattle.client_reassembly.specs.declared.Refusal.TheVariants.{
  TableMisfit,
  NoSuchClient,
  UnsoundRecord,
  OutTooShort,
  EmptyFragment,
  EndPastLimit,
  OptionStartPastEnd,
  TimeBeforeLast,
  OfferedPastLimit,
  NoFreeAssembly,
  AssemblyFull,
  PlanOutOfRange,
}
use Rattle.client_reassembly.specs.declared.Figures.{Figures}
use Rattle.client_reassembly.specs.declared.Answer.{Answer}
use Rattle.client_reassembly.specs.declared.Answer.TheVariants.{Reset, Stored, Repeated, Conflict, Delivered, Advanced, Account}

-- `ready` is the answer of a set-up; `delivered` has T and r; `account` has offered, held, delivered, expired, conflicted, repeated and rejected
pub data Reply : Type 0 where
  refused : ℕ → Reply
  ready : Reply
  stored : Reply
  repeated : Reply
  conflict : Reply
  delivered : ℕ → ℕ → Reply
  advanced : Reply
  account : List ℕ → Reply

-- the number of a refusal
abbrev pub number_of : Refusal → ℕ
number_of TableMisfit = 20
number_of NoSuchClient = 21
number_of UnsoundRecord = 22
number_of OutTooShort = 23
number_of EmptyFragment = 24
number_of EndPastLimit = 25
number_of OptionStartPastEnd = 26
number_of TimeBeforeLast = 27
number_of OfferedPastLimit = 28
number_of NoFreeAssembly = 29
number_of AssemblyFull = 30
number_of PlanOutOfRange = 32

abbrev pub figures_of : Figures → List ℕ
figures_of f = f.offered ∷ f.held ∷ f.delivered ∷ f.expired ∷ f.conflicted ∷ f.repeated ∷ f.rejected ∷ []

abbrev pub reply_of : Result Answer Refusal → Reply
reply_of (Err r) = refused (number_of r)
reply_of (Ok Reset) = ready
reply_of (Ok Stored) = stored
reply_of (Ok Repeated) = repeated
reply_of (Ok Conflict) = conflict
reply_of (Ok (Delivered n s)) = delivered n s.0
reply_of (Ok Advanced) = advanced
reply_of (Ok (Account f)) = account (figures_of f)
