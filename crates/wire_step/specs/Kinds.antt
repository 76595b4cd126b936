-- The option kinds of RFC 9868 section 10, as the table in document 01 has them: the class of a kind and the lengths it may have.
use Rattle.std.specs.Prelude.{cond, List, [], ◌∷◌, ℕ, eqb, leb}
pub use Rattle.wire_nops.specs.Nops.{nop}
use Rattle.wire_step.specs.declared.Class.{Class}
use Rattle.wire_step.specs.declared.Class.TheVariants.{EndOfList, NoOperation, Fixed, Varying, Unsafe}

-- the kinds that rules name, beside NOP
abbrev pub eol : ℕ
eol = 0

abbrev pub apc : ℕ
apc = 2

abbrev pub frag : ℕ
frag = 3

-- the whole lengths of FRAG, and of FRAG in the last piece
abbrev pub frag_size : ℕ
frag_size = 10

abbrev pub last_frag_size : ℕ
last_frag_size = 12

-- a fixed kind has its one length, FRAG its two; kinds up to 191 have what their length byte says; those above are unsafe
unfoldable pub class_of : ℕ → Class
class_of kind =
    cond (eqb kind eol) EndOfList
    (cond (eqb kind nop) NoOperation
    (cond (eqb kind apc) (Fixed 6 6)
    (cond (eqb kind frag) (Fixed frag_size last_frag_size)
    (cond (eqb kind 4) (Fixed 4 4)
    (cond (eqb kind 5) (Fixed 5 5)
    (cond (eqb kind 6) (Fixed 6 6)
    (cond (eqb kind 7) (Fixed 6 6)
    (cond (eqb kind 8) (Fixed 10 10)
    (cond (leb kind 191) Varying Unsafe)))))))))

-- the widths in bytes of the numbers that an option has, by its kind; a kind from 9 on has a body instead
abbrev pub widths_of : ℕ → List ℕ
widths_of kind =
    cond (eqb kind apc) (4 ∷ [])
    (cond (eqb kind 4) (2 ∷ [])
    (cond (eqb kind 5) (2 ∷ 1 ∷ [])
    (cond (eqb kind 6) (4 ∷ [])
    (cond (eqb kind 7) (4 ∷ [])
    (cond (eqb kind 8) (4 ∷ 4 ∷ []) [])))))
