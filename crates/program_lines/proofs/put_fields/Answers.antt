-- `program_lines::put_fields` meets its contract: the arm knows the kind, and with it the length, so each number is where it is read.
use mathlib.Core.Path.{◌≡◌, sym, ap, ap₂, ◌∙◌}
use mathlib.Core.List.{[], ◌∷◌, ◌++◌}
use mathlib.Core.Logic.{◌⊎◌, inl, inr}
use Prim.Native.Nat.{ℕ, ◌+◌}
use native.Mathlib.Omega.{arith}
use lib.ListN.{get_or}
use Rattle.number_octets.specs.Octets.{number, part}
use Rattle.wire_step.specs.Kinds.{class_of, widths_of}
use Rattle.wire_step.specs.declared.Class.TheVariants.{Fixed}
use Rattle.program_text.specs.Digits.{decimal_of}
use Rattle.program_text.specs.Characters.{blank}
use Rattle.program_text.proofs.Puts.{put_as, put-append, put-room}
use Rattle.program_lines.proofs.Fields.{option-within, fixed-shape, four-of, four-wide, one_number, two-numbers, number-one}
use Rattle.program_lines.proofs.put_fields.Goals as goal
use Rattle.program_lines.proofs.put_fields.Goals.{in-2-1, in_default+else-found-lt4+then-found-lt8}

class-4 : (k : ℕ) → k ≡ 4 → (class_of k ≡ Fixed 4 4) × (widths_of k ≡ 2 ∷ [])
unfolding class_of
class-4 k e = (ap class_of e, ap widths_of e)

class-5 : (k : ℕ) → k ≡ 5 → (class_of k ≡ Fixed 5 5) × (widths_of k ≡ 2 ∷ 1 ∷ [])
unfolding class_of
class-5 k e = (ap class_of e, ap widths_of e)

class-8 : (k : ℕ) → k ≡ 8 → (class_of k ≡ Fixed 10 10) × (widths_of k ≡ 4 ∷ 4 ∷ [])
unfolding class_of
class-8 k e = (ap class_of e, ap widths_of e)

pub get_u16-requires : goal.get_u16-requires
get_u16-requires c = let f = fixed-shape c.args.rest.now _ _ _ 4 c.requires.1 (class-4 _ c.in-4.is).0 (omega arith) in omega arith

pub get_u16-requires-in-5 : goal.get_u16-requires-in-5
get_u16-requires-in-5 c = let f = fixed-shape c.args.rest.now _ _ _ 5 c.requires.1 (class-5 _ c.in-5.is).0 (omega arith) in omega arith

pub overflow_add-header : goal.overflow_add-header
overflow_add-header c = let f = fixed-shape c.args.rest.now _ _ _ 5 c.requires.1 (class-5 _ c.in-5.is).0 (omega arith) in omega arith

pub bounds-rest-header : goal.bounds-rest-header
bounds-rest-header c = let f = fixed-shape c.args.rest.now _ _ _ 5 c.requires.1 (class-5 _ c.in-5.is).0 (omega arith) in omega arith

pub overflow_cast-rest : goal.overflow_cast-rest
overflow_cast-rest c = omega (arith, c.type_inv.rest (c.args.found.header + 2))

pub put_number-requires-in-5 : goal.put_number-requires-in-5
put_number-requires-in-5 c = put-room c.requires.0 c.put_number-first.ensures

pub get_u32-requires : goal.get_u32-requires
get_u32-requires c = let f = fixed-shape c.args.rest.now _ _ _ 10 c.requires.1 (class-8 _ c.in-8.is).0 (omega arith) in omega arith

pub overflow_add-header-in-8 : goal.overflow_add-header-in-8
overflow_add-header-in-8 c = let f = fixed-shape c.args.rest.now _ _ _ 10 c.requires.1 (class-8 _ c.in-8.is).0 (omega arith) in omega arith

pub get_u32-requires-in-8 : goal.get_u32-requires-in-8
get_u32-requires-in-8 c = let f = fixed-shape c.args.rest.now _ _ _ 10 c.requires.1 (class-8 _ c.in-8.is).0 (omega arith) in omega arith

pub put_number-requires-in-8 : goal.put_number-requires-in-8
put_number-requires-in-8 c = put-room c.requires.0 c.put_number-first-in-8.ensures

pub slice_bounds-put_body-count : goal.slice_bounds-put_body-count
slice_bounds-put_body-count c = let f = option-within c.args.rest.now _ _ _ c.requires.1 in omega arith

pub slice_bounds-put_body-start : goal.slice_bounds-put_body-start
slice_bounds-put_body-start c = let f = option-within c.args.rest.now _ _ _ c.requires.1 in omega arith

pub slice_bounds-put_body-end : goal.slice_bounds-put_body-end
slice_bounds-put_body-end c = let f = option-within c.args.rest.now _ _ _ c.requires.1 in omega arith

pub get_u32-requires-in-2 : goal.get_u32-requires-in-2
get_u32-requires-in-2 c =
    let which : (c.args.found.kind ≡ 2) ⊎ ((c.args.found.kind ≡ 6) ⊎ (c.args.found.kind ≡ 7)) = elim c.in-2-1.branch [ in-2-1 w ↦ inl (omega arith) | in_default+else-found-lt4+then-found-lt8 w ↦ inr (four-of c.args.found.kind (omega arith) (omega arith) (λ e. omega arith) (λ e. omega arith)) ] in
    let wide = four-wide c.args.found.kind which in
    let f = fixed-shape c.args.rest.now _ _ _ 6 c.requires.1 wide.0 (omega arith) in omega arith

pub returns-in-4 : goal.returns-in-4
returns-in-4 c = let a = c.args in
    let f = fixed-shape c.args.rest.now _ _ _ 4 c.requires.1 (class-4 _ c.in-4.is).0 (omega arith) in
    put_as
    (ap (λ (n : ℕ). (blank ∷ []) ++ decimal_of n) c.get_u16.ensures
    ∙ one_number a.rest.now a.found.kind a.found.header a.found.size (omega arith) 2 (class-4 _ c.in-4.is).1 (omega arith))
    c.put_number.ensures

pub returns-in-5 : goal.returns-in-5
returns-in-5 c = let a = c.args in
    let f = fixed-shape c.args.rest.now _ _ _ 5 c.requires.1 (class-5 _ c.in-5.is).0 (omega arith) in
    let last : number (part (a.found.header + 2) 1 a.rest.now) ≡ get_or a.rest.now (a.found.header + 2) 0 =
    number-one (a.found.header + 2) a.rest.now (omega arith) in
    put_as
    (ap₂ (λ (n k : ℕ). ((blank ∷ []) ++ decimal_of n) ++ ((blank ∷ []) ++ decimal_of k)) c.get_u16-in-5.ensures (sym last)
    ∙ two-numbers a.rest.now a.found.kind a.found.header a.found.size (omega arith) 2 1 (class-5 _ c.in-5.is).1 (omega arith))
    (put-append c.requires.0 c.put_number-first.ensures c.put_number-in-5.ensures)

pub returns-in-8 : goal.returns-in-8
returns-in-8 c = let a = c.args in
    let f = fixed-shape c.args.rest.now _ _ _ 10 c.requires.1 (class-8 _ c.in-8.is).0 (omega arith) in
    put_as
    (ap₂ (λ (n k : ℕ). ((blank ∷ []) ++ decimal_of n) ++ ((blank ∷ []) ++ decimal_of k)) c.get_u32.ensures c.get_u32-in-8.ensures
    ∙ two-numbers a.rest.now a.found.kind a.found.header a.found.size (omega arith) 4 4 (class-8 _ c.in-8.is).1 (omega arith))
    (put-append c.requires.0 c.put_number-first-in-8.ensures c.put_number-in-8.ensures)

pub returns-in-2 : goal.returns-in-2
returns-in-2 c =
    let which : (c.args.found.kind ≡ 2) ⊎ ((c.args.found.kind ≡ 6) ⊎ (c.args.found.kind ≡ 7)) = elim c.in-2-1.branch [ in-2-1 w ↦ inl (omega arith) | in_default+else-found-lt4+then-found-lt8 w ↦ inr (four-of c.args.found.kind (omega arith) (omega arith) (λ e. omega arith) (λ e. omega arith)) ] in
    let wide = four-wide c.args.found.kind which in
    let a = c.args in
    let f = fixed-shape c.args.rest.now _ _ _ 6 c.requires.1 wide.0 (omega arith) in
    put_as
    (ap (λ (n : ℕ). (blank ∷ []) ++ decimal_of n) c.get_u32-in-2.ensures
    ∙ one_number a.rest.now a.found.kind a.found.header a.found.size (omega arith) 4 wide.1 (omega arith))
    c.put_number-in-2.ensures
