-- `list_options::Met::content` meets its contract: each arm is a row of the table of kinds, whose fixed length says where the fields stand.
use mathlib.Core.Path.{◌≡◌, refl, ap}
use mathlib.Core.List.{List}
use Prim.Native.Nat.{ℕ, ◌+◌, ◌≤◌, ◌<◌}
use native.Mathlib.Omega.{arith}
use lib.ListN.{length}
use Rattle.wire_step.specs.Step.{step_of}
use Rattle.wire_step.specs.declared.Step.TheVariants.{Found}
use Rattle.wire_step.specs.Kinds.{class_of}
use Rattle.wire_step.specs.declared.Class.TheVariants.{Fixed}
use Rattle.wire_step.proofs.Classes.{class-token}
use Rattle.wire_step.proofs.Steps.{step-found}
use Rattle.list_entry.specs.Shape.{shape_of}
use Rattle.list_entry.proofs.Shapes.{shape-token}
use Rattle.list_options.proofs.Founds.{fixed-length}
use Rattle.list_options.proofs.Contents.{byte-number, content-bare, content-one, content-two, content-raw}
use Rattle.list_options.proofs.Met.content.Goals as goal
use Rattle.list_options.proofs.Met.content.Goals.{in_default-via-then-self-lt4, in_default-via-else-self-lt4+else-self-lt8}

-- an option of a fixed length is within the bytes
fixed : (rest : List ℕ) {kind header size : ℕ} → step_of rest ≡ Found kind header size → (k a : ℕ) → kind ≡ k → class_of k ≡ Fixed a a → a < 255
    → (header ≡ 2) × (size ≡ a) × (a ≤ length rest)
fixed rest {kind} {header} {size} e k a q c small =
    let f = fixed-length rest kind header size e k a q c small in
    let found = step-found rest kind header size e in
    (f.0, f.1, omega (arith, found.sized.fits, f.1))

pub get_u16-requires : goal.get_u16-requires
unfolding class_of
get_u16-requires c = let f = fixed c.args.self.now.rest.now c.args.self.now.stands 4 4 c.in-4.is refl (omega arith) in omega (arith, f)

pub get_u16-requires-in-5 : goal.get_u16-requires-in-5
unfolding class_of
get_u16-requires-in-5 c = let f = fixed c.args.self.now.rest.now c.args.self.now.stands 5 5 c.in-5.is refl (omega arith) in omega (arith, f)

pub overflow_add-result : goal.overflow_add-result
unfolding class_of
overflow_add-result c = let f = fixed c.args.self.now.rest.now c.args.self.now.stands 5 5 c.in-5.is refl (omega arith) in omega (arith, f)

pub bounds-self-self : goal.bounds-self-self
unfolding class_of
bounds-self-self c = let f = fixed c.args.self.now.rest.now c.args.self.now.stands 5 5 c.in-5.is refl (omega arith) in omega (arith, f)

pub get_u32-requires : goal.get_u32-requires
unfolding class_of
get_u32-requires c = let f = fixed c.args.self.now.rest.now c.args.self.now.stands 8 10 c.in-8.is refl (omega arith) in omega (arith, f)

pub overflow_add-self : goal.overflow_add-self
unfolding class_of
overflow_add-self c = let f = fixed c.args.self.now.rest.now c.args.self.now.stands 8 10 c.in-8.is refl (omega arith) in omega (arith, f)

pub get_u32-requires-in-8 : goal.get_u32-requires-in-8
unfolding class_of
get_u32-requires-in-8 c = let f = fixed c.args.self.now.rest.now c.args.self.now.stands 8 10 c.in-8.is refl (omega arith) in omega (arith, f)

pub get_u32-requires-in-6 : goal.get_u32-requires-in-6
get_u32-requires-in-6 c = let f = fixed c.args.self.now.rest.now c.args.self.now.stands c.args.self.now.kind 6 refl (class-token c.args.self.now.kind (omega arith) (omega arith)) (omega arith) in omega (arith, f)

pub overflow_sub-result : goal.overflow_sub-result
overflow_sub-result c = (step-found _ _ _ _ c.args.self.now.stands).sized.head

pub returns-in-2 : goal.returns-in-2
returns-in-2 c = content-bare _ _ _ _ c.args.self.now.stands c.args.self.now.listed c.args.self.now.bytes c.in-2.is

pub returns-in-4 : goal.returns-in-4
unfolding class_of shape_of
returns-in-4 c = let f = fixed c.args.self.now.rest.now c.args.self.now.stands 4 4 c.in-4.is refl (omega arith) in
    content-one _ _ _ _ c.args.self.now.stands c.args.self.now.listed c.args.self.now.bytes 2 _ (λ e. omega arith) (ap shape_of c.in-4.is)
    (omega arith) c.get_u16.ensures

pub returns-in-5 : goal.returns-in-5
unfolding class_of shape_of
returns-in-5 c = let k = c.in-5.is in
    let f = fixed c.args.self.now.rest.now c.args.self.now.stands 5 5 k refl (omega arith) in
    let in_bytes : c.args.self.now.header + 2 < length c.args.self.now.rest.now = omega (arith, f) in
    content-two _ _ _ _ c.args.self.now.stands c.args.self.now.listed c.args.self.now.bytes 2 1 _ _ (λ e. omega arith) (ap shape_of k) (omega arith)
    c.get_u16-in-5.ensures (byte-number c.args.self.now.rest.now (c.args.self.now.header + 2) in_bytes)

pub returns-in-8 : goal.returns-in-8
unfolding class_of shape_of
returns-in-8 c = let k = c.in-8.is in
    let f = fixed c.args.self.now.rest.now c.args.self.now.stands 8 10 k refl (omega arith) in
    content-two _ _ _ _ c.args.self.now.stands c.args.self.now.listed c.args.self.now.bytes 4 4 _ _ (λ e. omega arith) (ap shape_of k) (omega arith)
    c.get_u32.ensures
    c.get_u32-in-8.ensures

pub returns-in-6 : goal.returns-in-6
returns-in-6 c = let f = fixed c.args.self.now.rest.now c.args.self.now.stands c.args.self.now.kind 6 refl (class-token c.args.self.now.kind (omega arith) (omega arith)) (omega arith) in
    content-one _ _ _ _ c.args.self.now.stands c.args.self.now.listed c.args.self.now.bytes 4 _ (λ e. omega arith)
    (shape-token _ (omega arith) (omega arith)) (omega arith) c.get_u32-in-6.ensures

pub returns-in_default : goal.returns-in_default
returns-in_default c =
    elim c.in_default.branch [
      | in_default-via-then-self-lt4 w ↦ content-raw _ _ _ _ c.args.self.now.stands c.args.self.now.listed c.args.self.now.bytes (λ e. omega arith) (λ e. omega arith)
          (λ e. omega arith) (λ e. omega arith) (λ e. omega arith) (λ e. omega arith)
      | in_default-via-else-self-lt4+else-self-lt8 w ↦ content-raw _ _ _ _ c.args.self.now.stands c.args.self.now.listed c.args.self.now.bytes (λ e. omega arith) (λ e. omega arith)
          (λ e. omega arith) (λ e. omega arith) (λ e. omega arith) (λ e. omega arith)
    ]
