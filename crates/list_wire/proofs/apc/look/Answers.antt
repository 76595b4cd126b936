-- `list_wire::apc::look` meets its contract: what `entry_at` finds is the option at the position, and its kind says whether it is an APC.
use mathlib.Core.Path.{sym, ap, ◌∙◌}
use Prim.Native.Nat.{ℕ}
use lib.Dec.{eqb}
use lib.ListN.{drop}
use Rattle.std.proofs.Common.{Ok}
use Rattle.wire_step.specs.Kinds.{apc}
use Rattle.list_entry.specs.Shape.{shape_of}
use Rattle.list_entry.specs.Answer.{entry_answer}
use Rattle.list_entry.specs.declared.Entry.{Entry}
use Rattle.list_entry.proofs.Entered.{FieldsAt, BodyAt, entry-fields, entry-body, entry-refused}
use Rattle.list_wire.specs.Parts.{apc_read, left_behind}
use Rattle.list_wire.proofs.Listed.{raw-other}
use Rattle.list_wire.proofs.apc.look.Goals as goal
use Rattle.list_wire.proofs.apc.look.Goals.{In-Body, In-Fields}

found-fields : (c : In-Fields) → let a = c.args in
    let v = c.in-Fields in
    FieldsAt a.list.now a.from v.kind v.first v.second v.next
found-fields c = entry-fields _ _ _ _ _ _ (sym c.in-Ok.ensures ∙ ap (λ (e : Entry). entry_answer (Ok e)) c.in-Fields.is)

found-body : (c : In-Body) → let a = c.args in
    let v = c.in-Body in
    BodyAt a.list.now a.from v.kind v.start v.size v.next
found-body c = entry-body _ _ _ _ _ _ (sym c.in-Ok.ensures ∙ ap (λ (e : Entry). entry_answer (Ok e)) c.in-Body.is)

pub returns-in_default : goal.returns-in_default
returns-in_default c = let l = c.args.list.now in
    let e = entry-refused _ _ _ (sym c.in_default.ensures) in
    record { wanted = sym (ap apc_read e); left = sym (ap (left_behind (drop c.args.from l)) e) }

pub returns-in-Fields : goal.returns-in-Fields
returns-in-Fields c = let a = c.args in
    let f = found-fields c in
    record {
      wanted = ap (λ (k : ℕ). eqb k apc) (sym f.same) ∙ sym (ap apc_read f.there.reads);
      left = sym (ap (left_behind (drop a.from a.list.now)) f.there.reads);
    }

pub returns-in-Body : goal.returns-in-Body
returns-in-Body c = let a = c.args in
    let f = found-body c in
    record {
      wanted = sym (ap apc_read f.there.reads ∙ raw-other f.item.kind (ap shape_of f.same ∙ f.shape));
      left = sym (ap (left_behind (drop a.from a.list.now)) f.there.reads);
    }
