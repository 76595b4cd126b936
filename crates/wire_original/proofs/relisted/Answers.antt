-- `wire_original::relisted` meets its contract: the arm knows what the walk told, and the rereading by that is the definition's.
use mathlib.Core.Path.{◌≡◌, refl, sym, ap, ap₂, ◌∙◌}
use mathlib.Core.List.{List}
use Prim.Native.Nat.{ℕ, ◌+◌, ◌-◌, ◌≤◌}
use Rattle.number_offsets.specs.declared.OriginalOffset.{OriginalOffset}
use Rattle.wire_nops.specs.declared.Strictness.{Strictness}
use Rattle.std.specs.Prelude.{Result, Ok}
use Rattle.wire_options.specs.declared.walk.Listed.{Listed}
use Rattle.wire_options.specs.declared.walk.Met.{Met}
use native.Mathlib.Omega.{arith}
use lib.ListN.{length, drop, length-drop}
use Rattle.number_octets.specs.Octets.{part}
use Rattle.number_octets.proofs.Laws.{part-rest}
use Rattle.number_offsets.specs.Offsets.{udp_header, offset_of}
use Rattle.number_offsets.specs.declared.PacketOffset.{PacketOffset}
use Rattle.wire_options.specs.Walk.{option_limit, walk_answer}
use Rattle.wire_options.specs.Strict.{walk_by}
use Rattle.wire_original.specs.Rereading.{places, rereads}
use Rattle.wire_original.specs.ByWalk.{rewalked_by}
use Rattle.wire_reading.specs.ByWalk.{apc_by}
use Rattle.wire_reading.specs.declared.Verdict.TheVariants.{Read}
use Rattle.wire_original.proofs.Rereadings.{rereading-by-answer}
use Rattle.wire_original.proofs.relisted.Goals as goal

-- the list ends where the original does
list-end : (from : OriginalOffset) (base : PacketOffset) (l : List ℕ) → base ≡ offset_of from → from.0 ≤ length l
    → base.0 + length (part from.0 (length l - from.0) l) ≡ udp_header + length l
unfolding offset_of
list-end from base l e h =
    let start : base.0 ≡ udp_header + from.0 = ap (λ (o : PacketOffset). o.0) e in
    omega (arith, ap length (part-rest from.0 l) ∙ length-drop from.0 l)

-- the walk was made of the list behind `from`
walk : (strictness : Strictness) (from : OriginalOffset) (base : PacketOffset) (l : List ℕ) (result : Result Listed Met) → base ≡ offset_of from → from.0 ≤ length l
    → result ≡ walk_answer (base.0 + length (part from.0 (length l - from.0) l)) (walk_by strictness option_limit 0 (part from.0 (length l - from.0) l))
    → walk_answer (udp_header + length l) (walk_by strictness option_limit 0 (drop from.0 l)) ≡ result
walk strictness from base l result e h q =
    sym (q ∙ ap₂ (λ (end : ℕ) (t : List ℕ). walk_answer end (walk_by strictness option_limit 0 t)) (list-end from base l e h) (part-rest from.0 l))

pub walk_list-requires : goal.walk_list-requires
unfolding udp_header
walk_list-requires c = omega (arith, list-end c.args.from c.offset_of-base.result c.args.original.now c.offset_of-base.ensures c.requires.1)

pub returns-in-Ok : goal.returns-in-Ok
unfolding option_limit
returns-in-Ok c = let a = c.args in
    let whole : a.r.0 - 0 ≡ a.r.0 = omega arith in
    let apc = c.apc_of.ensures ∙ ap (λ (n : ℕ). apc_by (part 0 n a.original.now) c.in-Ok.list.apcs) whole in
    ◌∙◌ {b = rewalked_by a.original.now a.r.0 a.from.0
    (Ok c.in-Ok.list)}
    (λ i. rereads (record {
      user = places 0 a.r.0;
      verdict = Read;
      options = places a.from.0 (length a.original.now);
      count = c.in-Ok.list.count;
      fill = c.in-Ok.list.fill;
      apc = apc i;
    })) refl
    ∙ ap (rewalked_by a.original.now a.r.0 a.from.0) (sym (walk a.strictness a.from c.offset_of-base.result a.original.now _ c.offset_of-base.ensures c.requires.1 c.walk_list.ensures ∙ c.in-Ok.is))
    ∙ rereading-by-answer a.strictness option_limit a.original.now a.r.0 a.from.0
    (walk_by a.strictness option_limit 0 (drop a.from.0 a.original.now)) refl

pub returns-in-Err : goal.returns-in-Err
unfolding option_limit
returns-in-Err c = let a = c.args in
    c.faulty.ensures
    ∙ ap (rewalked_by a.original.now a.r.0 a.from.0) (sym (walk a.strictness a.from c.offset_of-base.result a.original.now _ c.offset_of-base.ensures c.requires.1 c.walk_list.ensures ∙ c.in-Err.is))
    ∙ rereading-by-answer a.strictness option_limit a.original.now a.r.0 a.from.0
    (walk_by a.strictness option_limit 0 (drop a.from.0 a.original.now)) refl
