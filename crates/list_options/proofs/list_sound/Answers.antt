-- `list_options::list_sound` meets its contract: the size that was worked out is the listing's, and the options are written right behind the count.
use mathlib.Core.Path.{◌≡◌, refl, sym, ap, ap₂, ◌∙◌}
use mathlib.Core.List.{List, ◌++◌}
use Prim.Native.Nat.{ℕ, ◌+◌, ◌≤◌}
use native.Mathlib.Omega.{arith}
use lib.ListN.{length, length-append}
use Rattle.number_octets.specs.Octets.{overlay}
use Rattle.number_varint.specs.SevenBit.{encoded}
use Rattle.number_varint.proofs.Laws.{encoded-short}
use Rattle.wire_options.specs.Walk.{Walked, walk_from, option_limit, items_of}
use Rattle.list_encoding.specs.Encoding.{encoded_options}
use Rattle.list_options.specs.Listing.{unworked_all, listing, WrittenAt}
use Rattle.list_options.proofs.Listings.{walk-short}
use Rattle.list_options.proofs.Writes.{written_both}
use Rattle.list_options.proofs.Listeds.{listing-code, listed-full, listed-written}
use Rattle.list_options.proofs.list_sound.Goals as goal

abbrev walk_of : List ℕ → Walked
walk_of l = walk_from option_limit 0 l

abbrev code_of : List ℕ → List ℕ
code_of l = encoded_options (unworked_all (items_of (walk_of l)))

-- the count and the options make up the listing
listing-is : (l : List ℕ) {count : ℕ} → count ≡ length (items_of (walk_of l)) → listing (walk_of l) ≡ encoded count ++ code_of l
listing-is l e = listing-code (walk_of l) ∙ ap (λ (n : ℕ). encoded n ++ code_of l) (sym e)

sizes : (l : List ℕ) {count a b : ℕ} → count ≡ length (items_of (walk_of l)) → a ≡ length (encoded count) → b ≡ length (code_of l)
    → a + b ≡ length (listing (walk_of l))
sizes l {count} q e f = ap₂ ◌+◌ e f ∙ sym (length-append (encoded count) (code_of l)) ∙ sym (ap length (listing-is l q))

pub overflow_add-size : goal.overflow_add-size
overflow_add-size c = omega (
  arith,
  c.encoded_length.ensures,
  encoded-short c.args.count,
  c.options_size.ensures,
  walk-short c.args.options.now (λ i. omega (arith, c.type_inv.options i)),
)

pub returns-then-buffer-size : goal.returns-then-buffer-size
returns-then-buffer-size c = listed-full _ _ _
    (omega (arith, c.if-buffer-size.true, sizes c.args.options.now c.requires.1 c.encoded_length.ensures c.options_size.ensures))

pub returns : goal.returns
returns c =
    let l : List ℕ = c.args.options.now in
    let all = sizes l c.requires.1 c.encoded_length.ensures c.options_size.ensures in
    let room : length (listing (walk_of l)) ≤ length c.args.buffer.now = omega (arith, all, c.if-buffer-size.false) in
    let options : WrittenAt (code_of l) c.put-at.new.buffer c.put-at.result (c.put-at.result + length (code_of l)) c.put_options.new.buffer =
    record { ends = refl; all = c.put_options.ensures } in
    let both = written_both c.put-at.ensures options (omega (arith, room, ap length (listing-is l c.requires.1))) in
    listed-written _ _ _ _ _ room all c.requires.2 (both.all ∙ ap (overlay c.args.buffer.now 0) (sym (listing-is l c.requires.1)))
