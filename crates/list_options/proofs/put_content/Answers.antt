-- `list_options::put_content` meets its contract: the arm says which numbers and bytes are written, one behind the other.
use mathlib.Core.Path.{◌≡◌, ap, subst, ◌∙◌}
use mathlib.Core.List.{List, ◌++◌}
use Prim.Native.Nat.{ℕ, ◌+◌, ◌-◌, ◌≤◌}
use native.Mathlib.Omega.{arith}
use lib.ListN.{length, length-append}
use Rattle.number_octets.specs.Octets.{part, overlay}
use Rattle.number_octets.proofs.Laws.{length_part}
use Rattle.number_varint.specs.SevenBit.{encoded}
use Rattle.list_options.specs.Listing.{content_code, Within, WrittenAt}
use Rattle.list_options.specs.declared.Content.{Content}
use Rattle.list_options.specs.declared.Content.TheVariants.{Raw}
use Rattle.list_options.proofs.Writes.{written_both}
use Rattle.list_options.proofs.put_content.Goals as goal

-- a raw body is within the bytes, and there is room for its size and itself
module _ (rest : List ℕ) {content : Content} {start size : ℕ} (is : content ≡ Raw start size) (within : Within rest content) where
  raw-within : (start + size ≤ length rest) × (size ≤ 65531)
  raw-within = subst (Within rest) is within

  raw-code : content_code rest content ≡ encoded size ++ part start size rest
  raw-code = ap (content_code rest) is

  raw-length : length (part start size rest) ≡ size
  raw-length = length_part start size rest raw-within.0

  raw-room : (at : ℕ) {room : ℕ} → at + length (content_code rest content) ≤ room → at + (length (encoded size) + size) ≤ room
  raw-room at h = omega (arith, h, ap length raw-code, length-append (encoded size) (part start size rest), raw-length)

pub put-next-requires : goal.put-next-requires
put-next-requires c = let v = c.in-Two in
    omega (
      arith,
      c.requires.1,
      ap length (ap (content_code c.args.rest.now) c.in-Two.is),
      length-append (encoded v.first)
          (encoded v.second),
    )

pub overflow_add-result : goal.overflow_add-result
overflow_add-result c = omega (arith, raw-room c.args.rest.now c.in-Raw.is c.requires.0 c.args.at c.requires.1, c.put-next-in-Raw.ensures.ends)

pub returns-in-Two : goal.returns-in-Two
returns-in-Two c = let code = ap (content_code c.args.rest.now) c.in-Two.is in
    rw code (written_both c.put-next.ensures c.put-in-Two.ensures (rw code at c.requires.1))

pub returns-in-Raw : goal.returns-in-Raw
returns-in-Raw c =
    let r = c.in-Raw in
    let put = c.put-next-in-Raw in
    let same : r.start + r.size - r.start ≡ r.size = omega arith in
    let bytes : ℕ → List ℕ = λ n. part r.start n c.args.rest.now in
    let code = raw-code c.args.rest.now r.is c.requires.0 in
    let copied : WrittenAt (bytes r.size) put.new.buffer put.result (put.result + r.size) c.copy.new.target =
    record {
      ends = omega (arith, raw-length c.args.rest.now r.is c.requires.0);
      all = c.copy.ensures ∙ ap (λ (n : ℕ). overlay put.new.buffer put.result (bytes n)) same;
    } in
    rw code (written_both put.ensures copied (rw code at c.requires.1))
