-- `list_options::content_size` meets its contract: the arm says which numbers and bytes are counted.
use mathlib.Core.Path.{◌≡◌, sym, ap, ap₂, ◌∙◌}
use Prim.Native.Nat.{◌+◌}
use native.Mathlib.Omega.{arith}
use lib.ListN.{length, length-append}
use Rattle.number_octets.specs.Octets.{part}
use Rattle.number_octets.proofs.Laws.{length_part}
use Rattle.number_varint.specs.SevenBit.{encoded}
use Rattle.number_varint.proofs.Laws.{encoded-short}
use Rattle.list_options.specs.Listing.{content_code}
use Rattle.list_options.specs.declared.Content.{Content}
use Rattle.list_options.proofs.content_size.Goals as goal

pub overflow_add-result : goal.overflow_add-result
overflow_add-result c = let a = c.encoded_length-in-Two.ensures in
    let b = c.encoded_length-in-Two-2.ensures in
    omega (arith, encoded-short c.in-Two.first, encoded-short c.in-Two.second)

pub overflow_add-result-in-Raw : goal.overflow_add-result-in-Raw
overflow_add-result-in-Raw c = let w = rw c.in-Raw.is at c.requires in
    omega (arith, c.encoded_length-in-Raw.ensures, encoded-short c.in-Raw.size, w.1)

pub returns-in-Two : goal.returns-in-Two
returns-in-Two c = let l = c.args.rest.now in
    let v = c.in-Two in
    ap₂ ◌+◌ c.encoded_length-in-Two.ensures c.encoded_length-in-Two-2.ensures ∙ sym (length-append (encoded v.first) (encoded v.second))
    ∙ sym (ap (λ (x : Content). length (content_code l x)) c.in-Two.is)

pub returns-in-Raw : goal.returns-in-Raw
returns-in-Raw c = let l = c.args.rest.now in
    let v = c.in-Raw in
    let w = rw c.in-Raw.is at c.requires in
    let long : length (part v.start v.size l) ≡ v.size = length_part v.start v.size l w.0 in
    ap₂ ◌+◌ c.encoded_length-in-Raw.ensures (sym long) ∙ sym (length-append (encoded v.size) (part v.start v.size l))
    ∙ sym (ap (λ (x : Content). length (content_code l x)) c.in-Raw.is)
