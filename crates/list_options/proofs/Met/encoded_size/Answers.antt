-- `list_options::Met::encoded_size` meets its contract: an encoded option is its kind and its content.
use mathlib.Core.Path.{sym, ap, ap₂, ◌∙◌}
use Prim.Native.Nat.{◌+◌}
use native.Mathlib.Omega.{arith}
use lib.ListN.{length, length-append}
use Rattle.number_varint.specs.SevenBit.{encoded}
use Rattle.number_varint.proofs.Laws.{encoded-short}
use Rattle.list_options.proofs.Contents.{content-short, option-code}
use Rattle.list_options.proofs.Met.encoded_size.Goals as goal

pub overflow_add-result : goal.overflow_add-result
overflow_add-result c = omega (
  arith,
  c.encoded_length.ensures,
  encoded-short c.args.self.now.kind,
  c.content_size.ensures,
  content-short c.args.self.now.rest.now c.content.result c.content.ensures.within,
)

pub returns : goal.returns
returns c = ap₂ ◌+◌ c.encoded_length.ensures c.content_size.ensures
    ∙ sym (length-append (encoded c.args.self.now.kind) _) ∙ sym (ap length (option-code _ _ _ c.content.ensures))
