-- `table_admission::by_store` meets its contract: the tests are the definition's, in its order, and no product wraps.
use mathlib.Core.Path.{refl}
use native.Mathlib.Omega.{arith}
use borrow.Author.Tests.{le-leb, lt-leb, eq-eqb, ne_eqb}
use Rattle.number_tests.specs.Tests.{first_of}
use Rattle.client_record.specs.Limits.{datagram_limit, share_size, assembly_limit, client_limit}
use Rattle.table_admission.proofs.by_store.Goals as goal

pub overflow_mul-places : goal.overflow_mul-places
unfolding client_limit assembly_limit
overflow_mul-places c = omega (arith, c.requires.few)

pub returns-then-bytes-places : goal.returns-then-bytes-places
unfolding first_of share_size datagram_limit
returns-then-bytes-places c = record { tests = simp (ne_eqb _ _ c.if-bytes-places.true); start = tt }

pub returns-then-count-k : goal.returns-then-count-k
unfolding first_of share_size datagram_limit
returns-then-count-k c = record { tests = simp (eq-eqb _ _ c.if-bytes-places.false, le-leb _ _ c.if-count-k.true); start = tt }

pub overflow_mul-result : goal.overflow_mul-result
unfolding client_limit assembly_limit
overflow_mul-result c = omega (arith, c.requires.few, c.requires.part)

pub returns : goal.returns
unfolding first_of share_size datagram_limit
returns c = record { tests = simp (eq-eqb _ _ c.if-bytes-places.false, lt-leb _ _ c.if-count-k.false); start = refl }
