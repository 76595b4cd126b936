-- How many assemblies a record has and how many slots an assembly, from what a function is told of a parameter on entry. The one place
-- that says where these fields stand in their structs.
-- Assumes nothing.
use mathlib.Core.Path.{◌≡◌}
use mathlib.Core.List.{List}
use lib.ListN.{length}
use mir.Val.{Val}
use denote.Laws.{Is}
use denote.Struct.Declared.{row}
use Rattle.client_record.specs.declared.Assembly.{Assembly}
use Rattle.client_record.specs.declared.Client.{Client}
use Rattle.client_record.specs.Limits.{fragment_limit, assembly_limit}
use Rattle.client_record.specs.contracts.Assembly as Assembly-as-T
use Rattle.client_record.specs.contracts.Client as Client-as-T

pub places : (c : Client) (vs : List Val) → Is (row Client-as-T.the_type) c vs → length c.assemblies ≡ assembly_limit
unfolding assembly_limit
places c vs good = good.1.1.1.1.1.1.1.1.1.1.1.0.1.0.1

pub slots : (a : Assembly) (vs : List Val) → Is (row Assembly-as-T.the_type) a vs → length a.fragments ≡ fragment_limit
unfolding fragment_limit
slots a vs good = good.1.1.1.1.1.1.0.1.0.1
