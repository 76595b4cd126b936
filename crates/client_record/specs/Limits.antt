-- The limits of document 01's table, each once.
use Rattle.std.specs.Prelude.{ℕ, ◌*◌}

-- the bytes of an original that an assembly holds at most
unfoldable pub datagram_limit : ℕ
datagram_limit = 8192

-- the fragments of an assembly
unfoldable pub fragment_limit : ℕ
fragment_limit = 64

-- the assemblies of a client at most: the largest plan
unfoldable pub assembly_limit : ℕ
assembly_limit = 8

-- the bytes of an IPv4 address
unfoldable pub address_size : ℕ
address_size = 4

-- how long an assembly lives, in milliseconds
unfoldable pub lifetime : ℕ
lifetime = 120000

-- the bytes that a client may offer in all
unfoldable pub offered_limit : ℕ
offered_limit = 1000000000000000

-- the share of the store of a client with this plan: as many places as the plan has
unfoldable pub share_size : ℕ → ℕ
share_size plan = plan * datagram_limit

-- the clients of a table
unfoldable pub client_limit : ℕ
client_limit = 12
