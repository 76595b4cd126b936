-- The twelve lines hold: 1 to 8 are computed; for 9 to 12 demand 3 puts the client's book in the table's place, and the book is computed.
-- Assumes nothing.
use Prim.Native.Nat.{ℕ}
use mathlib.Core.Path.{◌≡◌, refl, ap, ap₂, ◌∙◌}
use mathlib.Core.List.{List, [], ◌∷◌, map}
use lib.ListN.{length, get_or, length-replicate}
use Rattle.number_tests.specs.Tests.{first_of}
use Rattle.number_octets.specs.Octets.{number, octets}
use Rattle.number_offsets.specs.Offsets.{udp_header}
use Rattle.number_checksum.specs.Checksum.{word_sum, folded, sent}
use Rattle.number_varint.specs.SevenBit as SevenBit
use Rattle.number_varint.specs.SevenBit.{is_last, is_idle, is_narrow, in_front, front, narrowed, groups, encoded}
use Rattle.wire_nops.specs.Nops.{nops_of}
use Rattle.wire_step.specs.Kinds.{class_of}
use Rattle.wire_step.specs.Step.{header_of, step_of}
use Rattle.wire_options.specs.Walk.{option_limit, walk_from}
use Rattle.wire_area.specs.Area.{area_of}
use Rattle.wire_surplus.specs.Surplus.{start_of}
use Rattle.wire_datagram.specs.Reading.{accepted, reading}
use Rattle.wire_reading.specs.Reading.{payload_limit}
use Rattle.list_entry.specs.Shape.{shape_of}
use Rattle.list_entry.specs.Option.{read_number, read_fields, read_body, read_kind, read_option}
use Rattle.list_encoding.specs.Encoding.{read_options, decoded_list}
use Rattle.list_payload.specs.Payload as Payload
use Rattle.list_payload.specs.Payload.{wire_of, worked, worked_all, wires, list_of, payload_of}
use Rattle.list_writer.specs.Answer.{fits, put_whole, written}
use Rattle.client_record.specs.Limits.{datagram_limit, fragment_limit, assembly_limit, lifetime, offered_limit, share_size, client_limit}
use Rattle.client_record.specs.Lists.{same_bytes, all, any, sum}
use Rattle.client_record.specs.Record.{fresh_client, same_flow}
use Rattle.client_ledger.specs.Book.{empty, size, end_of, total, held_bytes, held, same_key, of, mine, keep, others, opened_at, keys, due, outdated}
use Rattle.client_ledger.specs.Book.{advance, repeats, overlap, contradicts, within, complete, last_one, byte_at, bytes_to, rejecting, conflicting}
use Rattle.client_ledger.specs.Book.{storing, taking, no_room, is_repeat, is_conflict, is_full, fate, entry, offer_tests, clock_tests, figures}
use Rattle.client_ledger.specs.Lent.{count_off, plan_off, plans_off, store_off, table_tests, no_client, lent_tests, since, answered, keeping, book_of}
use Rattle.client_ledger.specs.Stands.{offer_of}
use Rattle.client_ledger.specs.History.{Lent, Given}
use Rattle.table_rules.specs.Table.{lent_of, counted, in_range, shares_of, sized}
use Rattle.table_rules.specs.Events.{Event, Keeps}
use Rattle.table_rules.specs.Owed.{owes}
use Rattle.table_rules.specs.Demand3.{Terms, opening}
use Rattle.table_rules.proofs.Demand3.{demand-3}
use Rattle.claim_figures.specs.Figures.{Line, refusal, calls, both, table, shown_by, called, in_order, last_first, overlapping, expiring, five_keys}
use Rattle.claim_figures.specs.Figures.{computed, stated}

-- document 01 has twelve starred lines
pub twelve-lines : length stated ≡ 12
unfolding stated
twelve-lines = refl

-- the line with this number
abbrev line : ℕ → List Line → Line
line n lines = get_or (refusal 0 ∷ lines) n (refusal 0)

-- `writer`, `reader` and `book` stand for the definitions that their lines compute with: to unfold one is to unfold all that it names
writer : Unit {0}
unfolding number octets udp_header word_sum folded sent is_last is_idle is_narrow in_front front narrowed SevenBit.number groups encoded shape_of
    read_number read_fields read_body read_kind read_option read_options decoded_list wire_of worked worked_all wires list_of payload_of Payload.area_of
    fits put_whole written payload_limit option_limit computed stated
writer = tt

reader : Unit {0}
unfolding number udp_header word_sum folded class_of header_of step_of walk_from nops_of area_of start_of payload_limit first_of accepted reading computed
    stated
reader = tt

-- ---- lines 1 to 8

line-1 : line 1 computed ≡ line 1 stated
unfolding writer
line-1 = refl

line-2 : line 2 computed ≡ line 2 stated
unfolding writer
line-2 = refl

line-3 : line 3 computed ≡ line 3 stated
unfolding writer
line-3 = refl

line-4 : line 4 computed ≡ line 4 stated
unfolding writer
line-4 = refl

line-5 : line 5 computed ≡ line 5 stated
unfolding reader
line-5 = refl

line-6 : line 6 computed ≡ line 6 stated
unfolding reader
line-6 = refl

line-7 : line 7 computed ≡ line 7 stated
unfolding reader
line-7 = refl

line-8 : line 8 computed ≡ line 8 stated
unfolding writer
line-8 = refl

-- ---- lines 9 to 12

-- the sizes and the plan of the table
lent : Lent
lent = record { count = 1; bytes = share_size 4; plans = 4 ∷ [] }

sizes : lent_of table ≡ lent
unfolding lent fresh_client
sizes = ap (λ (n : ℕ). record { count = 1; bytes = n; plans = 4 ∷ [] }) (length-replicate {A = ℕ} (share_size 4) 0)

terms : (es : List Event) → Keeps es → Terms table es
unfolding lent sized counted in_range shares_of all sum client_limit assembly_limit share_size datagram_limit
terms es keeps = record { fits = ap sized sizes; keeps = keeps }

-- what the book owes for a set-up and these calls
owed : List Event → Line
owed es = calls (map shown_by (owes 0 lent (since 0 lent) (opening es)))

on-book : (es : List Event) → Keeps es → called es ≡ owed es
unfolding owed
on-book es keeps =
    ap (λ (given : List Given). calls (map shown_by given))
    (demand-3.answers table es (terms es keeps) 0 ∙ ap (λ (l : Lent). owes 0 l (since 0 l) (opening es)) sizes)

book : Unit {0}
unfolding lent owed count_off plan_off plans_off store_off table_tests no_client lent_tests answered keeping book_of owes offer_of first_of empty size end_of total held_bytes held same_key of mine
    keep others opened_at keys due outdated advance repeats overlap contradicts within complete last_one byte_at bytes_to rejecting conflicting
    storing taking no_room is_repeat is_conflict is_full fate entry offer_tests clock_tests figures same_flow same_bytes any sum datagram_limit
    fragment_limit assembly_limit lifetime offered_limit share_size client_limit stated
book = tt

owed-9 : both (owed in_order) (owed last_first) ≡ line 9 stated
unfolding book
owed-9 = refl

owed-10 : owed overlapping ≡ line 10 stated
unfolding book
owed-10 = refl

owed-11 : owed expiring ≡ line 11 stated
unfolding book
owed-11 = refl

owed-12 : owed five_keys ≡ line 12 stated
unfolding book
owed-12 = refl

line-9 : line 9 computed ≡ line 9 stated
unfolding computed
line-9 = ap₂ both (on-book in_order (tt, (tt, tt))) (on-book last_first (tt, (tt, tt))) ∙ owed-9

line-10 : line 10 computed ≡ line 10 stated
unfolding computed
line-10 = on-book overlapping (tt, (tt, (tt, tt))) ∙ owed-10

line-11 : line 11 computed ≡ line 11 stated
unfolding computed
line-11 = on-book expiring (tt, (tt, (tt, (tt, (tt, tt))))) ∙ owed-11

line-12 : line 12 computed ≡ line 12 stated
unfolding computed
line-12 = on-book five_keys (tt, (tt, (tt, (tt, (tt, (tt, (tt, tt))))))) ∙ owed-12

-- ---- the claim

pub figures-hold : computed ≡ stated
unfolding computed stated
figures-hold =
    ap₂ ◌∷◌ line-1
    (ap₂ ◌∷◌ line-2
    (ap₂ ◌∷◌ line-3
    (ap₂ ◌∷◌ line-4
    (ap₂ ◌∷◌ line-5
    (ap₂ ◌∷◌ line-6
    (ap₂ ◌∷◌ line-7
    (ap₂ ◌∷◌ line-8
    (ap₂ ◌∷◌ line-9
    (ap₂ ◌∷◌ line-10
    (ap₂ ◌∷◌ line-11
    (ap₂ ◌∷◌ line-12 refl)))))))))))
