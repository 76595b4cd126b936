-- Document 01's "Figures to check by hand": for each of its twelve starred lines what the definitions in the public calls' contracts compute,
-- and what the paper says.
use Rattle.std.specs.Prelude.{ℕ, Bool, true, false, List, [], ◌∷◌, map, take, drop, replicate}
use Rattle.number_varint.specs.SevenBit.{encoded}
use Rattle.wire_nops.specs.declared.Strictness.TheVariants.{Plain}
use Rattle.wire_surplus.specs.Surplus.{ocs_of}
use Rattle.wire_datagram.specs.Reading as Reading
use Rattle.wire_datagram.specs.Reading.{udp_length, reading}
use Rattle.wire_reading.specs.Reading.{is_odd}
use Rattle.wire_reading.specs.declared.Verdict.{Verdict}
use Rattle.wire_reading.specs.declared.Verdict.TheVariants.{Short, Pad, Malformed}
use Rattle.list_encoding.specs.Encoding as Encoding
use Rattle.list_writer.specs.Answer.{written, datagram_for}
use Rattle.client_record.specs.Limits.{datagram_limit, share_size}
use Rattle.client_record.specs.Record.{fresh_client}
use Rattle.client_reassembly.specs.declared.Arrival.{Arrival}
use Rattle.client_reassembly.specs.Answer.{Reply, refused, ready, stored, repeated, conflict, delivered, advanced, account}
use Rattle.client_ledger.specs.History.{offering, advancing, accounting, Given}
use Rattle.table_rules.specs.Table.{Table}
use Rattle.table_rules.specs.Events.{Event, current, asking, gives}
use Rattle.table_rules.specs.Demand3.{opening}

-- what a line shows: the area or the option checksum of a payload that was written, a refusal's number, a verdict, what calls of the table
-- answered with the bytes that each handed out, or two of these
pub data Line : Type 0 where
  area : List ℕ → Line
  ocs : ℕ → Line
  refusal : ℕ → Line
  verdict : Verdict → Line
  calls : List (Reply × List ℕ) → Line
  both : Line → Line → Line

abbrev pub source : List ℕ
source = 192 ∷ 0 ∷ 2 ∷ 1 ∷ []

abbrev pub destination : List ℕ
destination = 198 ∷ 51 ∷ 100 ∷ 7 ∷ []

-- ---- the writer

-- the area is what stands behind the UDP length
abbrev pub area_in : List ℕ → List ℕ
area_in payload = drop (udp_length payload) payload

abbrev pub shows_area : List ℕ → Line
shows_area payload = area (area_in payload)

abbrev pub shows_ocs : List ℕ → Line
shows_ocs payload = ocs (ocs_of (is_odd (udp_length payload)) (area_in payload))

-- what a payload shows, or the refusal
abbrev pub shown : (List ℕ → Line) → List ℕ → Encoding.Answer ℕ → Line
shown show buffer (Encoding.given size) = show (take size buffer)
shown show buffer (Encoding.refused number) = refusal number

-- a datagram with this user data and encoded option list, fill 0, is written into a buffer of 32 bytes
abbrev pub wrote : (List ℕ → Line) → (user list : List ℕ) → Line
wrote show user list =
    let outcome = written (datagram_for source destination 4660 53 user 0) list (replicate 32 255) in
    shown show outcome.buffer outcome.answer

-- ---- the reader

abbrev pub judged : Reading.Answer → Line
judged (Reading.refused number) = refusal number
judged (Reading.reads r) = verdict r.verdict

-- a payload with this UDP length and no UDP checksum is read: ports, length, checksum, and what stands behind the header
abbrev pub read : ℕ → List ℕ → Line
read size behind = judged (reading Plain (0x12 ∷ 0x34 ∷ 0x00 ∷ 0x35 ∷ 0x00 ∷ size ∷ 0x00 ∷ 0x00 ∷ behind) source destination)

-- ---- the table

-- one client, of a plan of 4 (document 02, R-8: line 12 "is then one of a plan of 4")
abbrev pub table : Table
table = record { records = fresh_client 4 ∷ []; store = replicate (share_size 4) 0 }

abbrev pub out : List ℕ
out = replicate datagram_limit 0

-- a fragment call; option start 10 counts for the last fragment alone
abbrev pub fragment : (identification time place : ℕ) (bytes : List ℕ) (last : Bool) → Event
fragment identification time place bytes last =
    let arrival : Arrival = record {
      time = time;
      flow = record { source = source; destination = destination; source_port = 4660; destination_port = 53 };
      identification = identification;
      offset = record { 0 = place };
      option_start = record { 0 = 10 };
      last = last;
    } in
    asking current 0 (offering arrival bytes out)

abbrev pub clock : ℕ → Event
clock time = asking current 0 (advancing time)

abbrev pub bill : Event
bill = asking current 0 accounting

-- how many bytes a call hands out at the front of out
abbrev pub handed : Reply → ℕ
handed (refused number) = 0
handed ready = 0
handed stored = 0
handed repeated = 0
handed conflict = 0
handed (delivered size start) = size
handed advanced = 0
handed (account figures) = 0

abbrev pub shown_by : Given → Reply × List ℕ
shown_by given = (given.reply, take (handed given.reply) given.out)

-- a set-up and these calls
abbrev pub called : List Event → Line
called events = calls (map shown_by (gives 0 table (opening events)))

abbrev pub eight : List ℕ
eight = 1 ∷ 2 ∷ 3 ∷ 4 ∷ 5 ∷ 6 ∷ 7 ∷ 8 ∷ []

abbrev pub four : List ℕ
four = 9 ∷ 10 ∷ 11 ∷ 12 ∷ []

abbrev pub in_order : List Event
in_order = fragment 1 0 0 eight false ∷ fragment 1 5 8 four true ∷ []

abbrev pub last_first : List Event
last_first = fragment 1 0 8 four true ∷ fragment 1 5 0 eight false ∷ []

abbrev pub overlapping : List Event
overlapping = fragment 1 0 0 eight false ∷ fragment 1 5 7 (8 ∷ 9 ∷ []) false ∷ bill ∷ []

abbrev pub expiring : List Event
expiring = fragment 1 0 0 eight false ∷ clock 119999 ∷ bill ∷ clock 120000 ∷ bill ∷ []

-- four keys, then a fifth before and after the first key expires
abbrev pub five_keys : List Event
five_keys =
    fragment 1 0 0 eight false
    ∷ fragment 2 1 0 eight false
    ∷ fragment 3 2 0 eight false
    ∷ fragment 4 3 0 eight false
    ∷ fragment 5 4 0 eight false
    ∷ fragment 5 120000 0 eight false
    ∷ bill
    ∷ []

-- ---- what is computed

unfoldable pub computed : List Line
computed =
    -- 1: "docket 01 06 AC 02, empty data, fill 0"
    wrote shows_area [] (0x01 ∷ 0x06 ∷ 0xAC ∷ 0x02 ∷ [])
    -- 2: "the same after 1 data byte"
    ∷ wrote shows_area (7 ∷ []) (0x01 ∷ 0x06 ∷ 0xAC ∷ 0x02 ∷ [])
    -- 3: "docket 00, empty data"
    ∷ wrote shows_area [] (0x00 ∷ [])
    -- 4: "token 63,985 instead of 300"
    ∷ wrote shows_ocs [] (0x01 ∷ 0x06 ∷ encoded 63985)
    -- 5: "area of 1 byte at even L"
    ∷ read 8 (0x00 ∷ [])
    -- 6: "L = 9, area 01 FF FD"
    ∷ read 9 (7 ∷ 0x01 ∷ 0xFF ∷ 0xFD ∷ [])
    -- 7: "list 06 05 00 00 00", behind its option checksum F9 F3
    ∷ read 8 (0xF9 ∷ 0xF3 ∷ 0x06 ∷ 0x05 ∷ 0x00 ∷ 0x00 ∷ 0x00 ∷ [])
    -- 8: "docket 01 06 80 00"
    ∷ wrote shows_area [] (0x01 ∷ 0x06 ∷ 0x80 ∷ 0x00 ∷ [])
    -- 9: "pieces 0 to 8 and last 8 to 12, either order"
    ∷ both (called in_order) (called last_first)
    -- 10: "pieces 0 to 8 and 7 to 9"
    ∷ called overlapping
    -- 11: "opened at 0"
    ∷ called expiring
    -- 12: "a fifth key"
    ∷ called five_keys
    ∷ []

-- ---- what document 01 says; an account is offered, held, delivered, expired, conflicted, repeated and rejected

abbrev pub whole : Line
whole =
    calls ((ready, []) ∷ (stored, []) ∷ (delivered 12 10, 1 ∷ 2 ∷ 3 ∷ 4 ∷ 5 ∷ 6 ∷ 7 ∷ 8 ∷ 9 ∷ 10 ∷ 11 ∷ 12 ∷ []) ∷ [])

unfoldable pub stated : List Line
stated =
    -- 1: "area F8 C5 06 06 00 00 01 2C"
    area (0xF8 ∷ 0xC5 ∷ 0x06 ∷ 0x06 ∷ 0x00 ∷ 0x00 ∷ 0x01 ∷ 0x2C ∷ [])
    -- 2: "00 F8 C4 06 06 00 00 01 2C"
    ∷ area (0x00 ∷ 0xF8 ∷ 0xC4 ∷ 0x06 ∷ 0x06 ∷ 0x00 ∷ 0x00 ∷ 0x01 ∷ 0x2C ∷ [])
    -- 3: "area FF FD"
    ∷ area (0xFF ∷ 0xFD ∷ [])
    -- 4: "option checksum FF FF"
    ∷ ocs 0xFFFF
    -- 5: "short"
    ∷ verdict Short
    -- 6: "pad"
    ∷ verdict Pad
    -- 7: "malformed", met at the option (document 02, R-7)
    ∷ verdict (Malformed (record { 0 = 10 }))
    -- 8: "refusal 7"
    ∷ refusal 7
    -- 9: "12 bytes"
    ∷ both whole whole
    -- 10: "clash, 10 bytes"
    ∷ calls ((ready, []) ∷ (stored, []) ∷ (conflict, []) ∷ (account (10 ∷ 0 ∷ 0 ∷ 0 ∷ 10 ∷ 0 ∷ 0 ∷ []), []) ∷ [])
    -- 11: "live at 119,999, expired at 120,000"
    ∷ calls (
    (ready, [])
    ∷ (stored, [])
    ∷ (advanced, [])
    ∷ (account (8 ∷ 8 ∷ 0 ∷ 0 ∷ 0 ∷ 0 ∷ 0 ∷ []), [])
    ∷ (advanced, [])
    ∷ (account (8 ∷ 0 ∷ 0 ∷ 8 ∷ 0 ∷ 0 ∷ 0 ∷ []), [])
    ∷ []
    )
    -- 12: "29; after one expiry: taken"
    ∷ calls (
    (ready, [])
    ∷ (stored, [])
    ∷ (stored, [])
    ∷ (stored, [])
    ∷ (stored, [])
    ∷ (refused 29, [])
    ∷ (stored, [])
    ∷ (account (48 ∷ 32 ∷ 0 ∷ 8 ∷ 0 ∷ 0 ∷ 8 ∷ []), [])
    ∷ []
    )
    ∷ []
